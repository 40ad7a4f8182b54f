-- The laws of the update call: what an accepted call knows, and what it leaves. Assumes nothing.
use mathlib.Core.Path.{◌≡◌, refl, ◌∙◌, ap}
use mathlib.Core.List.{List}
use Prim.Native.Nat.{ℕ, ◌*◌, ◌-◌, ◌≤◌, ◌<◌}
use native.Mathlib.Omega.{arith}
use lib.IntN.{ℤ}
use lib.ListN.{length}
use borrow.Author.Tests.{eqb-true, leb-true}
use Rattle.planes.specs.Layout.{red_row, red_column}
use Rattle.planes.specs.Planes.{Frame, frame, listing, plane_of}
use Rattle.planes.specs.Places.{half}
use Rattle.planes.proofs.Layouts.{row_lt}
use Rattle.planes.proofs.Places.{few_places}
use Rattle.questions.specs.Questions.{ask, shape_questions}
use Rattle.questions.proofs.Asking.{all_yes, all_yes_split, shape_is}
use Rattle.work_buffer.specs.Buffer.{zeroed, Workable}
use Rattle.work_buffer.proofs.Buffer.{length-with_plane, zeroed-with_plane}
use Rattle.update.specs.Update.{put_mixed, update}
use Rattle.update.specs.Calls.{updating_questions, update_questions, update_list}
use Rattle.update.specs.Places.{with_mixed}
use Rattle.update.proofs.Places.{second_colour}

-- ---- what an accepted call knows
pub update_workable : (top : ℕ) (f : Frame) (green : List ℕ) (room : ℕ) → 0 ≡ ask (update_questions top f green room) → Workable f.width f.height f.samples green room
update_workable top f green room e =
    let count = f.width * f.height in
    let y = all_yes_split (shape_questions f.width f.height f.layout) (updating_questions top count f.samples green room) (all_yes (update_questions top f green room) tt 0 e refl) in
    record {
      sizes = (shape_is f.width f.height f.layout y.0).sizes;
      samples = eqb-true (length f.samples) count y.1.0;
      greens = eqb-true (length green) count y.1.1.0;
      work = leb-true (8 * count) room y.1.1.1.0;
    }

-- ---- what it leaves
-- green: blue places, and then red places
pub both_colours : (top w h l : ℕ) (mosaic green : List ℕ) {first second : List ℕ}
    → first ≡ listing w h (put_mixed top w h (1 - red_row l) (1 - red_column l) (plane_of 0 w mosaic) (plane_of 0 w green) (plane_of 0 w green))
    → second ≡ listing w h (put_mixed top w h (red_row l) (red_column l) (plane_of 0 w mosaic) (plane_of 0 w first) (plane_of 0 w first))
    → second ≡ update_list top (frame w h l mosaic) green
unfolding update_list update
both_colours top w h l mosaic green e q =
    q ∙ second_colour top w h (red_row l) (red_column l) (1 - red_row l) (1 - red_column l) (λ x. let lt : red_row l < 2 = row_lt l in omega arith) (plane_of 0 w mosaic) (plane_of 0 w green) e

-- the work buffer: zeroed, whatever a colour left in its first w · h
module _ (top w h a b : ℕ) (mosaic green : List ℕ) (work : List ℤ) (hw : 1 ≤ w) (hh : 1 ≤ h) (room : 8 * (w * h) ≤ length work) where
  length-with_mixed : length (with_mixed top w h a b mosaic green work) ≡ length work
  unfolding with_mixed
  length-with_mixed = length-with_plane (half w b) (half h a) work (omega (arith, few_places w h a b hw hh, room)) _

  zeroed-mixed : zeroed w h (with_mixed top w h a b mosaic green work) ≡ zeroed w h work
  unfolding with_mixed
  zeroed-mixed = zeroed-with_plane w h (half w b) (half h a) _ work (omega (arith, few_places w h a b hw hh)) room

-- and whatever both did
pub work_zeroed : (top w h a b c d : ℕ) (mosaic green after : List ℕ) (work : List ℤ) → 1 ≤ w → 1 ≤ h → 8 * (w * h) ≤ length work → {first second last : List ℤ}
    → first ≡ with_mixed top w h a b mosaic green work → second ≡ with_mixed top w h c d mosaic after first → last ≡ zeroed w h second
    → last ≡ zeroed w h work
work_zeroed top w h a b c d mosaic green after work hw hh room {first} p q r =
    r ∙ ap (zeroed w h) q ∙ zeroed-mixed top w h c d mosaic after first hw hh (omega (arith, room, ap length p, length-with_mixed top w h a b mosaic green work hw hh room))
    ∙ ap (zeroed w h) p ∙ zeroed-mixed top w h a b mosaic green work hw hh room
