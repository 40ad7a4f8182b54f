-- The laws of the rounds call: what an accepted call knows, and what it leaves. Assumes nothing.
use mathlib.Core.Path.{◌≡◌, refl, sym, ◌∙◌, ap}
use mathlib.Core.Bool.{true}
use mathlib.Core.List.{List, ◌++◌}
use Prim.Native.Nat.{ℕ, ◌+◌, ◌*◌, ◌≤◌, ◌<◌}
use native.Mathlib.Omega.{arith}
use lib.IntN.{ℤ}
use lib.ListN.{length}
use borrow.Author.Tests.{eqb-true, leb-true}
use Rattle.integers.proofs.Tests.{true_is}
use Rattle.planes.specs.Layout.{two_levels}
use Rattle.planes.specs.Planes.{Frame, Planes, planes, listing, listings, plane_of}
use Rattle.planes.proofs.Planes.{listing-plane_of, listing_agree}
use Rattle.std.proofs.lemmas.Nat.{mul-add-lt}
use Rattle.questions.specs.Settings.{ceiling_of, rounds_of}
use Rattle.questions.specs.Questions.{ask, all_at_most, shape_questions, settings_questions, frame_questions}
use Rattle.questions.specs.Lent.{Lent, lent, rooms_of, wide_enough, buffer_questions}
use Rattle.questions.specs.declared.Settings.{Settings}
use Rattle.questions.proofs.Asking.{AllYes, all_yes, all_yes_split, shape_is, all_at_most_at}
use Rattle.work_buffer.specs.Buffer.{zeroed, wide_zeroed, Workable}
use Rattle.working_plane.specs.Rounds.{rewritten}
use Rattle.working_plane.specs.Colours.{round_of, rewritten_list}
use Rattle.working_plane.specs.declared.Colour.{Colour}
use Rattle.working_plane.proofs.Repeated.{no_round}
use Rattle.rounds.specs.Rounds.{rounds}
use Rattle.rounds.specs.Calls.{planes_questions, rounds_questions, rounds_lists, with_rounds}
use Rattle.rounds.specs.Colours.{red_of, blue_of}

-- ---- what an accepted call knows
module _ (f : Frame) (s : Settings) (before : Lent) (e : 0 ≡ ask (rounds_questions f s before)) where
  abbrev count : ℕ
  count = f.width * f.height

  -- all questions are answered yes
  known : AllYes (frame_questions f.width f.height f.layout s) × AllYes (buffer_questions (ceiling_of s) (two_levels f.layout) count f.samples (rooms_of before) ++ planes_questions (ceiling_of s) before.three)
  known =
      all_yes_split (frame_questions f.width f.height f.layout s) (buffer_questions (ceiling_of s) (two_levels f.layout) count f.samples (rooms_of before) ++ planes_questions (ceiling_of s) before.three)
      (all_yes (rounds_questions f s before) tt 0 e refl)

  pub rounds_workable : Workable f.width f.height f.samples before.three.green (length before.work)
  rounds_workable =
      let y = known.1 in
      let u = shape_is f.width f.height f.layout (all_yes_split (shape_questions f.width f.height f.layout) (settings_questions s) known.0).0 in
      record {
        sizes = u.sizes;
        samples = eqb-true (length f.samples) count (search y);
        greens = eqb-true (length before.three.green) count (search y);
        work = leb-true (8 * count) (length before.work) (search y);
      }

  pub wide_known : wide_enough (two_levels f.layout) count (length before.wide) ≡ true
  wide_known = let y = known.1 in search y

  pub red_long : length before.three.red ≡ count
  red_long = let y = known.1 in eqb-true (length before.three.red) count (search y)

  pub blue_long : length before.three.blue ≡ count
  blue_long = let y = known.1 in eqb-true (length before.three.blue) count (search y)

  -- 10 is answered yes
  reds_small : all_at_most (ceiling_of s) before.three.red ≡ true
  reds_small = let y = known.1 in search y

  blues_small : all_at_most (ceiling_of s) before.three.blue ≡ true
  blues_small = let y = known.1 in search y

  -- with no round no plane changes: each sample is at most the ceiling, so that the last clip leaves it
  pub no_rounds : rounds_of s ≡ 0 → rounds_lists f s before.three ≡ before.three
  unfolding rounds_lists rounds
  no_rounds none = λ i.
      planes (same (red_of f.width f.height f.layout s) before.three.red red_long reds_small i)
      before.three.green
      (same (blue_of f.width f.height f.layout s) before.three.blue blue_long blues_small i)
    where
      small_at : (plane : List ℕ) → length plane ≡ count → all_at_most (ceiling_of s) plane ≡ true → (r c : ℕ) → r < f.height → c < f.width → plane_of 0 f.width plane r c ≤ ceiling_of s
      small_at plane e small r c hr hc = unfold plane_of in all_at_most_at (ceiling_of s) plane (true_is small) (r * f.width + c) (omega (arith, e, mul-add-lt _ _ _ _ hr hc))

      same : (k : Colour) (plane : List ℕ) → length plane ≡ count → all_at_most (ceiling_of s) plane ≡ true
          → listing f.width f.height (rewritten (rounds_of s) (round_of (two_levels f.layout) k (ceiling_of s) f.samples before.three.green) (plane_of 0 f.width plane)) ≡ plane
      same k plane e small =
          ap (λ (n : ℕ). listing f.width f.height (rewritten n (round_of (two_levels f.layout) k (ceiling_of s) f.samples before.three.green) (plane_of 0 f.width plane))) none
          ∙ listing_agree f.width f.height (λ r c hr hc. no_round _ (plane_of 0 f.width plane) r c (small_at plane e small r c hr hc))
          ∙ listing-plane_of 0 f.width f.height plane e

-- ---- what it leaves
module _ (f : Frame) (s : Settings) (before : Lent) where
  abbrev w : ℕ
  w = f.width

  abbrev h : ℕ
  h = f.height

  -- red and blue rewritten, and the work buffers zeroed
  pub all_rewritten : (first : List ℤ) {red blue : List ℕ} {last wide : List ℤ}
      → red ≡ rewritten_list (two_levels f.layout) (red_of w h f.layout s) (ceiling_of s) (rounds_of s) f.samples before.three.green before.three.red
      → blue ≡ rewritten_list (two_levels f.layout) (blue_of w h f.layout s) (ceiling_of s) (rounds_of s) f.samples before.three.green before.three.blue
      → zeroed w h first ≡ zeroed w h before.work → last ≡ zeroed w h first → wide ≡ wide_zeroed (two_levels f.layout) w h before.wide
      → lent red before.three.green blue last wide ≡ with_rounds f s before
  unfolding rounds_lists rounds
  all_rewritten first reds blues scratch zero wide = λ i. lent (reds i) before.three.green (blues i) ((zero ∙ scratch) i) (wide i)

-- Green too is what the operation `rounds` makes of the given planes, row by row.
pub lists_are : (f : Frame) (s : Settings) (given : Planes (List ℕ)) → length given.green ≡ f.width * f.height
    → let plane = plane_of {A = ℕ} 0 f.width in
    rounds_lists f s given
    ≡ listings f.width f.height (rounds s f.width f.height f.layout (λ r c. (plane f.samples r c, planes (plane given.red r c) (plane given.green r c) (plane given.blue r c))))
unfolding rounds_lists rounds
lists_are f s given long = λ i.
    planes (rounds_lists f s given).red (sym (listing-plane_of 0 f.width f.height given.green long) i) (rounds_lists f s given).blue
