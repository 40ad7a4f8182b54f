-- The laws of the call that reads a spot. Assumes nothing.
use mathlib.Core.Path.{◌≡◌, refl, ap, ◌∙◌, subst}
use Prim.Native.Nat.{ℕ, ◌*◌}
use borrow.Author.Tests.{eqb-true}
use Rattle.planes.specs.Planes.{Planes}
use Rattle.std.proofs.Common.{Result, Ok}
use Rattle.questions.specs.Questions.{ask}
use Rattle.questions.specs.Refusals.{refusal_number, number_of}
use Rattle.questions.specs.declared.Refusal.{Refusal}
use Rattle.spot.specs.Spot.{Sums, next_kept, reading}
use Rattle.questions.proofs.Asking.{all_yes}
use Rattle.questions.proofs.Answering.{refusal_positive, refuses, accepts, old_left}
use Rattle.window.proofs.Room.{room_of}
use Rattle.spot.specs.Calls.{SpotGiven, spot_questions, questions_of, spot_call, Small, SpotResult, PlanesRoom, PlaneSums}
use Rattle.spot.specs.declared.Kept.{Kept}
use Rattle.spot.specs.declared.Reading.{Reading}

-- where all is answered yes, the window has room in each plane
pub rooms : (width height : ℕ) (samples : Planes ℕ) (row column : ℕ) → 0 ≡ ask (spot_questions width height samples row column) → PlanesRoom width samples row column
rooms width height samples row column e =
    let y = (all_yes (spot_questions width height samples row column) tt 0 e refl).1.1 in
    let inside = y.1.1.1.0 in
    record {
      red = room_of width height row column inside (eqb-true samples.red (width * height) y.0);
      green = room_of width height row column inside (eqb-true samples.green (width * height) y.1.0);
      blue = room_of width height row column inside (eqb-true samples.blue (width * height) y.1.1.0);
    }

module _ (g : SpotGiven) where
  pub spot_refuses : (why : Refusal) {r : Result Reading Refusal} → number_of r ≡ refusal_number why → refusal_number why ≡ ask (questions_of g) → SpotResult g r g.kept
  spot_refuses why e p = record { result = refuses why e p; small = λ z. absurd (refusal_positive why (p ∙ z)) }

  pub spot_accepts : 0 ≡ ask (questions_of g) → {s : Sums} → PlaneSums g.width g.three g.row g.column s → {r : Reading} → r ≡ reading g.kept s → {after : Kept} → after ≡ next_kept g.kept s
      → SpotResult g (Ok r) after
  spot_accepts e p q k = record {
    result = accepts e (ap (λ x. Ok x) (q ∙ ap (reading g.kept) p.sums)) (k ∙ ap (next_kept g.kept) p.sums);
    small = λ y. subst Small p.sums p.small;
  }

-- A refused call keeps the spot, and whether a lit frame has come.
pub refused_keeps : (g : SpotGiven) {r : Result Reading Refusal} {after : Kept} → SpotResult g r after → (ask (questions_of g) ≡ 0 → ⊥) → after ≡ g.kept
refused_keeps g e = old_left (spot_call g) e.result.leaves
