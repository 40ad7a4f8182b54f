-- Turning back and forth between two mosaics is a list of turning calls as demand 3 has it. Assumes nothing.
use mathlib.Core.Path.{◌≡◌, refl, sym, ◌∙◌, ap, subst}
use mathlib.Core.Bool.{not}
use mathlib.Core.List.{List, [], ◌∷◌}
use Prim.Native.Nat.{ℕ, zero, suc}
use native.Mathlib.Omega.{arith}
use Rattle.planes.specs.Planes.{Frame}
use Rattle.questions.specs.Questions.{ask}
use Rattle.std.proofs.Common.{Result, Ok, Err, length}
use Rattle.questions.specs.Refusals.{number_of}
use Rattle.questions.specs.Calls.{if_accepted, Outcome}
use Rattle.questions.specs.declared.Shape.{Shape}
use Rattle.questions.specs.declared.Refusal.{Refusal}
use Rattle.questions.specs.declared.Refusal.TheVariants as why
use Rattle.questions.proofs.Answering.{Found, none, refused, found-end, found-first, refusal_positive}
use Rattle.turns.specs.Frames.{turn_frame}
use Rattle.turns.specs.Turning.{turn_questions, shape_of}
use Rattle.finishing.specs.Turnings.{TurnRun, frame_after, TurnHistory, standing, if_turned, accepted_turns}
use Rattle.demand_3.specs.Between.{Between, in_between, call_between, turned_once, turned_all, turns_taken}

-- ---- a turning call
-- the first of its questions answered no
pub first_no : (t : ℕ) (f : Frame) (room : ℕ) → Found (ask (turn_questions t f room))
first_no t f room =
    found-first _ _ why.Turn refl
    (found-first _ _ why.Width refl
    (found-first _ _ why.Height refl (found-first _ _ why.Layout refl (found-first _ _ why.GivenLength refl (found-first _ _ why.FilledLength refl found-end)))))

-- the answer, by it
abbrev answer_for : {n : ℕ} → Found n → Frame → Result Shape Refusal
answer_for (none z) g = Ok (shape_of g)
answer_for (refused r e) g = Err r

abbrev run_of : ℕ → Between → TurnRun
run_of t b = record {
  turn = t;
  before = b.other;
  answer = answer_for (first_no t b.frame (length b.other)) (turn_frame t b.frame);
  after = if_accepted (call_between t b).questions (turn_frame t b.frame).samples b.other;
}

module _ (t : ℕ) (b : Between) where
  abbrev asked : ℕ
  asked = ask (call_between t b).questions

  abbrev g : Frame
  g = turn_frame t b.frame

  ran : Outcome (call_between t b) (run_of t b).answer (run_of t b).after
  ran = record { answer = record { number = number (first_no t b.frame (length b.other)); accepted = accepted (first_no t b.frame (length b.other)) }; leaves = refl }
    where
      number : {n : ℕ} (f : Found n) → number_of (answer_for f g) ≡ n
      number (none z) = sym z
      number (refused r e) = e

      accepted : {n : ℕ} (f : Found n) → n ≡ 0 → answer_for f g ≡ Ok (shape_of g)
      accepted (none z) y = refl
      accepted (refused r e) y = absurd (refusal_positive r (e ∙ y))

  -- what stands after it
  left : frame_after b.frame (run_of t b).answer (run_of t b).after ≡ (turned_once t b).frame
  unfolding turned_once if_accepted
  left = go asked (first_no t b.frame (length b.other))
    where
      go : (n : ℕ) (f : Found n) → frame_after b.frame (answer_for f g) (elim n [ zero ↦ g.samples | suc k ↦ b.other ]) ≡ (elim n as (λ k. Between) [ zero ↦ in_between g b.frame.samples (not b.swapped) | suc k ↦ b ]).frame
      go zero (none z) = refl
      go zero (refused r e) = absurd (refusal_positive r e)
      go (suc n) (none z) = absurd (omega arith)
      go (suc n) (refused r e) = refl

  -- and whether its turn is taken
  taken : (ts : List ℕ) → if_turned (run_of t b).answer t ts ≡ if_accepted (call_between t b).questions (t ∷ ts) ts
  unfolding if_accepted
  taken ts = go asked (first_no t b.frame (length b.other))
    where
      go : (n : ℕ) (f : Found n) → if_turned (answer_for f g) t ts ≡ elim n [ zero ↦ t ∷ ts | suc k ↦ ts ]
      go zero (none z) = refl
      go zero (refused r e) = absurd (refusal_positive r e)
      go (suc n) (none z) = absurd (omega arith)
      go (suc n) (refused r e) = refl

-- ---- a list of them
unfoldable pub runs_of : List ℕ → Between → List TurnRun
runs_of [] b = []
runs_of (t ∷ ts) b = run_of t b ∷ runs_of ts (turned_once t b)

pub history_of : (ts : List ℕ) (b : Between) → TurnHistory b.frame (runs_of ts b)
unfolding runs_of
history_of [] b = tt
history_of (t ∷ ts) b = (ran t b, subst (λ (f : Frame). TurnHistory f (runs_of ts (turned_once t b))) (sym (left t b)) (history_of ts (turned_once t b)))

pub standing_of : (ts : List ℕ) (b : Between) → standing b.frame (runs_of ts b) ≡ (turned_all ts b).frame
unfolding runs_of turned_all
standing_of [] b = refl
standing_of (t ∷ ts) b = ap (λ (f : Frame). standing f (runs_of ts (turned_once t b))) (left t b) ∙ standing_of ts (turned_once t b)

pub taken_of : (ts : List ℕ) (b : Between) → accepted_turns (runs_of ts b) ≡ turns_taken ts b
unfolding runs_of turns_taken
taken_of [] b = refl
taken_of (t ∷ ts) b = taken t b (accepted_turns (runs_of ts (turned_once t b))) ∙ (λ i. if_accepted (call_between t b).questions (t ∷ taken_of ts (turned_once t b) i) (taken_of ts (turned_once t b) i))
