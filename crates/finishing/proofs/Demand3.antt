-- Demand 3: a frame that was turned, by any list of turning calls, is finished as the frame itself. Assumes nothing.
use mathlib.Core.Path.{◌≡◌, refl, sym, ◌∙◌, ap}
use mathlib.Core.Bool.{Bool, true, false, cond}
use mathlib.Core.List.{List, [], ◌∷◌}
use Prim.Native.Nat.{ℕ, zero, suc, ◌*◌}
use native.Mathlib.Nat.{mul_comm}
use native.Mathlib.Omega.{arith}
use lib.Dec.{eqb, leb}
use lib.ListN.{length}
use borrow.Author.Tests.{eq-eqb, le-leb}
use Rattle.planes.specs.Planes.{Frame, frame, Planes}
use Rattle.questions.specs.Settings.{ceiling_of}
use Rattle.questions.specs.Questions.{question, ask, between}
use Rattle.questions.specs.Lent.{Lent, Rooms, rooms_of, wide_enough}
use Rattle.std.proofs.Common.{Result, Ok, Err}
use Rattle.questions.specs.Refusals.{Answer, number_of}
use Rattle.questions.specs.declared.Shape.{Shape}
use Rattle.questions.specs.declared.Refusal.{Refusal}
use Rattle.questions.specs.Calls.{Call, Outcome, Numbered}
use Rattle.questions.specs.declared.Settings.{Settings}
use Rattle.questions.proofs.Asking.{between_yes}
use Rattle.questions.proofs.Answering.{to_number, new_left}
use Rattle.tally.specs.declared.Tally.{Tally}
use Rattle.turns.specs.Frames.{turn_frame}
use Rattle.turns.specs.Turning.{turn_questions, turn_call}
use Rattle.turns.proofs.Frames.{turned-whole, all_at_most-turned, layout_turned, level_turned}
use Rattle.turns.proofs.Calls.{frame_width, frame_height, Fillable, fillable}
use Rattle.finishing.specs.Finishing.{finish_lists}
use Rattle.finishing.specs.Calls.{finish_questions, finish_call, finish_given, FinishResult}
use Rattle.finishing.specs.Turnings.{TurnRun, frame_after, TurnHistory, standing, if_turned, accepted_turns, turned_through, turned_planes, Alike, both_accepted, both_refused}
use Rattle.finishing.proofs.Turned.{finished_turned}

-- ---- an accepted turning call
module _ (t : ℕ) (f : Frame) {before after : List ℕ} {r : Result Shape Refusal} (u : Outcome (turn_call t f before) r after) (z : ask (turn_questions t f (length before)) ≡ 0) where
  -- leaves the turned frame
  pub leaves_turned : frame_after f r after ≡ turn_frame t f
  leaves_turned =
      ap (λ (a : Result Shape Refusal). frame_after f a after) (u.answer.accepted z)
      ∙ (λ i. frame (turn_frame t f).width (turn_frame t f).height (turn_frame t f).layout (filled i))
    where
      filled : after ≡ (turn_frame t f).samples
      filled = new_left (turn_call t f before) u.leaves z

-- of which finishing's questions are answered as of the frame
module _ (t : ℕ) (f : Frame) {other : ℕ} (k : Fillable f.width f.height f.layout (length f.samples) other) where
  -- one of a frame's two lengths, in range
  in_range : (b : Bool) {n : ℕ} → n ≡ cond b f.height f.width → between 2 2048 n ≡ true
  in_range true e = ap (between 2 2048) e ∙ between_yes 2 2048 f.height k.shape.sizes.height_from k.shape.sizes.height_to
  in_range false e = ap (between 2 2048) e ∙ between_yes 2 2048 f.width k.shape.sizes.width_from k.shape.sizes.width_to

  area : (turn_frame t f).width * (turn_frame t f).height ≡ f.width * f.height
  area = (λ i. frame_width t f i * frame_height t f i) ∙ either (leb 4 t)
    where
      either : (b : Bool) → cond b f.height f.width * cond b f.width f.height ≡ f.width * f.height
      either true = mul_comm f.height f.width
      either false = refl

  questions_turned : (s : Settings) (room : Rooms) → finish_questions (turn_frame t f) s room ≡ finish_questions f s room
  questions_turned s room = λ i.
      question 1 (both (in_range (leb 4 t) (frame_width t f)) (in_range false refl) i)
      ∷ question 2 (both (tall (leb 4 t) (frame_height t f)) (in_range true refl) i)
      ∷ question 3 (both (le-leb _ 7 (layout_turned t f k.shape.layout_to)) (le-leb f.layout 7 k.shape.layout_to) i)
      ∷ question 4 (leb s.rounds 64)
      ∷ question 5 (leb s.threshold (ceiling_of s))
      ∷ question 6 (both (eq-eqb _ _ (turned-whole t f).count) (eq-eqb (length f.samples) (f.width * f.height) k.samples) i)
      ∷ question 7 (eqb room.three.red (area i))
      ∷ question 7 (eqb room.three.green (area i))
      ∷ question 7 (eqb room.three.blue (area i))
      ∷ question 8 (leb (8 * area i) room.work)
      ∷ question 18 (wide_enough (level_turned t f i) (area i) room.wide)
      ∷ question 9 (all_at_most-turned (ceiling_of s) t f (record { count = k.samples }) i)
      ∷ []
    where
      both : {a b : Bool} → a ≡ true → b ≡ true → a ≡ b
      both p q = p ∙ sym q

      tall : (b : Bool) {n : ℕ} → n ≡ cond b f.width f.height → between 2 2048 n ≡ true
      tall true e = in_range false e
      tall false e = in_range true e

-- ---- a turning call, accepted or refused
-- what stands is the frame turned by the turn, if it was accepted
stands-turned : (t : ℕ) (f : Frame) (before : List ℕ) (r : Result Shape Refusal) (after : List ℕ) → Outcome (turn_call t f before) r after
    → (ts : List ℕ) → turned_through ts (frame_after f r after) ≡ turned_through (if_turned r t ts) f
unfolding turned_through
stands-turned t f before (Ok turned) after u ts = ap (turned_through ts) (leaves_turned t f u (sym u.answer.number))
stands-turned t f before (Err why) after u ts = refl

-- and its questions are answered alike
questions_kept : (t : ℕ) (f : Frame) (before : List ℕ) (r : Result Shape Refusal) (after : List ℕ) → Outcome (turn_call t f before) r after
    → (s : Settings) (room : Rooms) → finish_questions (frame_after f r after) s room ≡ finish_questions f s room
questions_kept t f before (Ok turned) after u s room =
    ap (λ (g : Frame). finish_questions g s room) (leaves_turned t f u (sym u.answer.number))
    ∙ questions_turned t f (fillable t f.width f.height f.layout (length f.samples) (length before) u.answer.number) s room
questions_kept t f before (Err why) after u s room = refl

-- ---- any list of them
standing-turned : (f : Frame) (runs : List TurnRun) → TurnHistory f runs → standing f runs ≡ turned_through (accepted_turns runs) f
standing-turned f [] h = unfold turned_through in refl
standing-turned f (run ∷ runs) h =
    standing-turned (frame_after f run.answer run.after) runs h.1 ∙ stands-turned run.turn f run.before run.answer run.after h.0 (accepted_turns runs)

questions_standing : (f : Frame) (runs : List TurnRun) → TurnHistory f runs
    → (s : Settings) (room : Rooms) → finish_questions (standing f runs) s room ≡ finish_questions f s room
questions_standing f [] h s room = refl
questions_standing f (run ∷ runs) h s room =
    questions_standing (frame_after f run.answer run.after) runs h.1 s room ∙ questions_kept run.turn f run.before run.answer run.after h.0 s room

-- ---- the two finishings
-- equal numbers, 0 or not
alike_by : (ts : List ℕ) (f : Frame) (n₁ n₂ : ℕ) (p₁ p₂ : Planes (List ℕ)) → n₁ ≡ n₂ → (n₁ ≡ 0 → p₂ ≡ turned_planes ts f p₁) → Alike ts f n₁ n₂ p₁ p₂
alike_by ts f zero n₂ p₁ p₂ e turned = both_accepted refl (sym e) (turned refl)
alike_by ts f (suc n) n₂ p₁ p₂ e turned = both_refused (λ z. omega arith) e

-- Take any frame f and any list of turning calls, refused ones included, each given what the last accepted one before it left. Finish the
-- frame as first given, and finish what stands after the list, with the same settings and buffer lengths, whatever planes and work
-- buffers held before. Then both are accepted, and each plane of the second is the first's plane of that colour turned by the list's accepted
-- turns in order; or both are refused with the same number. Here of each call only the number of its answer.
pub demand_3_numbered : (f : Frame) (turnings : List TurnRun) → TurnHistory f turnings → (s : Settings) (before₁ before₂ : Lent) → rooms_of before₁ ≡ rooms_of before₂
    → {n₁ n₂ : ℕ} {after₁ after₂ : Lent} → Numbered (finish_call f s before₁) n₁ after₁ → Numbered (finish_call (standing f turnings) s before₂) n₂ after₂
    → Alike (accepted_turns turnings) f n₁ n₂ after₁.three after₂.three
demand_3_numbered f turnings h s before₁ before₂ room {n₁} {n₂} {after₁} {after₂} p q =
    alike_by (accepted_turns turnings) f n₁ n₂ after₁.three after₂.three (p.number ∙ ap ask alike ∙ sym q.number) turned
  where
    first : Call (Unit {0}) Lent
    first = finish_call f s before₁

    second : Call (Unit {0}) Lent
    second = finish_call (standing f turnings) s before₂

    alike : first.questions ≡ second.questions
    alike = ap (finish_questions f s) room ∙ sym (questions_standing f turnings h s (rooms_of before₂))

    turned : n₁ ≡ 0 → after₂.three ≡ turned_planes (accepted_turns turnings) f after₁.three
    turned z =
        ap (λ (l : Lent). l.three) (new_left second q.leaves (sym (ap ask alike) ∙ sym p.number ∙ z))
        ∙ ap (λ (g : Frame). finish_lists g s) (standing-turned f turnings h) ∙ finished_turned s (accepted_turns turnings) f
        ∙ ap (λ (l : Lent). turned_planes (accepted_turns turnings) f l.three) (sym (new_left first p.leaves (sym p.number ∙ z)))

-- The same of the finishing call's answers.
pub demand_3 : (f : Frame) (turnings : List TurnRun) → TurnHistory f turnings → (s : Settings) (before₁ before₂ : Lent) → rooms_of before₁ ≡ rooms_of before₂
    → {r₁ r₂ : Answer} {after₁ after₂ : Lent} → Outcome (finish_call f s before₁) r₁ after₁ → Outcome (finish_call (standing f turnings) s before₂) r₂ after₂
    → Alike (accepted_turns turnings) f (number_of r₁) (number_of r₂) after₁.three after₂.three
demand_3 f turnings h s before₁ before₂ room p q =
    demand_3_numbered f turnings h s before₁ before₂ room (to_number p refl) (to_number q refl)

-- And of the call with a tally, with any two tallies.
pub demand_3_counted : (f : Frame) (turnings : List TurnRun) → TurnHistory f turnings → (s : Settings) (before₁ before₂ : Lent) → rooms_of before₁ ≡ rooms_of before₂
    → {tally₁ tally₂ : Tally} {r₁ r₂ : Answer × Tally} {after₁ after₂ : Lent}
    → FinishResult (finish_given f s before₁ tally₁) r₁ after₁ → FinishResult (finish_given (standing f turnings) s before₂ tally₂) r₂ after₂
    → Alike (accepted_turns turnings) f (number_of r₁.0) (number_of r₂.0) after₁.three after₂.three
demand_3_counted f turnings h s before₁ before₂ room p q =
    demand_3_numbered f turnings h s before₁ before₂ room
    (to_number p.result refl) (to_number q.result refl)
