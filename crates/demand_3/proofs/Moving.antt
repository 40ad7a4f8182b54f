-- What the functions that run demand 3 leave. Assumes nothing.
use mathlib.Core.Path.{◌≡◌, refl, sym, ◌∙◌, ap, subst}
use mathlib.Core.Bool.{Bool, true, false, cond, not, xor}
use mathlib.Core.List.{List}
use Prim.Native.Nat.{ℕ, ◌+◌, ◌≤◌, ◌<◌}
use native.Mathlib.Numerals.{add-one}
use lib.ListN.{length, drop, get_or, drop_of_length-le}
use lib.Seq.{drop-cons}
use Rattle.planes.specs.Planes.{Frame}
use Rattle.questions.specs.Lent.{Lent}
use Rattle.std.proofs.Common.{Result, Ok, Err}
use Rattle.questions.specs.Settings.{framed}
use Rattle.questions.specs.Questions.{ask}
use Rattle.questions.specs.Refusals.{Answer, refusal_number, number_of}
use Rattle.questions.specs.declared.Shape.{Shape}
use Rattle.questions.specs.declared.Refusal.{Refusal}
use Rattle.questions.specs.Calls.{Outcome, Numbered}
use Rattle.questions.specs.declared.Settings.{Settings}
use Rattle.questions.proofs.Answering.{refusal_positive, left_no, left_yes, to_number, old_left}
use Rattle.turns.specs.Turning.{turn_questions, turn_call}
use Rattle.finishing.specs.Calls.{finish_call}
use Rattle.finishing.specs.Turnings.{Alike}
use Rattle.finishing.proofs.Demand3.{leaves_turned, demand_3_numbered}
use Rattle.demand_3.specs.Between.{Between, in_between, first_holds, second_holds, turned_once, turned_all}
use Rattle.demand_3.specs.Alike.{stands, Moved, FinishedAlike}
use Rattle.demand_3.specs.declared.Standing.{Standing}
use Rattle.demand_3.proofs.Histories.{runs_of, history_of, standing_of, taken_of}

abbrev standing_at : Shape → Bool → Standing
standing_at shape swapped = record { shape = shape; swapped = swapped }

-- ---- a turning call from one mosaic into another
module _ (t : ℕ) (at : Standing) (from to : List ℕ) where
  abbrev given : Frame
  given = framed at.shape from

  pub moved_yes : {r : Result Shape Refusal} {shape : Shape} {after : List ℕ} → Outcome (turn_call t given to) r after → r ≡ Ok shape → Moved t at from to (standing_at shape (not at.swapped)) after
  unfolding turned_once
  moved_yes {r} {shape} {after} first e =
      let u : Outcome (turn_call t given to) (Ok shape) after = subst (λ (a : Result Shape Refusal). Outcome (turn_call t given to) a after) e first in
      (λ i. in_between (framed shape (cond (other at.swapped i) after from)) (cond (other at.swapped i) from after) (not at.swapped))
      ∙ (λ i. in_between (leaves_turned t given u (sym u.answer.number) i) from (not at.swapped))
      ∙ left_yes (turn_questions t given (length to)) _ _ u.answer.number
    where
      other : (s : Bool) → xor (not s) s ≡ true
      other true = unfold xor in refl
      other false = unfold xor in refl

  pub moved_no : {r : Result Shape Refusal} {why : Refusal} {after : List ℕ} → Outcome (turn_call t given to) r after → r ≡ Err why → Moved t at from to at after
  unfolding turned_once
  moved_no {r} {why} {after} first e =
      (λ i. in_between (framed at.shape (cond (same at.swapped i) after from)) (cond (same at.swapped i) from after) at.swapped)
      ∙ (λ i. in_between given (kept i) at.swapped)
      ∙ left_no (turn_questions t given (length to)) _ _ (refusal_number why) number (refusal_positive why)
    where
      same : (s : Bool) → xor s s ≡ false
      same true = unfold xor in refl
      same false = unfold xor in refl

      number : refusal_number why ≡ ask (turn_questions t given (length to))
      number = sym (ap number_of e) ∙ first.answer.number

      kept : after ≡ to
      kept = old_left (turn_call t given to) first.leaves (λ z. refusal_positive why (number ∙ z))

-- ---- from the mosaic where the frame stands
chosen : (s : Bool) (x y : List ℕ) → cond (xor s true) x y ≡ cond s y x
chosen true x y = unfold xor in refl
chosen false x y = unfold xor in refl

chosen_not : (s : Bool) (x y : List ℕ) → cond (xor s false) x y ≡ cond s x y
chosen_not true x y = unfold xor in refl
chosen_not false x y = unfold xor in refl

module _ (t : ℕ) (at r : Standing) (first second after : List ℕ) where
  -- the turned frame, where the call was given the frame as it stands
  given-standing : {s : Bool} → at.swapped ≡ s → {b : Between}
      → b ≡ turned_once t (in_between (framed at.shape (cond s second first)) (cond s first second) at.swapped) → b ≡ turned_once t (stands at first second)
  given-standing e m = m ∙ (λ i. turned_once t (in_between (framed at.shape (cond (sym e i) second first)) (cond (sym e i) first second) at.swapped))

  pub once_second : at.swapped ≡ true → Moved t at second first r after → stands r after second ≡ turned_once t (stands at first second)
  once_second e m =
      (λ i. in_between (framed r.shape (place after second i)) (place second after i) r.swapped) ∙ given-standing e m
    where
      place : (x y : List ℕ) → cond r.swapped y x ≡ cond (xor r.swapped at.swapped) x y
      place x y = sym (chosen r.swapped x y) ∙ ap (λ (s : Bool). cond (xor r.swapped s) x y) (sym e)

  pub once_first : at.swapped ≡ false → Moved t at first second r after → stands r first after ≡ turned_once t (stands at first second)
  once_first e m =
      (λ i. in_between (framed r.shape (place after first i)) (place first after i) r.swapped) ∙ given-standing e m
    where
      place : (x y : List ℕ) → cond r.swapped x y ≡ cond (xor r.swapped at.swapped) x y
      place x y = sym (chosen_not r.swapped x y) ∙ ap (λ (s : Bool). cond (xor r.swapped s) x y) (sym e)

-- ---- one after another: what is left of the turns, from what stands now, gives what all of them give
pub all_step : (ts : List ℕ) (k : ℕ) → k < length ts → (b : Between) {b' end : Between} → b' ≡ turned_once (get_or ts k 0) b → turned_all (drop k ts) b ≡ end → turned_all (drop (k + 1) ts) b' ≡ end
unfolding turned_all
all_step ts k h b e p =
    ap (turned_all (drop (k + 1) ts)) e ∙ ap (λ (n : ℕ). turned_all (drop n ts) (turned_once (get_or ts k 0) b)) (add-one k)
    ∙ sym (ap (λ (l : List ℕ). turned_all l b) (drop-cons ts k 0 h)) ∙ p

pub all_done : (ts : List ℕ) (k : ℕ) → length ts ≤ k → {b end : Between} → turned_all (drop k ts) b ≡ end → b ≡ end
unfolding turned_all
all_done ts k h {b} p = sym (ap (λ (l : List ℕ). turned_all l b) (drop_of_length-le ts h)) ∙ p

-- ---- finished from the mosaic where the frame stands
pub finished_standing : (at : Standing) (first second : List ℕ) (s : Settings) (before : Lent) {mosaic : List ℕ} → mosaic ≡ cond at.swapped second first → {r : Answer} {after : Lent}
    → Outcome (finish_call (framed at.shape mosaic) s before) r after → Outcome (finish_call (stands at first second).frame s before) r after
finished_standing at first second s before e {r} {after} q = subst (λ (l : List ℕ). Outcome (finish_call (framed at.shape l) s before) r after) e q

-- ---- all of it
first_is : (at : Standing) (first second : List ℕ) → first_holds (stands at first second) ≡ first
first_is at first second = go at.swapped
  where
    go : (s : Bool) → cond s (cond s first second) (cond s second first) ≡ first
    go true = refl
    go false = refl

second_is : (at : Standing) (first second : List ℕ) → second_holds (stands at first second) ≡ second
second_is at first second = go at.swapped
  where
    go : (s : Bool) → cond s (cond s second first) (cond s first second) ≡ second
    go true = refl
    go false = refl

pub run_alike : (turns : List ℕ) (f : Frame) (other : List ℕ) (s : Settings) (before₁ before₂ : Lent) {r₁ r₂ : Answer} {at : Standing} {first second : List ℕ} {after₁ after₂ : Lent}
    → Outcome (finish_call f s before₁) r₁ after₁ → stands at first second ≡ turned_all turns (in_between f other false) → Outcome (finish_call (stands at first second).frame s before₂) r₂ after₂
    → FinishedAlike turns f other s before₁ before₂ (record { given = r₁; turned = r₂ }) first second after₁ after₂
run_alike turns f other s before₁ before₂ {r₁} {r₂} {at} {first} {second} {after₁} {after₂} p e q = record {
  given = p;
  turned = stood;
  first_mosaic = sym (first_is at first second) ∙ ap first_holds e;
  second_mosaic = sym (second_is at first second) ∙ ap second_holds e;
  alike = λ room.
      subst (λ (ts : List ℕ). Alike ts f (number_of r₁) (number_of r₂) after₁.three after₂.three) (taken_of turns start)
      (demand_3_numbered f (runs_of turns start) (history_of turns start) s before₁ before₂ room (to_number p refl)
      (subst (λ (g : Frame). Numbered (finish_call g s before₂) (number_of r₂) after₂) (sym (standing_of turns start)) (to_number stood refl)));
}
  where
    start : Between
    start = in_between f other false

    stood : Outcome (finish_call (turned_all turns start).frame s before₂) r₂ after₂
    stood = subst (λ (b : Between). Outcome (finish_call b.frame s before₂) r₂ after₂) e q
