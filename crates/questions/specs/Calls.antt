-- A call as its contract sees it: what it asks, what it answers, and what its lent buffers hold afterwards. Assumes nothing.
use Rattle.std.specs.Prelude.{ℕ, zero, suc, ◌≡◌, List, Result, Ok}
use Rattle.questions.specs.Questions.{Question, ask}
use Rattle.questions.specs.Refusals.{number_of}
use Rattle.questions.specs.declared.Refusal.{Refusal}

-- The answer r of a call that asks qs: its number is that of the first question answered no, and where no question is, r is `Ok` of what is promised.
pub record Answered {A : Type 0} (qs : List Question) (promised : A) (r : Result A Refusal) : Type 0 where
  pub number : number_of r ≡ ask qs
  pub accepted : ask qs ≡ 0 → r ≡ Ok promised

-- What a call that asks qs leaves: `new` where no question is answered no, else `old`.
unfoldable pub if_accepted : {A : Type 0} → List Question → A → A → A
if_accepted qs new old = elim (ask qs) [ zero ↦ new | suc n ↦ old ]

-- A call that hands back an A and is lent a B: its questions; what it hands back where it accepts; and what the buffers hold then, the new, or where
-- it refuses, the old.
pub record Call (A B : Type 0) : Type 0 where
  pub questions : List Question
  pub answer : A
  pub new : B
  pub old : B

-- the call's answer r, and what its buffers hold after
pub record Outcome {A B : Type 0} (c : Call A B) (r : Result A Refusal) (after : B) : Type 0 where
  pub answer : Answered c.questions c.answer r
  pub leaves : after ≡ if_accepted c.questions c.new c.old

-- of its answer the number r alone
pub record Numbered {A B : Type 0} (c : Call A B) (r : ℕ) (after : B) : Type 0 where
  pub number : r ≡ ask c.questions
  pub leaves : after ≡ if_accepted c.questions c.new c.old

-- ---- a call that hands back nothing beside, by its questions, the new and the old
abbrev pub plain_call : {B : Type 0} → List Question → B → B → Call (Unit {0}) B
plain_call qs new old = record { questions = qs; answer = tt; new = new; old = old }
