-- `rounds::ask_rounds` meets its contract: 1 to 9, with 18 after 8, and then 10.
use mathlib.Core.Path.{◌∙◌, ap, refl}
use Prim.Native.Nat.{ℕ}
use Rattle.planes.specs.Planes.{planes}
use Rattle.questions.specs.Questions.{ask}
use Rattle.questions.proofs.Asking.{ask_then}
use Rattle.rounds.specs.Calls.{planes_questions}
use Rattle.questions.proofs.Answering.{refused-first}
use borrow.Author.Rules.{rules}
use Rattle.rounds.proofs.ask_rounds.Goals as goal

pub returns-in_err-ask_lent : goal.returns-in_err-ask_lent
returns-in_err-ask_lent c = refused-first _ _ _ _ (search rules) c.in_err-ask_lent.ensures

pub returns : goal.returns
returns c =
    let a = c.args in
    ask_then _ _ _ _ c.in_ok-ask_lent.ensures tt refl
    (c.ask_planes.ensures ∙ ap (λ (top : ℕ). ask (planes_questions top (planes a.red.now a.green.now a.blue.now))) c.ceiling.ensures)
