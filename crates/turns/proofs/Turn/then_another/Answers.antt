-- `Turn::then_another` meets its contract: 16 of both turns, then the single turn.
use Rattle.std.proofs.Common.{refl, ap, Ok}
use Rattle.questions.proofs.Asking.{asking}
use Rattle.questions.proofs.Answering.{answer_no, answer_yes}
use Rattle.questions.specs.declared.Refusal.TheVariants.{Turn}
use Rattle.turns.proofs.Turn.then_another.Goals as goal

pub returns-then-first-gt7 : goal.returns-then-first-gt7
returns-then-first-gt7 c = answer_no Turn refl (search asking)

pub returns-then-second-gt7 : goal.returns-then-second-gt7
returns-then-second-gt7 c = answer_no Turn refl (search asking)

pub returns : goal.returns
returns c = answer_yes (search asking) (ap (λ t. Ok t) c.single.ensures)
