-- `Turn::ask_shape` meets its contract: 16, and then the shape's own questions.
use Rattle.questions.proofs.Asking.{asking}
use Rattle.turns.proofs.Turn.ask_shape.Goals as goal

pub returns-then-self-gt7 : goal.returns-then-self-gt7
returns-then-self-gt7 c = search asking

pub returns : goal.returns
returns c = search asking
