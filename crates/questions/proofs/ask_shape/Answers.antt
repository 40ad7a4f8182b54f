-- `questions::ask_shape` meets its contract: 1 and 2 by `sizes`, then 3.
use Rattle.std.proofs.Common.{rules, refl}
use Rattle.questions.proofs.Asking.{asking, ask_then}
use Rattle.questions.proofs.Answering.{refused-first}
use Rattle.questions.proofs.ask_shape.Goals as goal

pub returns-in_err-ask_sizes : goal.returns-in_err-ask_sizes
returns-in_err-ask_sizes c = refused-first _ _ _ _ (search rules) c.in_err-ask_sizes.ensures

pub returns-then-shape-gt7 : goal.returns-then-shape-gt7
returns-then-shape-gt7 c = ask_then _ _ _ _ c.in_ok-ask_sizes.ensures tt refl (search asking)

pub returns : goal.returns
returns c = ask_then _ _ _ _ c.in_ok-ask_sizes.ensures tt refl (search asking)
