-- `questions::ask_frame` meets its contract: the shape's questions, then 4 and 5.
use Rattle.std.proofs.Common.{rules, refl}
use Rattle.questions.proofs.Asking.{ask_then}
use Rattle.questions.proofs.Answering.{refused-first}
use Rattle.questions.proofs.ask_frame.Goals as goal

pub returns-in_err-ask_shape : goal.returns-in_err-ask_shape
returns-in_err-ask_shape c = refused-first _ _ _ _ (search rules) c.in_err-ask_shape.ensures

pub returns : goal.returns
returns c = ask_then _ _ _ _ c.in_ok-ask_shape.ensures tt refl c.ask_settings.ensures
