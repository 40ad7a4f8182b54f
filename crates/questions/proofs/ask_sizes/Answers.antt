-- `questions::ask_sizes` meets its contract: each return shows the questions answered so far.
use Rattle.questions.proofs.Asking.{asking}
use Rattle.questions.proofs.ask_sizes.Goals as goal

pub returns-then-width-least : goal.returns-then-width-least
returns-then-width-least c = search asking depth 12

pub returns-then-width-gt2048 : goal.returns-then-width-gt2048
returns-then-width-gt2048 c = search asking depth 12

pub returns-then-height-least : goal.returns-then-height-least
returns-then-height-least c = search asking depth 12

pub returns-then-height-gt2048 : goal.returns-then-height-gt2048
returns-then-height-gt2048 c = search asking depth 12

pub returns : goal.returns
returns c = search asking depth 12
