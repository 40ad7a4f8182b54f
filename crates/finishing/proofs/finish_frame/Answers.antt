-- `finishing::finish_frame` meets its contract: one check, and then the planes.
use Rattle.std.proofs.Common.{rules, refl}
use Rattle.questions.proofs.Answering.{refuses, plain_accepts}
use Rattle.finishing.proofs.finish_frame.Goals as goal

pub returns-in_err-ask_lent : goal.returns-in_err-ask_lent
returns-in_err-ask_lent c = refuses _ (search rules) c.in_err-ask_lent.ensures

pub fill_planes-requires : goal.fill_planes-requires
fill_planes-requires c = c.in_ok-ask_lent.ensures

pub returns : goal.returns
returns c = plain_accepts c.in_ok-ask_lent.ensures refl c.fill_planes.ensures
