-- `update::update` meets its contract: one check, and then the update.
use Rattle.planes.specs.Planes.{Frame, frame}
use Rattle.questions.proofs.Answering.{refuses, plain_accepts}
use borrow.Author.Rules.{rules}
use mathlib.Core.Path.{refl}
use Rattle.update.proofs.Calls.{update_workable}
use Rattle.update.proofs.update.Goals as goal
use Rattle.update.proofs.update.Goals.{Start}

-- what was given
abbrev Given : goal.Start → Frame
Given s = let a = s.args in frame a.shape.width a.shape.height a.shape.layout a.mosaic.now

pub returns-in_err-ask_update : goal.returns-in_err-ask_update
returns-in_err-ask_update c = refuses _ (search rules) c.in_err-ask_update.ensures

pub update_colours-requires : goal.update_colours-requires
update_colours-requires c = update_workable _ (Given (goal.at.update_colours-requires c).Start) c.args.green.now _ c.in_ok-ask_update.ensures

pub returns : goal.returns
returns c = plain_accepts c.in_ok-ask_update.ensures refl (λ m. (c.update_colours.ensures.green_after m, c.update_colours.ensures.work_after m))
