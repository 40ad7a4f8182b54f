-- `finishing::fill_planes` meets its contract: the three calls, each given what the one before it left, accept. The estimate's and the update's ceiling is
-- the one of these settings.
use Rattle.planes.specs.Planes.{Frame}
use Rattle.questions.specs.Settings.{framed, ceiling_of}
use Rattle.questions.specs.Lent.{Lent, lent}
use Rattle.questions.proofs.Answering.{answered_ok}
use Rattle.finishing.proofs.Parts.{estimate_accepts, update_asked, rounds_asked, parts_leave}
use Rattle.finishing.proofs.fill_planes.Goals as goal
use Rattle.finishing.proofs.fill_planes.Goals.{Start}

abbrev Given : goal.Start → Frame
Given t = framed t.args.shape t.args.mosaic.now

abbrev Before : goal.Start → Lent
Before t = let a = t.args in lent a.red.now a.green.now a.blue.now a.work.now a.wide_work.now

pub unwrap-requires : goal.unwrap-requires
unfolding ceiling_of
unwrap-requires c =
    let t = (goal.at.unwrap-requires c).Start in
    answered_ok c.estimate.ensures.answer (estimate_accepts (Given t) c.args.settings (Before t) c.requires)

pub unwrap-requires-2 : goal.unwrap-requires-2
unfolding ceiling_of
unwrap-requires-2 c =
    let t = (goal.at.unwrap-requires-2 c).Start in
    answered_ok c.update.ensures.answer (update_asked (Given t) c.args.settings (Before t) c.requires c.estimate.ensures)

pub unwrap-requires-3 : goal.unwrap-requires-3
unfolding ceiling_of
unwrap-requires-3 c =
    let t = (goal.at.unwrap-requires-3 c).Start in
    answered_ok c.rounds.ensures.answer (rounds_asked (Given t) c.args.settings (Before t) c.requires c.estimate.ensures c.update.ensures)

pub returns : goal.returns
unfolding ceiling_of
returns c =
    let t = (goal.at.returns c).Start in
    parts_leave (Given t) c.args.settings (Before t) c.requires c.estimate.ensures c.update.ensures c.rounds.ensures
