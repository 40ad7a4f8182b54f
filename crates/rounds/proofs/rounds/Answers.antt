-- `rounds::rounds` meets its contract: one check, and then the rounds.
use Rattle.std.proofs.Common.{rules, refl, arith}
use Rattle.planes.specs.Planes.{Frame}
use Rattle.questions.specs.Settings.{framed}
use Rattle.questions.specs.Lent.{Lent, lent}
use Rattle.questions.proofs.Answering.{refuses, plain_accepts}
use Rattle.rounds.proofs.Calls.{rounds_workable, wide_known, red_long, blue_long, all_rewritten}
use Rattle.rounds.proofs.rounds.Goals as goal
use Rattle.rounds.proofs.rounds.Goals.{Start}

abbrev Given : goal.Start → Frame
Given t = framed t.args.shape t.args.mosaic.now

abbrev Before : goal.Start → Lent
Before t = let a = t.args in lent a.red.now a.green.now a.blue.now a.work.now a.wide_work.now

pub returns-in_err-ask_rounds : goal.returns-in_err-ask_rounds
returns-in_err-ask_rounds c = refuses _ (search rules) c.in_err-ask_rounds.ensures

pub rewrite_colours-requires : goal.rewrite_colours-requires
rewrite_colours-requires c =
    let t = (goal.at.rewrite_colours-requires c).Start in
    let s = c.args.settings in
    let e = c.in_ok-ask_rounds.ensures in
    record { workable = rounds_workable (Given t) s (Before t) e; red_len = (red_long (Given t) s (Before t) e, blue_long (Given t) s (Before t) e) }

pub clear-requires : goal.clear-requires
clear-requires c =
    let t = (goal.at.clear-requires c).Start in
    let s = c.args.settings in
    let e = c.in_ok-ask_rounds.ensures in
    let u = rounds_workable (Given t) s (Before t) e in
    (u.sizes.area, omega (arith, u.work, c.rewrite_colours.auto), wide_known (Given t) s (Before t) e)

pub returns : goal.returns
returns c =
    let t = (goal.at.returns c).Start in
    plain_accepts c.in_ok-ask_rounds.ensures refl
    (all_rewritten (Given t) c.args.settings (Before t) _ c.rewrite_colours.ensures.red_after c.rewrite_colours.ensures.blue_after c.rewrite_colours.ensures.work_unchanged c.clear.ensures.0 c.clear.ensures.1)
