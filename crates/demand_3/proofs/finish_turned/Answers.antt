-- `demand_3::finish_turned` meets its contract: demand 3, with the turning calls that ran.
use Rattle.questions.specs.Settings.{framed}
use Rattle.questions.specs.Lent.{lent}
use Rattle.demand_3.proofs.Moving.{run_alike}
use Rattle.demand_3.proofs.finish_turned.Goals as goal

pub returns : goal.returns
returns c =
    let a = c.args in
    run_alike a.turns.now (framed a.shape a.first.now) a.second.now a.settings
    (lent a.red1.now a.green1.now a.blue1.now a.work1.now a.wide1.now) (lent a.red2.now a.green2.now a.blue2.now a.work2.now a.wide2.now)
    c.finish_standing-given.ensures c.turn_all-at.ensures c.finish_standing-turned.ensures
