-- `second_level::band_stage` meets its contract: its row, or none.
use borrow.Author.Rules.{rules}
use Rattle.rings.proofs.Stages.{ring_worked, ring_idle}
use Rattle.second_level.specs.SecondLevel.{band_row}
use Rattle.second_level.proofs.band_stage.Goals as goal

pub returns-in-Some : goal.returns-in-Some
returns-in-Some c =
    let a = c.args in
    ring_worked 1 a.given a.t (search rules) 5 a.band.now (band_row a.low.now) c.band_line.ensures

pub returns-in_default : goal.returns-in_default
returns-in_default c =
    let a = c.args in
    ring_idle 1 a.given a.t 5 (search rules) a.band.now (band_row a.low.now)
