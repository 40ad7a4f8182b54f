-- `rings::difference_stage` meets its contract: its row, or none.
use borrow.Author.Rules.{rules}
use Rattle.rings.specs.Rows.{difference_row}
use Rattle.rings.proofs.Stages.{ring_worked, ring_idle}
use Rattle.rings.proofs.difference_stage.Goals as goal

pub returns-in-Some : goal.returns-in-Some
returns-in-Some c =
    let a = c.args in
    ring_worked 0 a.given a.t (search rules) 3 a.ring.now (difference_row a.given a.own.now a.guide.now) c.difference_row.ensures

pub returns-in_default : goal.returns-in_default
returns-in_default c =
    let a = c.args in
    ring_idle 0 a.given a.t 3 (search rules) a.ring.now (difference_row a.given a.own.now a.guide.now)
