-- `neighbourhood::bilinear_estimate` meets its contract.
use Rattle.neighbourhood.specs.Place.{around}
use Rattle.neighbourhood.proofs.Places.{picked_on, picked_off}
use Rattle.neighbourhood.proofs.bilinear_estimate.Goals as goal

pub returns-then-on_row : goal.returns-then-on_row
unfolding around
returns-then-on_row c =
    let a = c.args in
    picked_on (around a.n) a.on_row a.on_column c.if-on_row.true c.on_its_row.ensures

pub returns : goal.returns
unfolding around
returns c =
    let a = c.args in
    picked_off (around a.n) a.on_row a.on_column c.if-on_row.false c.between_rows.ensures
