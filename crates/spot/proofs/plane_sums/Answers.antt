-- `spot::plane_sums` meets its contract: colour by colour.
use Rattle.spot.proofs.plane_sums.Goals as goal

pub returns : goal.returns
returns c =
    let r = c.window_sum.ensures in
    let g = c.window_sum-2.ensures in
    let b = c.window_sum-3.ensures in
    record { sums = λ i. record { red = r.sum i; green = g.sum i; blue = b.sum i }; small = record { red = r.small; green = g.small; blue = b.small } }
