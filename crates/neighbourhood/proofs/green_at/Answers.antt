-- `neighbourhood::green_at` meets its contract.
use mathlib.Core.Path.{◌∙◌}
use mathlib.Core.Bool.{cond, beq}
use lib.IntN.{pos}
use Rattle.neighbourhood.specs.Place.{around}
use Rattle.neighbourhood.proofs.Places.{green_picked}
use Rattle.neighbourhood.proofs.green_at.Goals as goal

pub returns : goal.returns
unfolding around
returns c =
    let a = c.args in
    c.picked.ensures ∙ (λ i. cond (beq a.on_row a.on_column) (c.green_estimate.ensures i) (around a.n (pos 0) (pos 0))) ∙ green_picked (around a.n) a.top a.on_row a.on_column
