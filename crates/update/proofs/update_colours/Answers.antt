-- `update::update_colours` meets its contract: blue places, then red places, whose green was not touched; and all zeroed.
use native.Mathlib.Omega.{arith}
use mathlib.Core.Path.{◌∙◌}
use Rattle.work_buffer.specs.Buffer.{zeroed}
use Rattle.work_buffer.proofs.Buffer.{filled}
use Rattle.update.proofs.Calls.{both_colours, work_zeroed}
use Rattle.update.proofs.update_colours.Goals as goal

pub returns-clause-green_after : goal.returns-clause-green_after
returns-clause-green_after c =
    let a = c.args in
    let blue = rw (c.from-red_row.ensures ∙ c.red_row.ensures.0, c.from-red_column.ensures ∙ c.red_column.ensures.0) at c.update_places.ensures.green_after in
    let red = rw (c.from-red_row.ensures ∙ c.red_row.ensures.0, c.from-red_column.ensures ∙ c.red_column.ensures.0) at c.update_places-2.ensures.green_after in
    both_colours _ a.shape.width a.shape.height a.shape.layout a.mosaic.now a.green.now blue red

pub returns-clause-work_after : goal.returns-clause-work_after
unfolding zeroed
returns-clause-work_after c =
    let a = c.args in
    let u = c.requires in
    work_zeroed _ a.shape.width a.shape.height _ _ _ _ a.mosaic.now a.green.now _ a.work.now (omega (arith, u.sizes.width_from)) (omega (arith, u.sizes.height_from)) u.work c.update_places.ensures.work_after c.update_places-2.ensures.work_after (filled _ _ _ (omega arith) (c.fill.ensures.after (λ y e. e)))
