-- `demosaic_c::demosaic_turned_shape` meets its contract: that of the turned shape.
use Rattle.demosaic_c.specs.Pointers.{shape}
use Rattle.demosaic_c.proofs.Returns.{shape_no, shape_yes, put}
use Rattle.demosaic_c.proofs.demosaic_turned_shape.Goals as goal

pub returns-in-Ok : goal.returns-in-Ok
returns-in-Ok c =
    put (λ i. shape c.in-Ok.shape.width c.in-Ok.shape.height (c.from.ensures i))
    (shape_yes _ _ _ _ c.byte.ensures _ c.cut_shape-given.ensures c.in-Ok.ensures)

pub returns-in-Err : goal.returns-in-Err
returns-in-Err c = shape_no _ _ _ _ c.byte.ensures _ c.cut_shape-given.ensures c.in-Err.ensures c.number.ensures
