-- `demosaic_c::demosaic_turn` meets its contract: the turning call's.
use Rattle.demosaic_c.specs.Pointers.{shape}
use Rattle.demosaic_c.proofs.Returns.{frame_no, frame_yes, put}
use Rattle.demosaic_c.proofs.demosaic_turn.Goals as goal

pub returns-in-Ok : goal.returns-in-Ok
returns-in-Ok c =
    put (λ i. (c.turn_samples.new.out, shape c.in-Ok.turned.width c.in-Ok.turned.height (c.from.ensures i)))
    (frame_yes _ _ _ _ c.byte.ensures _ _ _ c.cut_shape-given.ensures c.in-Ok.ensures)

pub returns-in-Err : goal.returns-in-Err
returns-in-Err c = frame_no _ _ _ _ c.byte.ensures _ _ _ c.cut_shape-given.ensures c.in-Err.ensures c.number.ensures
