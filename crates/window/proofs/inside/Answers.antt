-- `window::inside` meets its contract.
use native.Mathlib.Omega.{arith}
use Rattle.window.proofs.Room.{outside_down, outside_across, inside_both}
use Rattle.window.proofs.inside.Goals as goal

pub returns-then-height-lt32 : goal.returns-then-height-lt32
returns-then-height-lt32 c = outside_down _ _ _ _ (omega arith)

pub returns-then-height-row : goal.returns-then-height-row
returns-then-height-row c = outside_down _ _ _ _ (omega arith)

pub returns-then-width-lt32 : goal.returns-then-width-lt32
returns-then-width-lt32 c = outside_across _ _ _ _ (omega arith)

pub returns-then-width-column : goal.returns-then-width-column
returns-then-width-column c = outside_across _ _ _ _ (omega arith)

pub returns : goal.returns
returns c = inside_both _ _ _ _ (omega arith) (omega arith)
