-- `Frame::inside` meets its contract.
use native.Mathlib.Omega.{arith}
use Rattle.neighbourhood.proofs.Neighbours.{five-rows, row_within}
use Rattle.neighbourhood.proofs.Frame.inside.Goals as goal

pub returns : goal.returns
returns c =
    let a = c.args in
    let f = a.self.now in
    five-rows f.shape.width f.shape.height _ a.r a.c (row_within f.shape.width f.shape.height a.r a.c c.requires.0 c.requires.1 f.samples.now 0 _ (omega arith) (omega arith) c.row_inside.ensures) (row_within f.shape.width f.shape.height a.r a.c c.requires.0 c.requires.1 f.samples.now 1 _ (omega arith) (omega arith) c.row_inside-2.ensures) (row_within f.shape.width f.shape.height a.r a.c c.requires.0 c.requires.1 f.samples.now 2 _ (omega arith) (omega arith) c.row_inside-3.ensures) (row_within f.shape.width f.shape.height a.r a.c c.requires.0 c.requires.1 f.samples.now 3 _ (omega arith) (omega arith) c.row_inside-4.ensures) (row_within f.shape.width f.shape.height a.r a.c c.requires.0 c.requires.1 f.samples.now 4 _ (omega arith) (omega arith) c.row_inside-5.ensures)
