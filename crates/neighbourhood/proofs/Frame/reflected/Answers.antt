-- `Frame::reflected` meets its contract.
use mathlib.Core.Path.{refl, sym}
use native.Mathlib.Nat.{add-zero}
use Rattle.planes.specs.Planes.{plane_of}
use Rattle.neighbourhood.proofs.Neighbours.{five-rows, row_counted}
use Rattle.neighbourhood.proofs.Frame.reflected.Goals as goal

pub returns : goal.returns
returns c =
    let a = c.args in
    let f = a.self.now in
    let p = plane_of 0 f.shape.width f.samples.now in
    five-rows f.shape.width f.shape.height _ a.r a.c (row_counted f.shape.width f.shape.height p a.r a.c 0 _ (sym (add-zero a.r)) c.row_before.ensures) (row_counted f.shape.width f.shape.height p a.r a.c 1 _ refl c.row_before-2.ensures) (row_counted f.shape.width f.shape.height p a.r a.c 2 _ refl c.row_before-3.ensures) (row_counted f.shape.width f.shape.height p a.r a.c 3 _ refl c.row_before-4.ensures) (row_counted f.shape.width f.shape.height p a.r a.c 4 _ refl c.row_before-5.ensures)
