-- `Frame::row_before` meets its contract.
use mathlib.Core.Path.{◌∙◌, ap}
use Prim.Native.Nat.{ℕ, ◌+◌, ◌*◌}
use lib.IntN.{pos, ◌-ℤ◌}
use lib.ListN.{get_or}
use Rattle.integers.specs.Lists.{tabulate}
use Rattle.border.specs.Border.{reflect}
use Rattle.planes.specs.Planes.{plane_of}
use Rattle.neighbourhood.proofs.Neighbours.{five_reflected}
use Rattle.neighbourhood.proofs.Frame.row_before.Goals as goal

pub returns : goal.returns
unfolding plane_of
returns c =
    let a = c.args in
    let f = a.self.now in
    let at = ap (λ (k : ℕ). k * f.shape.width) c.reflected_before.ensures.0 in
    five_reflected f.samples.now f.shape.width a.c _ c.sample_before.ensures c.sample_before-2.ensures c.sample_before-3.ensures c.sample_before-4.ensures c.sample_before-5.ensures ∙ ap (λ (k : ℕ). tabulate 5 (λ j. get_or f.samples.now (k + reflect f.shape.width (pos (a.c + j) -ℤ pos 2)) 0)) at
