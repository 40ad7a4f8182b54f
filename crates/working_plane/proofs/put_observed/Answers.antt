-- `working_plane::put_observed` meets its contract: every second place of every second row, from the colour's first on.
use mathlib.Core.Path.{◌≡◌}
use Prim.Native.Nat.{◌+◌, ◌*◌}
use native.Mathlib.Omega.{arith}
use Rattle.work_buffer.proofs.Buffer.{places_inside, put_samples}
use Rattle.working_plane.proofs.put_observed.Goals as goal

pub observe-requires : goal.observe-requires
observe-requires c =
    let a = c.args in
    let k = a.colour in
    let u = c.requires.sizes in
    let p = c.of-places.result in
    let e = c.of-places.ensures in
    let from : p.from ≡ k.row * k.width + k.column = λ i. (e i).from in
    let down : p.down ≡ 2 * k.width = λ i. (e i).down in
    (places_inside k.width k.height k.row k.column u.1 u.2 a.mosaic.now c.requires.mosaic_len.0 u.0.width_from (omega (arith, from)) (omega (arith, down)) (λ i. (e i).columns) (λ i. (e i).rows), omega (arith, c.requires.mosaic_len))

pub returns : goal.returns
returns c =
    let a = c.args in
    let k = a.colour in
    put_samples k.width k.height k.row k.column c.requires.sizes.1 c.requires.sizes.2 a.mosaic.now a.work.now c.requires.mosaic_len.1 c.of-places.ensures c.observe.ensures
