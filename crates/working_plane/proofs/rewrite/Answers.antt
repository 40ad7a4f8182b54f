-- `working_plane::rewrite` meets its contract: the plane is loaded, goes through the rounds, and is unloaded.
use Prim.Native.Nat.{◌*◌, ◌≤◌}
use native.Mathlib.Omega.{arith}
use lib.ListN.{length}
use Rattle.working_plane.proofs.Working.{first-kept, first_workable, scratched, unloaded}
use Rattle.working_plane.proofs.rewrite.Goals as goal

pub run-requires : goal.run-requires
run-requires g c =
    let a = c.args in
    let room : a.colour.width * a.colour.height ≤ length a.work.now = omega (arith, c.requires.0.work) in (
      first_workable g.D.Depth.two a.colour a.top a.mosaic.now a.green.now a.plane.now a.work.now room c.requires.3 c.load.ensures c.requires.0,
      c.requires.1,
      c.requires.2,
      first-kept g.D.Depth.two a.colour a.top a.mosaic.now a.green.now a.plane.now a.work.now room c.requires.3 c.load.ensures (λ k. omega (arith, c.slice_known-1.given k)),
    )

pub returns : goal.returns
returns g c =
    let a = c.args in
    let room : a.colour.width * a.colour.height ≤ length a.work.now = omega (arith, c.requires.0.work) in
    record {
      plane_after = unloaded g.D.Depth.two a.colour a.top a.mosaic.now a.green.now a.plane.now a.work.now room c.requires.3 c.load.ensures _ c.run.ensures c.unload.ensures;
      work_unchanged = scratched g.D.Depth.two a.colour a.top a.mosaic.now a.green.now a.plane.now a.work.now room c.requires.3 c.load.ensures _ c.run.ensures c.requires.0.work;
    }
