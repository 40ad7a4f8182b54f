-- `update::update_places` meets its contract: green at the places is gathered, projected on the colour, and put back.
use mathlib.Core.Path.{◌≡◌, refl, subst, sym}
use mathlib.Core.List.{List}
use Prim.Native.Nat.{ℕ, ◌+◌, ◌*◌, ◌≤◌}
use native.Mathlib.Omega.{arith}
use lib.ListN.{length}
use mir.Syntax.{w32}
use Rattle.integers.proofs.Bounds.{read_is}
use Rattle.planes.specs.Places.{half}
use Rattle.planes.specs.Lists.{InPlane}
use Rattle.planes.proofs.Places.{few_places}
use Rattle.work_buffer.specs.Buffer.{Workable}
use Rattle.work_buffer.specs.declared.Places.{Places}
use Rattle.work_buffer.proofs.Buffer.{places_inside}
use Rattle.update.specs.Places.{with_mixed}
use Rattle.update.proofs.Places.{projectable, mixed_laid, mixed_narrow, green_laid}
use Rattle.update.proofs.update_places.Goals as goal
use Rattle.update.proofs.update_places.Goals.{After-of-places, After-project}

-- the small plane has room in the work buffer
room : {w h n : ℕ} {mosaic green : List ℕ} (a b : ℕ) → Workable w h mosaic green n → half w b * half h a ≤ n
room {w} {h} a b u = omega (arith, few_places w h a b (omega (arith, u.sizes.width_from)) (omega (arith, u.sizes.height_from)), u.work)

-- the first place and how far apart the rows stand
from_is : (c : goal.After-of-places) → c.of-places.result.from ≡ c.args.row * c.args.width + c.args.column
from_is c = λ i. (c.of-places.ensures i).from

down_is : (c : goal.After-of-places) → c.of-places.result.down ≡ 2 * c.args.width
down_is c = λ i. (c.of-places.ensures i).down

-- the places lie in green
inside : (c : goal.After-of-places) → let p = c.of-places.result in InPlane c.args.green.now p.from p.columns p.rows p.down 2
inside c =
    let a = c.args in
    let u = c.requires.0 in
    let e = c.of-places.ensures in
    places_inside a.width a.height a.row a.column c.requires.1 c.requires.2 a.green.now u.greens u.sizes.width_from (omega (arith, from_is c)) (omega (arith, down_is c)) (λ i. (e i).columns) (λ i. (e i).rows)

pub gather-requires : goal.gather-requires
gather-requires c =
    let a = c.args in
    (inside (goal.at.gather-requires c).After-of-places, subst (λ (p : Places). p.columns * p.rows ≤ length a.work.now) (sym c.of-places.ensures) (room a.row a.column c.requires.0))

pub project-requires : goal.project-requires
project-requires c =
    let a = c.args in
    let s = (goal.at.project-requires c).After-of-places in
    projectable a.width a.height a.row a.column c.requires.1 c.requires.2 a.mosaic.now a.green.now a.work.now (room a.row a.column c.requires.0) c.of-places.ensures c.gather.ensures c.requires.0 (λ i. omega (arith, c.type_inv.mosaic i)) (λ i. omega (arith, c.slice_known-1.given i)) _ _ _ _ (omega (arith, from_is s)) (omega (arith, down_is s)) (omega arith) (record { sign = tt; small = omega arith })

-- what the projection leaves
mixed : (p : goal.After-project) → let a = p.args in p.project.new.own ≡ with_mixed a.top a.width a.height a.row a.column a.mosaic.now a.green.now a.work.now
mixed p =
    let a = p.args in
    mixed_laid a.width a.height a.row a.column p.requires.1 p.requires.2 a.mosaic.now a.green.now a.work.now (room a.row a.column p.requires.0) p.of-places.ensures p.gather.ensures a.top refl refl (read_is w32 p.from-most.type_inv p.from-most.ensures) p.project.ensures

pub scatter-requires : goal.scatter-requires
scatter-requires c =
    let a = c.args in
    let u = c.requires.0 in (
      mixed_narrow a.width a.height a.row a.column c.requires.1 c.requires.2 a.mosaic.now a.green.now a.work.now (room a.row a.column u) a.top c.of-places.ensures (mixed (goal.at.scatter-requires c).After-project) (omega arith),
      inside (goal.at.scatter-requires c).After-of-places,
    )

pub returns : goal.returns
returns c =
    let a = c.args in
    let u = c.requires.0 in
    record { green_after = green_laid a.width a.height a.row a.column c.requires.1 c.requires.2 a.mosaic.now a.green.now a.work.now (room a.row a.column u) a.top c.of-places.ensures (mixed (goal.at.returns c).After-project) u.greens c.scatter.ensures; work_after = mixed (goal.at.returns c).After-project }
