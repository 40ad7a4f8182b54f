-- `update::scatter` meets its contract: after i turns, i rows are put.
use mathlib.Core.Path.{refl, subst}
use Prim.Native.Nat.{ℕ, ◌+◌, ◌*◌, ◌≤◌, ◌<◌}
use native.Mathlib.Nat.{zero-add}
use native.Mathlib.Omega.{arith}
use lib.Dec.{T}
use lib.IntN.{nat_abs}
use lib.Signed.{non_neg}
use lib.ListN.{length}
use Rattle.planes.specs.Lists.{value}
use Rattle.planes.proofs.Planes.{row_room}
use Rattle.planes.proofs.Places.{put_no_row, put-row}
use Rattle.update.proofs.scatter.Goals as goal
use Rattle.update.proofs.scatter.Goals.{In-loop-i}

pub loop-i-init : goal.loop-i-init
loop-i-init c = let a = c.args in put_no_row a.green.now a.places.columns _ _

-- row i stands in the work buffer, and its places in green
room : (c : goal.In-loop-i)
    → c.loop-i.i * c.args.places.columns + c.args.places.columns ≤ length c.args.work.now
room c = omega (arith, row_room c.args.places.columns c.args.places.rows c.loop-i.i c.loop-i-test.true, c.requires.0.inside)

reach : (c : goal.In-loop-i) (k : ℕ)
    → k < c.args.places.columns → c.args.places.from + c.loop-i.i * c.args.places.down + k * 2 < length c.args.green.now
reach c k b = c.requires.1.inside c.loop-i.i k c.loop-i-test.true b

pub overflow_mul-i-in-loop-i : goal.overflow_mul-i-in-loop-i
overflow_mul-i-in-loop-i c = let r = reach (goal.at.overflow_mul-i-in-loop-i c).In-loop-i 0 c.requires.1.some in record { fits = omega arith }

pub overflow_add-places : goal.overflow_add-places
overflow_add-places c = let r = reach (goal.at.overflow_add-places c).In-loop-i 0 c.requires.1.some in record { fits = omega arith }

pub scatter_row-requires : goal.scatter_row-requires
scatter_row-requires c =
    let a = c.args in
    let n = c.requires.0 in
    let i = c.loop-i.i in
    let r = row_room a.places.columns a.places.rows i c.loop-i-test.true in (
      record {
        inside = room (goal.at.scatter_row-requires c).In-loop-i;
        sign = λ k b. subst (λ (j : ℕ). T (non_neg (value a.work.now j))) (zero-add (i * a.places.columns + k)) (n.sign (i * a.places.columns + k) (omega arith));
        small = λ k b. subst (λ (j : ℕ). nat_abs (value a.work.now j) ≤ 65535) (zero-add (i * a.places.columns + k)) (n.small (i * a.places.columns + k) (omega arith));
      },
      record { inside = λ k b. omega (arith, reach (goal.at.scatter_row-requires c).In-loop-i k b) },
    )

pub loop-i-preserved : goal.loop-i-preserved
loop-i-preserved c =
    let a = c.args in
    put-row a.green.now a.places.from a.places.down a.places.columns c.loop-i.i (λ k. nat_abs (value a.work.now k)) _ (λ k b. refl) c.loop-i.invariant c.scatter_row.ensures
