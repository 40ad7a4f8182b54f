-- `update::gather` meets its contract: after i turns, i rows are laid down.
use mathlib.Core.Path.{◌≡◌, refl, ◌∙◌, ap}
use Prim.Native.Nat.{ℕ, ◌+◌, ◌*◌, ◌-◌, ◌/◌, ◌%◌, ◌≤◌, ◌<◌}
use native.Mathlib.Nat.{mul_comm}
use native.Mathlib.Omega.{arith}
use lib.IntN.{ℤ}
use lib.ListN.{length}
use Rattle.integers.specs.Lists.{overwrite}
use Rattle.planes.specs.Places.{place}
use Rattle.planes.specs.Lists.{sample}
use Rattle.planes.proofs.Planes.{row_room, overwrite_no_row, overwrite-row}
use Rattle.update.proofs.Rows.{row_long, row_back}
use Rattle.update.proofs.gather.Goals as goal
use Rattle.update.proofs.gather.Goals.{In-loop-i, Start}

-- what is laid down
abbrev Plane : goal.Start → ℕ → ℕ → ℤ
Plane s = let a = s.args in λ i j. sample a.green.now (a.places.from + i * a.places.down + 2 * j)

pub loop-i-init : goal.loop-i-init
loop-i-init c = let a = c.args in overwrite_no_row a.work.now 0 a.places.columns _

-- row i has its place in the work buffer, and its samples are in the list
room : (c : goal.In-loop-i)
    → c.loop-i.i * c.args.places.columns + c.args.places.columns ≤ length c.args.work.now
room c = omega (arith, row_room c.args.places.columns c.args.places.rows c.loop-i.i c.loop-i-test.true, c.requires.1)

reach : (c : goal.In-loop-i) (k : ℕ)
    → k < c.args.places.columns → c.args.places.from + c.loop-i.i * c.args.places.down + k * 2 < length c.args.green.now
reach c k b = c.requires.0.inside c.loop-i.i k c.loop-i-test.true b

pub overflow_mul-i : goal.overflow_mul-i
overflow_mul-i c = let r = reach (goal.at.overflow_mul-i c).In-loop-i 0 c.requires.0.some in record { fits = omega arith }

pub overflow_add-places : goal.overflow_add-places
overflow_add-places c = let r = reach (goal.at.overflow_add-places c).In-loop-i 0 c.requires.0.some in record { fits = omega arith }

-- and in the buffer as it is then
still : (c : goal.In-loop-i) → c.loop-i.i * c.args.places.columns + c.args.places.columns ≤ length c.loop-i.work
still c = omega (arith, room c, c.loop-i.auto.work)

pub gather_row-requires : goal.gather_row-requires
gather_row-requires c =
    let q = (goal.at.gather_row-requires c).In-loop-i in
    let columns = c.args.places.columns in
    let o = c.loop-i.i * columns in
    let long = row_long c.loop-i.work o columns (o + columns - o) (omega arith) (still q) in
    record { inside = λ k b. reach q k (omega (arith, b, long)) }

pub loop-i-preserved : goal.loop-i-preserved
loop-i-preserved c =
    let s = (goal.at.loop-i-preserved c).Start in
    let q = (goal.at.loop-i-preserved c).In-loop-i in
    let a = c.args in
    let i = c.loop-i.i in
    let columns = a.places.columns in
    let o = i * columns in
    let back = row_back c.loop-i.work o columns (o + columns - o) (omega arith) (still q) (Plane s i) c.gather_row.ensures in
    overwrite-row a.work.now 0 columns i (Plane s) (Plane s i) o back (omega arith) (omega (arith, room q)) c.loop-i.invariant (λ j b. refl)

pub returns : goal.returns
unfolding place
returns c =
    let a = c.args in
    let all : c.loop-i.i * a.places.columns ≡ a.places.columns * a.places.rows = ap (λ (n : ℕ). n * a.places.columns) (let e : c.loop-i.i ≡ a.places.rows = omega arith in e) ∙ mul_comm a.places.rows a.places.columns in
    c.loop-i.invariant ∙ ap (λ (n : ℕ). overwrite a.work.now 0 n (λ k. Plane (goal.at.returns c).Start (k / a.places.columns) (k % a.places.columns))) all
