-- `border::reflected` meets its contract: inside, the index itself; else by the remainder at 2·(n − 1).
use mathlib.Core.Path.{◌≡◌, sym, ap, ◌∙◌}
use Prim.Native.Nat.{◌*◌, ◌-◌, ◌%◌, ◌<◌, ◌≤◌}
use native.Mathlib.Nat.{mod-lt}
use native.Mathlib.Omega.{arith}
use lib.IntN.{pos}
use Rattle.border.specs.Border.{reflect}
use Rattle.border.proofs.Reflection.{reflect_inside, reflect_one, reflect_low, reflect_high}
use Rattle.border.proofs.reflected.Goals as goal
use Rattle.border.proofs.reflected.Goals.{Else-n-eq1}

pub returns-then-i-n : goal.returns-then-i-n
returns-then-i-n c = let a = c.args in (sym (reflect_inside a.n a.i c.if-i-n.true), c.if-i-n.true)

pub returns-then-n-eq1 : goal.returns-then-n-eq1
returns-then-n-eq1 c =
    let a = c.args in
    let one : a.n ≡ 1 = c.if-n-eq1.true in
    (sym (ap (λ n. reflect n (pos a.i)) one ∙ reflect_one (pos a.i)), omega arith)

-- past the first two tests the line has two places or more
long : (c : goal.Else-n-eq1) → 2 ≤ c.args.n
long c = let other = c.if-n-eq1.false in omega arith

rest : (c : goal.Else-n-eq1) → let a = c.args in a.i % (2 * (a.n - 1)) < 2 * (a.n - 1)
rest c = let l = long c in mod-lt c.args.i (omega arith)

pub returns-then-m-n : goal.returns-then-m-n
returns-then-m-n c = let a = c.args in (sym (reflect_low a.n a.i (long (goal.at.returns-then-m-n c).Else-n-eq1) c.if-m-n.true), c.if-m-n.true)

pub returns-else-m-n : goal.returns-else-m-n
returns-else-m-n c =
    let a = c.args in
    let l = long (goal.at.returns-else-m-n c).Else-n-eq1 in
    let r = rest (goal.at.returns-else-m-n c).Else-n-eq1 in
    (sym (reflect_high a.n a.i l c.if-m-n.false), omega arith)
