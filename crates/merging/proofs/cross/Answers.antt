-- `merging::cross` meets its contract: after k turns, k places are laid down.
use mathlib.Core.Path.{refl, ◌∙◌}
use mathlib.Core.List.{List}
use Prim.Native.Nat.{ℕ, ◌+◌, ◌≤◌, ◌<◌}
use native.Mathlib.Nat.{le_trans}
use native.Mathlib.Omega.{arith}
use lib.IntN.{ℤ, nat_abs}
use mir.Syntax.{w32}
use mir.Val.{to_z, of_z}
use borrow.Author.Rules.{rules}
use Rattle.integers.proofs.Lists.{overwrite_none, overwrite_step}
use Rattle.integers.proofs.Bounds.{read_is, abs_read}
use Rattle.planes.specs.Lists.{value}
use Rattle.filters.specs.Bank.{Small, weighted, high_join}
use Rattle.lines.specs.Lines.{Run}
use Rattle.lines.proofs.Lines.{read_small}
use Rattle.merging.proofs.Merging.{part_is}
use Rattle.merging.specs.Merging.{crossed_of}
use Rattle.merging.proofs.cross.Given.{Over}
use Rattle.merging.proofs.cross.Goals as goal
use Rattle.merging.proofs.cross.Goals.{At-loop-k, Start}

-- what is laid down, where the parts are f's
abbrev Laid : (g : Over) → goal.Start g → (ℤ → ℤ) → ℕ → ℤ
Laid g s f = let a = s.args in crossed_of f a.x.now a.y.now a.starts

pub loop-k-init : goal.loop-k-init
loop-k-init g c = λ f told. overwrite_none c.args.out.now 2 (Laid g c f)

pub part-requires-in-loop-k-3 : goal.part-requires-in-loop-k-3
part-requires-in-loop-k-3 g c = c.requires.takes _ (read_small 805306368 (omega arith) c.requires.crossing.0.fourth c.loop-k.k c.loop-k-test.true)

pub part-requires-in-loop-k-4 : goal.part-requires-in-loop-k-4
part-requires-in-loop-k-4 g c = c.requires.takes _ (read_small 805306368 (omega arith) c.requires.crossing.0.fifth c.loop-k.k c.loop-k-test.true)

-- a value of a run is one that a part is taken of
module _ (g : Over) (c : goal.At-loop-k g) where
  taken : {l : List ℤ} {o : ℕ} → c.loop-k.k < c.args.n → Run 805306368 l o c.args.n → nat_abs (to_z w32 (of_z w32 (value l (o + c.loop-k.k)))) ≤ 805306368
  taken i r = read_small 805306368 (omega arith) r c.loop-k.k i

  -- and its part is small
  part_small : (v : ℤ) {z : ℤ} → goal.F-post g c.args.part z v → nat_abs z ≤ 805306368 → Small (to_z w32 (of_z w32 v))
  part_small v {z} e h = le_trans (abs_read w32 v) (c.requires.small z v h e)

pub high_join-requires : goal.high_join-requires
high_join-requires g c =
    let l = (goal.at.high_join-requires g c).At-loop-k in
    let i = c.loop-k-test.true in
    let r = c.requires.crossing.0 in
    let first = taken g l i r.first in
    let second = taken g l i r.second in
    let third = taken g l i r.third in
    let fourth = taken g l i r.fourth in
    let fifth = taken g l i r.fifth in (
      part_small g l c.part.result c.part.ensures (search rules),
      part_small g l c.part-in-loop-k.result c.part-in-loop-k.ensures (search rules),
      part_small g l c.part-in-loop-k-2.result c.part-in-loop-k-2.ensures (search rules),
      part_small g l c.part-in-loop-k-3.result c.part-in-loop-k-3.ensures (search rules),
      part_small g l c.part-in-loop-k-4.result c.part-in-loop-k-4.ensures (search rules),
    )

pub loop-k-preserved : goal.loop-k-preserved
unfolding crossed_of
loop-k-preserved g c = λ f told.
    let k = c.loop-k.k in
    let i = c.loop-k-test.true in
    let l = (goal.at.loop-k-preserved g c).At-loop-k in
    let r = c.requires.crossing.0 in
    let p1 = part_is f r.first k i c.part.type_inv (told _ _ (taken g l i r.first) c.part.ensures) in
    let p2 = part_is f r.second k i c.part-in-loop-k.type_inv (told _ _ (taken g l i r.second) c.part-in-loop-k.ensures) in
    let p3 = part_is f r.third k i c.part-in-loop-k-2.type_inv (told _ _ (taken g l i r.third) c.part-in-loop-k-2.ensures) in
    let p4 = part_is f r.fourth k i c.part-in-loop-k-3.type_inv (told _ _ (taken g l i r.fourth) c.part-in-loop-k-3.ensures) in
    let p5 = part_is f r.fifth k i c.part-in-loop-k-4.type_inv (told _ _ (taken g l i r.fifth) c.part-in-loop-k-4.ensures) in
    overwrite_step c.args.out.now 2 k (Laid g (goal.at.loop-k-preserved g c).Start f) (2 + k) refl (c.loop-k.invariant f told) (read_is w32 c.high_join.type_inv c.high_join.ensures ∙ (λ j. weighted high_join (p1 j) (p2 j) (p3 j) (p4 j) (p5 j))) (omega (arith, c.requires.crossing.1))
