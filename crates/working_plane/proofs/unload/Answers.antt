-- `working_plane::unload` meets its contract: after k turns, k numbers are unloaded.
use mathlib.Core.Path.{◌≡◌, refl, sym, ◌∙◌, ap, subst}
use Prim.Native.Nat.{ℕ}
use native.Mathlib.Omega.{arith}
use lib.IntN.{pos, nat_abs}
use lib.ListN.{length}
use mir.Syntax.{w32}
use mir.Val.{to_z, of_z}
use borrow.Author.Rules.{rules}
use Rattle.integers.specs.Numbers.{clamp, clipped}
use Rattle.integers.specs.Lists.{overwrite}
use Rattle.integers.proofs.Bounds.{read_is}
use Rattle.integers.proofs.Lists.{overwrite_none, overwrite_step, overwrite_all}
use Rattle.planes.specs.Lists.{value}
use Rattle.work_buffer.proofs.Buffer.{SampleTo, clipped-sample}
use Rattle.working_plane.proofs.unload.Goals as goal
use Rattle.working_plane.proofs.unload.Goals.{After-clipped, Start}

-- what is unloaded
abbrev Sample : goal.Start → ℕ → ℕ
Sample s = λ j. clipped s.args.top (value s.args.work.now j)

pub loop-k-init : goal.loop-k-init
loop-k-init c = overwrite_none c.args.plane.now 0 (Sample (goal.at.loop-k-init c).Start)

-- the number that is read, as it is, clipped
clip : (c : goal.After-clipped)
    → let a = c.args in
    to_z w32 (of_z w32 c.clipped.result) ≡ clamp (pos 0) (pos a.top) (value a.work.now c.loop-k.k)
clip c =
    read_is w32 c.clipped.type_inv (c.clipped.ensures ∙ (λ i. clamp (pos 0) (read_is w32 c.from-most.type_inv c.from-most.ensures i) (same i)))
  where
    same : let x = value c.args.work.now c.loop-k.k in
        to_z w32 (of_z w32 x) ≡ x
    same = search rules

pub narrowed-requires : goal.narrowed-requires
narrowed-requires c =
    let a = c.args in
    let s = subst (SampleTo a.top) (sym (clip c)) (clipped-sample a.top _) in
    (s.0, omega (arith, s.1))

pub loop-k-preserved : goal.loop-k-preserved
loop-k-preserved c =
    let l = c.loop-k in
    overwrite_step c.args.plane.now 0 l.k (Sample (goal.at.loop-k-preserved c).Start) l.k (omega arith) l.invariant (c.narrowed.ensures ∙ ap nat_abs (clip (goal.at.loop-k-preserved c).After-clipped)) (omega arith)

pub returns : goal.returns
returns c =
    let p = c.args.plane.now in
    let s = (goal.at.returns c).Start in
    let all : c.loop-k.k ≡ length p = omega arith in
    c.loop-k.invariant ∙ ap (λ (k : ℕ). overwrite p 0 k (Sample s)) all ∙ overwrite_all p (length p) (Sample s) refl
