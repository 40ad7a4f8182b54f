-- `turns::fill_row` meets its contract: after j turns, j samples of the row are laid down.
use mathlib.Core.Path.{◌≡◌, refl, ◌∙◌, ap}
use Prim.Native.Nat.{ℕ}
use native.Mathlib.Omega.{arith}
use lib.ListN.{length}
use Rattle.integers.specs.Lists.{overwrite}
use Rattle.integers.proofs.Lists.{overwrite_none, overwrite_step, overwrite_all}
use Rattle.turns.specs.Filling.{source_row}
use Rattle.turns.proofs.Calls.{row-sample}
use Rattle.turns.proofs.fill_row.Goals as goal
use Rattle.turns.proofs.fill_row.Goals.{Start}

-- what is laid down
abbrev Sample : goal.Start → ℕ → ℕ
Sample s = let a = s.args in source_row a.samples.now a.mirror (length a.row.now) a.from a.step

pub loop-j-init : goal.loop-j-init
loop-j-init c = overwrite_none c.args.row.now 0 _

pub loop-j-preserved : goal.loop-j-preserved
loop-j-preserved c =
    let a = c.args in
    overwrite_step a.row.now 0 c.loop-j.j (Sample (goal.at.loop-j-preserved c).Start) c.loop-j.j (omega arith) c.loop-j.invariant
    (row-sample a.samples.now a.mirror (length a.row.now) a.from a.step c.loop-j.j c.mirrored.result c.mirrored.ensures.0) (omega arith)

pub returns : goal.returns
returns c =
    let row = c.args.row.now in
    let s = (goal.at.returns c).Start in
    let all : c.loop-j.j ≡ length row = omega arith in
    c.loop-j.invariant ∙ ap (λ (n : ℕ). overwrite row 0 n (Sample s)) all ∙ overwrite_all row (length row) (Sample s) refl
