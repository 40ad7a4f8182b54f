-- `Turn::fill_each` meets its contract: after i turns, i rows are laid down.
use mathlib.Core.Path.{◌≡◌, ap, ◌∙◌}
use Prim.Native.Nat.{ℕ, ◌+◌, ◌*◌, ◌/◌, ◌%◌, ◌≤◌}
use native.Mathlib.Omega.{arith}
use lib.ListN.{length}
use Rattle.integers.specs.Lists.{overwrite}
use Rattle.integers.proofs.Lists.{overwrite_part}
use Rattle.planes.proofs.Planes.{row_room, overwrite_no_row, overwrite-row, overwrite-plane}
use Rattle.turns.specs.Filling.{source_row, source_plane}
use Rattle.turns.proofs.Calls.{plane-sample}
use Rattle.turns.proofs.Turn.fill_each.Goals as goal

pub loop-i-init : goal.loop-i-init
loop-i-init c = overwrite_no_row c.args.out.now 0 c.args.columns _

pub overflow_mul-from : goal.overflow_mul-from
overflow_mul-from c = record { fits = omega (arith, c.requires.in_plane.inside c.mirrored_row.result 0 c.mirrored_row.ensures.1 c.requires.in_plane.some) }

pub loop-i-preserved : goal.loop-i-preserved
loop-i-preserved c =
    let a = c.args in
    let i = c.loop-i.i in
    let m = c.mirrored_row in
    let lr = a.left_right in
    let tb = a.top_bottom in
    let row = λ (n : ℕ). source_row a.samples.now lr n (m.result * a.row_step) a.column_step in
    let room : i * a.columns + a.columns ≤ length a.out.now = omega (arith, row_room a.columns a.rows i (omega arith)) in
    overwrite-row a.out.now 0 a.columns i (source_plane a.samples.now lr tb a.columns a.rows a.row_step a.column_step) (row a.columns) (i * a.columns)
    (overwrite_part c.loop-i.out (i * a.columns) (i * a.columns + a.columns) row (omega arith) (omega arith) c.fill_row.ensures) (omega arith) (omega (arith, room)) c.loop-i.invariant
    (λ j b. plane-sample a.samples.now lr tb a.columns a.rows a.row_step a.column_step i m.result j m.ensures.0)

pub returns : goal.returns
returns c =
    let a = c.args in
    let p = source_plane a.samples.now a.left_right a.top_bottom a.columns a.rows a.row_step a.column_step in
    let all : c.loop-i.i ≡ a.rows = omega arith in
    c.loop-i.invariant ∙ ap (λ (n : ℕ). overwrite a.out.now 0 (n * a.columns) (λ k. p (k / a.columns) (k % a.columns))) all ∙ overwrite-plane a.out.now a.columns a.rows p c.requires.out_len
