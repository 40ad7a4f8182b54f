-- `details::outer_along` meets its contract: each line is padded, and then the filters go along it.
use mathlib.Core.Path.{sym, subst}
use Prim.Native.Nat.{◌*◌}
use lib.IntN.{◌+ℤ◌, ◌-ℤ◌}
use mir.Facts.{to_z-of_z as back}
use borrow.Author.Rules.{rules}
use Rattle.filters.specs.Bank.{Distance}
use Rattle.details.specs.Details.{outer_minus, outer_plus}
use Rattle.details.proofs.Details.{triple_padded, outer_laid, outers_laid}
use Rattle.details.proofs.outer_along.Goals as goal

pub outer_line-requires : goal.outer_line-requires
outer_line-requires c =
    let limit = subst Distance (sym (back c.ranges.limit)) c.requires.distance.0 in
    let runs = triple_padded c.args.d c.requires.le_n.0 c.args.low.now c.requires.le_n.3 c.pad_line.ensures c.requires.le_n.5 in
    search rules

pub outer_lines-requires : goal.outer_lines-requires
outer_lines-requires c =
    let limit = subst Distance (sym (back c.ranges.limit)) c.requires.distance.0 in
    let runs = triple_padded c.args.d c.requires.le_n.0 c.args.high.now c.requires.le_n.4 c.pad_line-2.ensures c.requires.le_n.6 in
    search rules

pub returns : goal.returns
unfolding outer_minus outer_plus
returns c =
    let a = c.args in
    let one = c.requires.le_n.0 in
    let l = back c.ranges.limit in
    let e = c.pad_line.ensures in
    let f = c.pad_line-2.ensures in
    record { low_after = (e, f); parts_after = outer_laid a.d one a.low.now c.requires.le_n.3 e l a.parts.now (2 * a.d) c.outer_line.ensures; minus_after = outers_laid a.d one a.high.now c.requires.le_n.4 f ◌-ℤ◌ l a.minus.now (2 * a.d) c.outer_lines.ensures.minus_after; plus_after = outers_laid a.d one a.high.now c.requires.le_n.4 f ◌+ℤ◌ l a.plus.now (2 * a.d) c.outer_lines.ensures.plus_after }
