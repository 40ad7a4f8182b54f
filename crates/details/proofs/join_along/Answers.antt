-- `details::join_along` meets its contract: each line is padded, and then they are joined.
use mathlib.Core.Path.{refl}
use lib.IntN.{◌+ℤ◌, ◌-ℤ◌}
use borrow.Author.Rules.{rules}
use Rattle.details.specs.Details.{joined_apart, joined_together}
use Rattle.details.proofs.Details.{crossing_padded, joined_laid}
use Rattle.details.proofs.join_along.Goals as goal

pub join_parts-requires : goal.join_parts-requires
join_parts-requires c =
    let a = c.args in
    let one = c.requires.le_n.0 in
    let e = c.pad_line.ensures in
    let p = crossing_padded a.d one refl a.parts.now a.parts.now c.requires.le_n.3 c.requires.le_n.3 e e c.requires.run.0 c.requires.run.0 in
    let q = crossing_padded a.d one refl a.minus.now a.plus.now c.requires.le_n.4 c.requires.le_n.5 c.pad_line-2.ensures c.pad_line-3.ensures c.requires.run.1 c.requires.run.2 in
    record { crossing = (p, q); d_bound = (c.requires.le_n.2, search rules, search rules) }

pub returns : goal.returns
unfolding joined_apart joined_together
returns c =
    let a = c.args in
    let one = c.requires.le_n.0 in
    let e = c.pad_line.ensures in
    let f = c.pad_line-2.ensures in
    let g = c.pad_line-3.ensures in
    let fit = c.requires.le_n in
    record { parts_after = (e, f, g); apart_after = joined_laid ◌-ℤ◌ a.d one refl a.parts.now a.minus.now a.plus.now fit.3 fit.4 fit.5 e f g a.apart.now a.at c.join_parts.ensures.apart_after; together_after = joined_laid ◌+ℤ◌ a.d one refl a.parts.now a.minus.now a.plus.now fit.3 fit.4 fit.5 e f g a.together.now a.at c.join_parts.ensures.together_after }
