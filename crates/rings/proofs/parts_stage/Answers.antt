-- `rings::parts_stage` meets its contract: its row, or none.
use mathlib.Core.Path.{◌≡◌, refl, ◌∙◌, ap}
use Prim.Native.Nat.{ℕ}
use borrow.Author.Rules.{rules}
use Rattle.integers.specs.Lists.{overwrite}
use Rattle.filters.specs.Bank.{low_split}
use Rattle.lines.specs.Lines.{padded}
use Rattle.rings.specs.Rows.{ring_line, ring_apart, ring_together}
use Rattle.rings.specs.Stages.{reached, Working}
use Rattle.rings.proofs.Stages.{ring_worked, ring_idle}
use Rattle.rings.proofs.parts_stage.Goals as goal

pub returns-in-Some : goal.returns-in-Some
returns-in-Some c =
    let a = c.args in
    let g = a.given in
    let v = a.level in
    let made : (c.in-Some.r ≡ reached v.lag g.height a.t) × Working v.lag g.height a.t = search rules in
    record { low_after = (λ w. c.parts_row.ensures.low_after ∙ ap (λ (r : ℕ). padded g.width v.spacing (overwrite a.low.now v.spacing g.width (ring_line low_split g v a.source.now r))) made.0); apart_after = ring_worked v.lag g a.t made v.slots a.apart.now (ring_apart g v a.source.now) c.parts_row.ensures.apart_after; together_after = ring_worked v.lag g a.t made v.slots a.together.now (ring_together g v a.source.now) c.parts_row.ensures.together_after; as_long = (c.parts_row.auto.high, c.parts_row.auto.parts, c.parts_row.auto.minus, c.parts_row.auto.plus) }

pub returns-in_default : goal.returns-in_default
returns-in_default c =
    let a = c.args in
    let g = a.given in
    let v = a.level in
    let none : Working v.lag g.height a.t → ⊥ = search rules in
    record { low_after = (λ w. absurd (none w)); apart_after = ring_idle v.lag g a.t v.slots none a.apart.now (ring_apart g v a.source.now); together_after = ring_idle v.lag g a.t v.slots none a.together.now (ring_together g v a.source.now); as_long = (refl, refl, refl, refl) }
