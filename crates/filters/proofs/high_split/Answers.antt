-- `filters::high_split` meets its contract: the sum is the taps' sum, and each partial sum fits.
use mathlib.Core.List.{[], ◌∷◌}
use lib.IntN.{pos}
use mir.Facts.{to_z-of_z as back}
use Rattle.integers.proofs.Bounds.{fits, bounds}
use Rattle.integers.proofs.Linear.{linear, number, x₀, x₁, x₂, ◌⊕◌, ◌⊖◌, ◌⊛◌}
use Rattle.filters.specs.Bank.{weighted, high_split}
use Rattle.filters.proofs.Taps.{weighted_linear}
use Rattle.filters.proofs.high_split.Goals as goal

pub overflow_mul-result : goal.overflow_mul-result
overflow_mul-result c = fits (search bounds depth 14) tt

pub overflow_sub-result : goal.overflow_sub-result
overflow_sub-result c = fits (search bounds depth 14) tt

pub overflow_add-result : goal.overflow_add-result
overflow_add-result c = fits (search bounds depth 14) tt

pub returns : goal.returns
unfolding weighted high_split
returns c =
    rw (back (overflow_add-result c), back (overflow_sub-result c), back (overflow_mul-result c), back c.ranges.a, back c.ranges.b, back c.ranges.c)
    (linear (c.args.a ∷ c.args.b ∷ c.args.c ∷ []) (x₀ ⊖ pos 2 ⊛ x₁ ⊕ x₂) (weighted_linear high_split (number (pos 0)) x₀ x₁ x₂ (number (pos 0))) tt)
