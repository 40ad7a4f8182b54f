-- `filters::low_join` meets its contract: the sum is the taps' sum, and each partial sum fits.
use mathlib.Core.List.{[], ◌∷◌}
use lib.IntN.{pos}
use mir.Facts.{to_z-of_z as back}
use Rattle.integers.proofs.Bounds.{fits, bounds}
use Rattle.integers.proofs.Linear.{linear, atom, x₀, x₁, x₂, x₃, ◌⊕◌, ◌⊖◌, ◌⊛◌}
use Rattle.filters.specs.Bank.{weighted, low_join}
use Rattle.filters.proofs.Taps.{weighted_linear}
use Rattle.filters.proofs.low_join.Goals as goal

pub overflow_mul-result : goal.overflow_mul-result
overflow_mul-result c = fits (search bounds depth 14) tt

pub overflow_add-result : goal.overflow_add-result
overflow_add-result c = fits (search bounds depth 14) tt

pub overflow_add-result-2 : goal.overflow_add-result-2
overflow_add-result-2 c = fits (search bounds depth 14) tt

pub overflow_mul-result-2 : goal.overflow_mul-result-2
overflow_mul-result-2 c = fits (search bounds depth 14) tt

pub overflow_add-result-3 : goal.overflow_add-result-3
overflow_add-result-3 c = fits (search bounds depth 14) tt

pub overflow_sub-result : goal.overflow_sub-result
overflow_sub-result c = fits (search bounds depth 14) tt

pub returns : goal.returns
unfolding weighted low_join
returns c =
    rw (back (overflow_sub-result c), back (overflow_add-result-3 c), back (overflow_mul-result-2 c), back (overflow_add-result-2 c), back (overflow_add-result c), back (overflow_mul-result c), back c.ranges.a, back c.ranges.b, back c.ranges.c, back c.ranges.d, back c.ranges.e)
    (linear (c.args.a ∷ c.args.b ∷ c.args.c ∷ c.args.d ∷ c.args.e ∷ []) (pos 2 ⊛ (x₁ ⊕ pos 3 ⊛ x₂ ⊕ x₃) ⊖ (x₀ ⊕ atom 4)) (weighted_linear low_join x₀ x₁ x₂ x₃ (atom 4)) tt)
