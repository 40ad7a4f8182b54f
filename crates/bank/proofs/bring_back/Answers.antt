-- `bank::bring_back` meets its contract: what is clipped to 0..4,095 is a sample.
use mathlib.Core.Path.{◌≡◌, sym, ◌∙◌, ap, subst}
use Prim.Native.Nat.{◌≤◌}
use native.Mathlib.Omega.{arith}
use lib.Dec.{T}
use lib.IntN.{ℤ, pos, nat_abs}
use lib.Signed.{non_neg}
use mir.Syntax.{w32}
use mir.Val.{to_z, of_z}
use mir.Facts.{to_z-of_z as back}
use Rattle.integers.specs.Numbers.{rounded, clamp}
use Rattle.integers.proofs.Bounds.{read_is}
use Rattle.integers.proofs.Clamping.{clamp-sample}
use Rattle.questions.specs.Settings.{ceiling}
use Rattle.filters.specs.Bank.{brought_back}
use Rattle.bank.proofs.bring_back.Goals as goal
use Rattle.bank.proofs.bring_back.Goals.{After-clipped}

-- the clipped quotient, as the machine reads it
same : (c : goal.After-clipped) → to_z w32 (of_z w32 c.clipped.result) ≡ clamp (pos 0) (pos ceiling) (rounded 1024 c.args.sum)
same c =
    let top = read_is w32 c.from.type_inv c.from.ensures in
    let quotient = read_is w32 c.rounded_quotient-quotient.type_inv c.rounded_quotient-quotient.ensures ∙ ap (rounded 1024) (back c.ranges.sum) in
    read_is w32 c.clipped.type_inv c.clipped.ensures ∙ (λ i. clamp (pos 0) (top i) (quotient i))

pub overflow_cast-result : goal.overflow_cast-result
overflow_cast-result c =
    let s = subst (λ (z : ℤ). (nat_abs z ≤ ceiling) × (pos (nat_abs z) ≡ z)) (sym (same c)) (clamp-sample ceiling (rounded 1024 c.args.sum)) in
    (subst (λ (z : ℤ). T (non_neg z)) s.1 tt, record { fits = omega (arith, s.0) })

pub returns : goal.returns
unfolding brought_back
returns c = ap nat_abs (same c)
