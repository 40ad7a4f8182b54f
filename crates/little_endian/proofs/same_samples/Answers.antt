-- `little_endian::same_samples` meets its contract.
use native.Mathlib.Omega.{arith}
use Rattle.little_endian.proofs.Samples.{same_bytes}
use Rattle.little_endian.proofs.same_samples.Goals as goal

pub returns : goal.returns
returns c =
    let a = c.args in
    same_bytes a.a.now a.b.now c.requires (record { at = λ k. omega (arith, c.type_inv.a k) }) (record { at = λ k. omega (arith, c.type_inv.b k) }) c.eq.ensures
