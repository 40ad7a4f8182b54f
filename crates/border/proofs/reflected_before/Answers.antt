-- `border::reflected_before` meets its contract: the reflection is even, so only the distance counts.
use mathlib.Core.Path.{◌∙◌, ap}
use Prim.Native.Nat.{ℕ}
use lib.IntN.{pos}
use Rattle.border.specs.Border.{reflect}
use Rattle.border.proofs.Reflection.{reflect_apart}
use Rattle.border.proofs.reflected_before.Goals as goal

pub returns : goal.returns
returns c =
    let a = c.args in
    let e = c.reflected.ensures in
    (e.0 ∙ ap (λ (k : ℕ). reflect a.n (pos k)) c.abs_diff.ensures ∙ reflect_apart a.n a.i a.back, e.1)
