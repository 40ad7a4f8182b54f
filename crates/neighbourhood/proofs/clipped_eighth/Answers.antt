-- `neighbourhood::clipped_eighth` meets its contract: a sum from 0 on is divided, and clipped.
use Rattle.std.proofs.Common.{rules, ◌∙◌}
use Prim.Native.Nat.{min, ◌/◌}
use lib.IntN.{nat_abs}
use mir.Syntax.{w32}
use mir.Val.{to_z, of_z}
use Rattle.neighbourhood.proofs.Arithmetic.{clipped_by}
use Rattle.neighbourhood.proofs.clipped_eighth.Goals as goal

pub returns : goal.returns
returns c =
    let raised = to_z w32 (of_z w32 c.max-raised.result) in
    c.min.ensures ∙ (λ i. min (nat_abs raised / 8) (c.from.ensures i)) ∙ clipped_by _ c.args.top c.args.sum raised (search rules)
