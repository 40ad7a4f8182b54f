-- `demosaic_c::demosaic_packet_repeats` meets its contract: the repeat call's.
use Rattle.std.proofs.Common.{◌≡◌, refl, ◌∙◌, cond, Bool, true, false}
use mir.Val.{bool_byte}
use Rattle.demosaic_c.proofs.Returns.{told_no, told_yes, put}
use Rattle.demosaic_c.proofs.demosaic_packet_repeats.Goals as goal

-- a byte of a bool
byte_is : (b : Bool) → bool_byte b ≡ cond b 1 0
byte_is true = refl
byte_is false = refl

pub returns-in-Ok : goal.returns-in-Ok
returns-in-Ok c = put (c.from.ensures ∙ byte_is c.in-Ok.repeats) (told_yes c.in-Ok.ensures (λ (b : Bool). cond b 1 0) _ c.args.same.now refl)

pub returns-in-Err : goal.returns-in-Err
returns-in-Err c = told_no c.in-Err.ensures _ _ c.number.ensures
