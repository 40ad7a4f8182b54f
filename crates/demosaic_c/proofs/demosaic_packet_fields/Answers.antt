-- `demosaic_c::demosaic_packet_fields` meets its contract: the reader's, field by field.
use Rattle.std.proofs.Common.{refl}
use Rattle.questions.specs.Settings.{settings}
use Rattle.demosaic_c.specs.Pointers.{fields}
use Rattle.demosaic_c.proofs.Returns.{told_no, told_yes, put}
use Rattle.demosaic_c.proofs.demosaic_packet_fields.Goals as goal

pub returns-in-Ok : goal.returns-in-Ok
returns-in-Ok c =
    put (λ i. fields c.in-Ok.f.shape.width c.in-Ok.f.shape.height (c.from.ensures i) (settings (c.from-in-Ok.ensures i) (c.from-in-Ok-2.ensures i)))
    (told_yes c.in-Ok.ensures (λ f. f) _ _ refl)

pub returns-in-Err : goal.returns-in-Err
returns-in-Err c = told_no c.in-Err.ensures _ _ c.number.ensures
