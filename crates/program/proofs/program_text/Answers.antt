-- `program::program_text` meets its contract.
use Rattle.program.proofs.Inputs.{sound_fields}
use Rattle.program.proofs.Printed.{text_no, text_yes}
use Rattle.program.proofs.program_text.Goals as goal

pub put_finished-requires : goal.put_finished-requires
put_finished-requires c =
    let k = sound_fields c.read_input.ensures _ c.in-Ok.is in
    record { input_value = k.0; f_value = k.1 }

pub returns-in-Ok : goal.returns-in-Ok
returns-in-Ok c = text_yes c.args.input.now c.read_input.ensures _ c.in-Ok.is c.put_finished.ensures

pub returns-in-Err : goal.returns-in-Err
returns-in-Err c = text_no c.args.input.now c.read_input.ensures _ c.in-Err.is c.number.ensures c.put_refusal.ensures
