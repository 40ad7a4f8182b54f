-- `program::read_input` meets its contract: 17, the reader's questions, 17.
use Rattle.std.proofs.Common.{rules, arith}
use Rattle.program.proofs.Inputs.{input_long, input_refused, input_allowed, input_many, input_sound}
use Rattle.program.proofs.read_input.Goals as goal

pub returns-then-input-gt4096 : goal.returns-then-input-gt4096
returns-then-input-gt4096 c = input_long c.args.input.now (omega arith)

pub returns-in_err-f : goal.returns-in_err-f
returns-in_err-f c = input_refused c.args.input.now (omega arith) _ (search rules) c.in_err-f.ensures.number

pub overflow_mul-f : goal.overflow_mul-f
overflow_mul-f c =
    let k = input_allowed c.args.input.now (omega arith) _ c.read_packet.ensures c.in_ok-f.was in
    record { fits = omega (arith, k.shape.sizes.area) }

pub returns-then-f-gt1024 : goal.returns-then-f-gt1024
returns-then-f-gt1024 c = input_many c.args.input.now (omega arith) _ c.read_packet.ensures c.in_ok-f.was (omega arith)

pub returns : goal.returns
returns c = input_sound c.args.input.now (omega arith) _ c.read_packet.ensures c.in_ok-f.was (omega arith)
