-- `program::put_planes` meets its contract: the mosaic, the planes, the text.
use Rattle.std.proofs.Common.{arith}
use Rattle.program.proofs.Inputs.{finishable}
use Rattle.program.proofs.Printed.{reading_accepts, finishing_accepts, text_printed}
use Rattle.program.proofs.put_planes.Goals as goal

pub unwrap-requires : goal.unwrap-requires
unwrap-requires c = reading_accepts c.args.input.now c.requires.input_value c.args.f c.requires.f_value _ c.requires.buffers c.read_mosaic.ensures

pub unwrap-requires-2 : goal.unwrap-requires-2
unwrap-requires-2 c = finishing_accepts c.args.input.now c.requires.input_value c.args.f c.requires.f_value _ c.requires.buffers c.read_mosaic.ensures c.finish_frame.ensures

pub put_frame-requires : goal.put_frame-requires
put_frame-requires c =
    let k = finishable c.args.input.now c.requires.input_value c.args.f c.requires.f_value in
    let room = c.requires.buffers in
    record { le_width = omega (arith, k.fields.shape.sizes.width_from); blue_in_bounds = omega (arith, room.text_room, room.red_room, room.green_room, room.blue_room, c.finish_frame.auto.red, c.finish_frame.auto.green, c.finish_frame.auto.blue) }

pub returns : goal.returns
returns c = text_printed c.args.input.now c.requires.input_value c.args.f c.requires.f_value _ c.requires.buffers c.read_mosaic.ensures c.finish_frame.ensures c.put_frame.ensures
