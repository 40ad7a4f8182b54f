-- `program::put_finished` meets its contract: its buffers are long enough for 1,024 samples.
use native.Mathlib.Omega.{arith}
use lib.ListN.{length-take, length-drop}
use Rattle.packet.specs.Packet.{samples_of}
use Rattle.program.proofs.Inputs.{Finishable, finishable}
use Rattle.program.proofs.put_finished.Goals as goal
use Rattle.program.proofs.put_finished.Goals.{Start}

known : (s : goal.Start) → Finishable s.args.f (samples_of s.args.input.now)
known s = finishable s.args.input.now s.requires.input_value s.args.f s.requires.f_value

pub overflow_mul-count : goal.overflow_mul-count
overflow_mul-count c = let k = known (goal.at.overflow_mul-count c).Start in record { fits = omega (arith, k.few) }

pub slice_bounds-mosaic-end : goal.slice_bounds-mosaic-end
slice_bounds-mosaic-end c = let k = known (goal.at.slice_bounds-mosaic-end c).Start in omega (arith, k.few)

pub slice_bounds-red-end : goal.slice_bounds-red-end
slice_bounds-red-end c = let k = known (goal.at.slice_bounds-red-end c).Start in omega (arith, k.few)

pub slice_bounds-green-end : goal.slice_bounds-green-end
slice_bounds-green-end c = let k = known (goal.at.slice_bounds-green-end c).Start in omega (arith, k.few)

pub slice_bounds-blue-end : goal.slice_bounds-blue-end
slice_bounds-blue-end c = let k = known (goal.at.slice_bounds-blue-end c).Start in omega (arith, k.few)

pub put_planes-requires : goal.put_planes-requires
put_planes-requires c =
    let k = known (goal.at.put_planes-requires c).Start in
    record {
      input_value = c.requires.input_value;
      f_value = c.requires.f_value;
      buffers = record {
        mosaic_room = simp (length-take, length-drop) (omega (arith, k.few));
        red_room = simp (length-take, length-drop) (omega (arith, k.few));
        green_room = simp (length-take, length-drop) (omega (arith, k.few));
        blue_room = simp (length-take, length-drop) (omega (arith, k.few));
        work_room = omega (arith, k.few);
        wide_room = omega (arith, k.few);
        text_room = omega (arith, k.few);
      };
    }
