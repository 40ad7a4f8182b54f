-- `little_endian::write_samples` meets its contract: the samples that are left, written, make what is promised.
use mathlib.Core.Path.{◌∙◌}
use Prim.Native.Nat.{◌*◌}
use native.Mathlib.Omega.{arith}
use Rattle.little_endian.specs.Bytes.{bytes_of}
use Rattle.little_endian.proofs.Samples.{write_step, write_end}
use Rattle.little_endian.proofs.write_samples.Goals as goal

pub loop-k-preserved : goal.loop-k-preserved
unfolding bytes_of
loop-k-preserved c =
    write_step c.loop-k.out c.args.samples.now c.loop-k.k _ (omega arith) (omega arith) (omega arith) c.copy_from_slice.ensures.after c.to_le_bytes.ensures ∙ c.loop-k.invariant

pub returns : goal.returns
returns c =
    let a = c.args in
    write_end c.loop-k.out a.samples.now (2 * c.loop-k.k) c.loop-k.k (omega arith) ∙ c.loop-k.invariant
