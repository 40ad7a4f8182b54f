-- `little_endian::read_samples` meets its contract: after k turns, k samples are laid down.
use native.Mathlib.Omega.{arith}
use Rattle.integers.proofs.Lists.{overwrite_none, overwrite_step}
use Rattle.little_endian.specs.Bytes.{sample_at}
use Rattle.little_endian.proofs.Samples.{pair_at, read_end}
use Rattle.little_endian.proofs.read_samples.Goals as goal

pub bounds-pairs-k : goal.bounds-pairs-k
bounds-pairs-k c = omega (arith, c.as_chunks.ensures.front_len, c.requires)

pub loop-k-init : goal.loop-k-init
loop-k-init c = overwrite_none _ 0 _

pub loop-k-preserved : goal.loop-k-preserved
loop-k-preserved c =
    let a = c.args in
    let k = c.loop-k.k in
    let pair = pair_at a.bytes.now k c.as_chunks.ensures.front (omega (arith, c.requires)) c.from_le_bytes.ensures in
    overwrite_step a.samples.now 0 k (sample_at a.bytes.now) k (omega arith) c.loop-k.invariant pair (omega arith)

pub returns : goal.returns
returns c =
    let a = c.args in
    read_end a.bytes.now a.samples.now c.loop-k.k c.loop-k.invariant (omega arith) c.requires
