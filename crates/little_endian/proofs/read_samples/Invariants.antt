-- `little_endian::read_samples` meets its contract: after k turns, k samples are laid down.
use mathlib.Core.Path.{◌≡◌}
use Rattle.integers.specs.Lists.{overwrite}
use Rattle.little_endian.specs.Bytes.{sample_at}
use Rattle.little_endian.proofs.read_samples.Given as goal

abbrev pub invariant-loop-k : goal.invariant-loop-k
invariant-loop-k l = l.samples ≡ overwrite l.initial.samples 0 l.k (sample_at l.bytes)
