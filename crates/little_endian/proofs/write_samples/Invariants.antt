-- `little_endian::write_samples` meets its contract: the samples that are left, written, make what is promised.
use mathlib.Core.Path.{◌≡◌}
use Prim.Native.Nat.{◌*◌}
use lib.ListN.{drop}
use lib.Seq.{sets}
use Rattle.little_endian.specs.Bytes.{sample_bytes}
use Rattle.little_endian.proofs.write_samples.Given as goal

abbrev pub invariant-loop-k : goal.invariant-loop-k
invariant-loop-k l = sets l.out (2 * l.k) (sample_bytes (drop l.k l.samples)) ≡ sets l.initial.out 0 (sample_bytes l.samples)
