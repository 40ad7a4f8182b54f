-- `little_endian::put` meets its contract: the bytes that are left to store, stored, make what is promised.
use mathlib.Core.Path.{◌≡◌}
use Prim.Native.Nat.{◌-◌}
use lib.ListN.{length}
use lib.Seq.{sets}
use Rattle.little_endian.specs.Bytes.{bytes_of}
use Rattle.little_endian.proofs.put.Given as goal

abbrev pub invariant-loop-byte : goal.invariant-loop-byte
invariant-loop-byte l = sets l.byte-items l.byte-index (bytes_of (length l.fn.out - l.byte-index) l.rest) ≡ sets l.fn.out 0 (bytes_of (length l.fn.out) l.value)
