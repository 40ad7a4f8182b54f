-- `little_endian::put` meets its contract: the bytes that are left to store, stored, make what is promised.
use mathlib.Core.Path.{◌∙◌}
use native.Mathlib.Omega.{arith}
use lib.ListN.{length}
use Rattle.little_endian.proofs.Bytes.{none_stored, byte_stored, put_end}
use Rattle.little_endian.proofs.put.Goals as goal

pub loop-byte-init : goal.loop-byte-init
loop-byte-init c = none_stored _ _ _ _

pub loop-byte-preserved : goal.loop-byte-preserved
loop-byte-preserved c =
    byte_stored c.loop-byte.byte-items c.loop-byte.byte-index (length c.args.out.now) c.loop-byte.byte-index c.loop-byte.rest (omega arith) ∙ c.loop-byte.invariant

pub returns : goal.returns
returns c = put_end c.loop-byte.byte-items c.args.out.now c.loop-byte.byte-index c.args.value c.loop-byte.rest (omega arith) c.loop-byte.invariant
