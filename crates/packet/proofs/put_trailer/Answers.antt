-- `packet::put_trailer` meets its contract.
use Rattle.std.proofs.Common.{◌∙◌, ap}
use native.Mathlib.Omega.{arith}
use Rattle.little_endian.specs.Bytes.{bytes_of}
use Rattle.packet.proofs.Writing.{trailer_put}
use Rattle.packet.proofs.put_trailer.Goals as goal

pub returns : goal.returns
returns c =
    let a = c.args in
    trailer_put a.out.now a.f c.requires.twelve a.back c.requires.back_value (omega arith) (omega arith) c.put.ensures c.put-2.ensures (c.put-3.ensures ∙ ap (bytes_of _) c.from.ensures) c.put-4.ensures
