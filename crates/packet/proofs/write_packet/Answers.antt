-- `packet::write_packet` meets its contract.
use Rattle.std.proofs.Common.{rules, refl, ap, ◌∙◌, ℕ, Ok, arith, length}
use Rattle.questions.proofs.Answering.{refuses, accepts}
use lib.ListN.{length-take, length-drop}
use Rattle.little_endian.proofs.Bytes.{part_put}
use Rattle.packet.specs.Packet.{trailer}
use Rattle.packet.proofs.Writing.{Writable, writable, length_trailer, packet_laid, bytes_written}
use Rattle.packet.proofs.write_packet.Goals as goal
use Rattle.packet.proofs.write_packet.Goals.{In_ok-ask_write}

pub returns-in_err-ask_write : goal.returns-in_err-ask_write
returns-in_err-ask_write c = refuses _ (search rules) c.in_err-ask_write.ensures

known : (c : goal.In_ok-ask_write) → let a = c.args in Writable a.f a.samples.now (length a.out.now)
known c =
    let a = c.args in
    writable a.f a.samples.now (length a.out.now) c.in_ok-ask_write.ensures

pub write_samples-requires : goal.write_samples-requires
write_samples-requires c = let k = known (goal.at.write_samples-requires c).In_ok-ask_write in omega (arith, k.given, k.fit)

pub slice_bounds-put_trailer-end : goal.slice_bounds-put_trailer-end
slice_bounds-put_trailer-end c = let k = known (goal.at.slice_bounds-put_trailer-end c).In_ok-ask_write in omega (arith, k.given, k.fit, c.write_samples.auto.out)

pub put_trailer-requires : goal.put_trailer-requires
put_trailer-requires c =
    let k = known (goal.at.put_trailer-requires c).In_ok-ask_write in
    record { twelve = simp (length-take, length-drop) (omega (arith, k.given, k.fit, c.write_samples.auto.out)); back_value = omega (arith, k.given) }

pub returns : goal.returns
returns c =
    let a = c.args in
    let k = known (goal.at.returns c).In_ok-ask_write in
    accepts c.in_ok-ask_write.ensures (ap (λ (n : ℕ). Ok n) (bytes_written a.f a.samples.now _ k refl))
    (packet_laid a.f a.samples.now a.out.now _ k refl c.write_samples.ensures (part_put _ _ _ (trailer a.f) c.put_trailer.ensures (length_trailer a.f ∙ omega arith) (omega (arith, k.given, k.fit, c.write_samples.auto.out))))
