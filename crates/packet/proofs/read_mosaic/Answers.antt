-- `packet::read_mosaic` meets its contract.
use mathlib.Core.Path.{◌≡◌, ap, sym, ◌∙◌}
use Prim.Native.Nat.{ℕ, ◌*◌}
use lib.ListN.{length}
use Rattle.questions.proofs.Answering.{refuses, accepts}
use Rattle.little_endian.specs.Bytes.{samples_in}
use Rattle.std.proofs.Common.{Ok, rules}
use Rattle.packet.specs.Packet.{fields_of, sample_part}
use Rattle.packet.proofs.Stores.{filling, length_part}
use Rattle.packet.proofs.read_mosaic.Goals as goal
use Rattle.packet.proofs.read_mosaic.Goals.{After-samples}

pub returns-in_err-packet : goal.returns-in_err-packet
returns-in_err-packet c = refuses _ (search rules) c.in_err-packet.ensures.number

part : (c : goal.After-samples) → c.samples.result.now ≡ sample_part c.args.store.now
part c = c.samples.ensures ∙ ap sample_part c.in_ok-packet.ensures.of_store

pub read_samples-requires : goal.read_samples-requires
read_samples-requires c =
    let a = c.args in
    let k = filling a.store.now (length a.mosaic.now) c.in_ok-packet.ensures.number in
    ap length (part (goal.at.read_samples-requires c).After-samples) ∙ length_part a.store.now k.packet.at ∙ ap (λ (n : ℕ). 2 * n) (sym k.fit)

pub returns : goal.returns
returns c =
    let found = c.in_ok-packet.ensures in
    accepts found.number (ap (λ f. Ok f) (c.fields.ensures ∙ ap fields_of found.of_store))
    (c.read_samples.ensures ∙ ap samples_in (part (goal.at.returns c).After-samples))
