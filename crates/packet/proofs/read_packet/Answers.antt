-- `packet::read_packet` meets its contract.
use Rattle.std.proofs.Common.{rules, ap, ◌∙◌, Ok}
use Rattle.questions.proofs.Answering.{answer_no, answer_yes}
use Rattle.packet.specs.Packet.{fields_of}
use Rattle.packet.proofs.read_packet.Goals as goal

pub returns-in_err-packet : goal.returns-in_err-packet
returns-in_err-packet c = answer_no _ (search rules) c.in_err-packet.ensures.number

pub returns : goal.returns
returns c = answer_yes c.in_ok-packet.ensures.number (ap (λ f. Ok f) (c.fields.ensures ∙ ap fields_of c.in_ok-packet.ensures.of_store))
