-- `reader::read` meets its contract.
use Rattle.std.proofs.Common.{◌∙◌}
use Rattle.reader.proofs.Parts.{fields_told}
use Rattle.reader.proofs.read.Goals as goal

pub returns : goal.returns
returns c =
    let answer = c.read_packet-answer.ensures in
    record { number = c.number.ensures ∙ answer.number; fields = c.unwrap_or.ensures ∙ fields_told _ _ answer; samples = c.packet_samples.ensures }
