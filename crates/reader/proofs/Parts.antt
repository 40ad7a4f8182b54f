-- The reader's fields are told by what `read_packet` answers.
use Rattle.std.proofs.Common.{◌≡◌, ◌∙◌, List, ℕ, sym, Result, Ok, Err}
use Rattle.std.specs.Result.{result_unwrap_or}
use Rattle.questions.specs.Refusals.{refusal_number}
use Rattle.questions.specs.declared.Refusal.{Refusal}
use Rattle.questions.proofs.Answering.{refusal_positive, left_no, left_yes}
use Rattle.packet.specs.Packet.{fields_of}
use Rattle.packet.specs.Calls.{read_questions, ReadResult}
use Rattle.packet.specs.declared.Fields.{Fields}
use Rattle.reader.specs.Reader.{no_fields, fields_read}

-- the answer's fields, or all 0
pub fields_told : (s : List ℕ) (r : Result Fields Refusal) → ReadResult s r → result_unwrap_or r no_fields ≡ fields_read s
fields_told s (Ok g) e =
    let same : g ≡ fields_of s = let a = e.accepted (sym e.number) in cc in
    same ∙ left_yes (read_questions s) (fields_of s) no_fields e.number
fields_told s (Err why) e = left_no (read_questions s) (fields_of s) no_fields (refusal_number why) e.number (refusal_positive why)
