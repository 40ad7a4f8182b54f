-- Document 01, "Packet": what the reader answers of a store whose end is a packet's end. Assumes nothing.
use Rattle.std.specs.Prelude.{ℕ, ◌≡◌, List}
use Rattle.questions.specs.Questions.{ask}
use Rattle.questions.specs.Calls.{if_accepted}
use Rattle.packet.specs.Packet.{fields_of}
use Rattle.packet.specs.Calls.{read_questions, part_read}
use Rattle.packet.specs.declared.Fields.{Fields}
use Rattle.reader.specs.declared.Packet.{Packet}

-- all fields 0
abbrev pub no_fields : Fields
no_fields = record { shape = record { width = 0; height = 0; layout = 0 }; settings = record { rounds = 0; threshold = 0 } }

-- the fields, all 0 where the packet is refused
abbrev pub fields_read : List ℕ → Fields
fields_read store = if_accepted (read_questions store) (fields_of store) no_fields

-- the answer r of the reader
pub record PacketRead (store : List ℕ) (r : Packet) : Type 0 where
  pub number : r.number ≡ ask (read_questions store)
  pub fields : r.fields ≡ fields_read store
  pub samples : r.samples.now ≡ part_read store
