-- Demand 2's round trips, of the reader in one answer. Assumes nothing.
use Rattle.std.specs.Prelude.{ℕ, ◌≡◌, List}
use Rattle.little_endian.specs.Bytes.{samples_in}
use Rattle.packet.specs.declared.Fields.{Fields}
use Rattle.reader.specs.declared.Packet.{Packet}

-- The reader's answer r is a sound packet of fields f, and these samples are in its part of the store.
pub record SoundRead (f : Fields) (samples : List ℕ) (r : Packet) : Type 0 where
  pub number : r.number ≡ 0
  pub fields : r.fields ≡ f
  pub part : samples_in r.samples.now ≡ samples
