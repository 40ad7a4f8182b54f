-- Demand 2's round trips of a packet: what it is to read back as the same frame, and which frame was read. Assumes nothing.
use Rattle.std.specs.Prelude.{ℕ, ◌*◌, ◌≡◌, Result, Ok, List, ◌++◌, length, take}
use Rattle.questions.specs.declared.Refusal.{Refusal}
use Rattle.questions.specs.Calls.{Outcome}
use Rattle.little_endian.specs.Bytes.{samples_in}
use Rattle.packet.specs.Packet.{distance}
use Rattle.packet.specs.Calls.{ReadResult, part_read, mosaic_call}
use Rattle.packet.specs.declared.Fields.{Fields}

-- The first n bytes of a buffer read back as fields f and these samples, by each reading call, where they end a store and any older bytes
-- precede them.
pub record ReadsBack (f : Fields) (samples : List ℕ) (n : ℕ) (buffer : List ℕ) : Type 0 where
  -- they are 2·w·h + 12
  pub how_many : n ≡ distance f
  -- `read_packet` answers the fields
  pub fields : (older : List ℕ) (r : Result Fields Refusal) → ReadResult (older ++ take n buffer) r → r ≡ Ok f
  -- `packet_samples` answers the part of the store that holds the samples
  pub part : (older part : List ℕ) → part ≡ part_read (older ++ take n buffer) → samples_in part ≡ samples
  -- `read_mosaic`, given a mosaic of exactly w·h, answers the fields and fills it with the samples
  pub mosaic : (older before : List ℕ) (r : Result Fields Refusal) (after : List ℕ) → length before ≡ f.shape.width * f.shape.height → Outcome (mosaic_call (older ++ take n buffer) before) r after
      → (r ≡ Ok f) × (after ≡ samples)

-- Fields f and these samples were read of a store: into a mosaic, or as the part of the store that holds them.
pub data WasRead (store : List ℕ) (f : Fields) (samples : List ℕ) : Type 0 where
  into_mosaic : (before : List ℕ) → Outcome (mosaic_call store before) (Ok f) samples → WasRead store f samples
  as_part : ReadResult store (Ok f) → (part : List ℕ) → part ≡ part_read store → samples ≡ samples_in part → WasRead store f samples
