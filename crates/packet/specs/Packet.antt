-- Document 01, "Packet": a frame's bytes, and a frame found in a store of bytes. Assumes nothing.
use Rattle.std.specs.Prelude.{ℕ, ◌+◌, ◌*◌, ◌-◌, Bool, ◌&&◌, List, ◌++◌, eqb, length, take, drop}
use Rattle.integers.specs.Lists.{same_list}
use Rattle.little_endian.specs.Bytes.{bytes_of, number_at, sample_bytes, samples_in}
use Rattle.packet.specs.declared.Fields.{Fields}

-- ---- the packet's bytes
-- the distance back, from the packet's end to its first sample: the packet's length
abbrev pub distance : Fields → ℕ
distance f = 2 * (f.shape.width * f.shape.height) + 12

-- width (2), height (2), layout (1), rounds (1), threshold (2), distance back (4)
unfoldable pub trailer : Fields → List ℕ
trailer f =
    bytes_of 2 f.shape.width ++ (bytes_of 2 f.shape.height ++ (bytes_of 1 f.shape.layout ++ (bytes_of 1 f.settings.rounds ++ (bytes_of 2 f.settings.threshold ++ bytes_of 4 (distance f)))))

unfoldable pub packet : Fields → List ℕ → List ℕ
packet f samples = sample_bytes samples ++ trailer f

-- ---- a store whose end is the packet's end; older bytes may precede it
-- where its trailer begins
abbrev pub trailer_place : List ℕ → ℕ
trailer_place store = length store - 12

unfoldable pub fields_of : List ℕ → Fields
fields_of store = record {
  shape = record {
    width = number_at 2 store (trailer_place store);
    height = number_at 2 store (trailer_place store + 2);
    layout = number_at 1 store (trailer_place store + 4);
  };
  settings = record { rounds = number_at 1 store (trailer_place store + 5); threshold = number_at 2 store (trailer_place store + 6) };
}

abbrev pub distance_in : List ℕ → ℕ
distance_in store = number_at 4 store (trailer_place store + 8)

-- the place of the first sample, by the distance back from the end
abbrev pub first_place : List ℕ → ℕ
first_place store = length store - distance_in store

-- the part of the store that holds the samples
unfoldable pub sample_part : List ℕ → List ℕ
sample_part store = take (trailer_place store - first_place store) (drop (first_place store) store)

abbrev pub samples_of : List ℕ → List ℕ
samples_of store = samples_in (sample_part store)

-- the packet's own bytes, without the older ones
abbrev pub packet_in : List ℕ → List ℕ
packet_in store = drop (first_place store) store

-- ---- packet A repeats packet B when all fields, with the layout the level, and all samples agree
unfoldable pub same_fields : Fields → Fields → Bool
same_fields f g =
    eqb f.shape.width g.shape.width
    && (eqb f.shape.height g.shape.height
    && (eqb f.shape.layout g.shape.layout
    && (eqb f.settings.rounds g.settings.rounds
    && eqb f.settings.threshold g.settings.threshold)))

unfoldable pub repeats : List ℕ → List ℕ → Bool
repeats a b = same_fields (fields_of a) (fields_of b) && same_list (samples_of a) (samples_of b)
