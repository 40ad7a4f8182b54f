-- A packet that was written reads back as the same frame, also with older bytes before it; a packet that was read and is written
-- again is the same bytes; packets that repeat each other are the same bytes. Laws of the definitions, and of what the calls answer.
-- Assumes nothing.
use Prim.Native.Nat.{ℕ, ◌+◌, ◌*◌, ◌-◌, ◌^◌, ◌≤◌, ◌<◌}
use mathlib.Core.Path.{◌≡◌, refl, sym, ap, ◌∙◌, subst}
use mathlib.Core.Bool.{Bool, true}
use mathlib.Core.List.{List, [], ◌∷◌, ◌++◌, append_assoc, append-nil}
use native.Mathlib.Nat.{add-zero}
use native.Mathlib.Omega.{arith}
use lib.Dec.{T}
use lib.ListN.{length, take, drop, length-append, take-append-drop, drop_of_length-le}
use lib.Seq.{take_at, drop_at, drop-drop}
use borrow.Author.Tests.{le-leb, eq-eqb}
use Rattle.integers.specs.Lists.{same_list}
use Rattle.integers.proofs.Lists.{same_list_yes, same_list_is}
use Rattle.integers.proofs.Tests.{is_true, true_is, same_test}
use Rattle.questions.specs.Settings.{ceiling_of}
use Rattle.questions.specs.Questions.{Question, ask, all_at_most}
use Rattle.std.proofs.Common.{Result, Ok, Err}
use Rattle.questions.specs.Refusals.{number_of}
use Rattle.questions.specs.declared.Refusal.{Refusal}
use Rattle.questions.specs.Calls.{Outcome}
use Rattle.questions.proofs.Asking.{AllYes, all_yes_both, ask_zero, all_at_most_at, ceiling_fits}
use Rattle.questions.proofs.Answering.{left_yes, new_left}
use Rattle.little_endian.specs.Bytes.{bytes_of, number_at, sample_bytes, samples_in}
use Rattle.little_endian.proofs.Bytes.{Below, below_by, below_take, below_drop, number_at-drop, number_of_bytes, bytes_of_number}
use Rattle.little_endian.proofs.Samples.{length-sample_bytes, length-samples_in, samples_of_bytes, bytes_of_samples}
use Rattle.packet.specs.Packet.{distance, trailer, packet, trailer_place, fields_of, distance_in, first_place, sample_part, samples_of, packet_in, repeats}
use Rattle.packet.specs.Calls.{fields_questions, distance_questions, store_questions, ceiling_question, read_questions, filling_questions, mosaic_questions, writing_questions, write_questions, ReadResult, part_read, mosaic_call, write_call, RepeatResult}
use Rattle.packet.specs.RoundTrips.{ReadsBack, WasRead, into_mosaic, as_part}
use Rattle.packet.specs.declared.Fields.{Fields}
use Rattle.packet.proofs.Stores.{SoundPacket, sound_by, sound, filling, length_part}
use Rattle.packet.proofs.Repeating.{repeats_agree, agree_repeats, sound_both}
use Rattle.packet.proofs.Writing.{Writable, writable, length-packet}

-- samples at most a ceiling that fits two bytes fit them too
fit_two_bytes : (top : ℕ) (s : List ℕ) → top < 65536 → all_at_most top s ≡ true → Below 65536 s
fit_two_bytes top s h e = below_by 65536 s (omega arith) (λ k i. omega (arith, all_at_most_at top s (true_is e) k i))

-- ---- written, then read
-- a store: older bytes, and then a packet that the writer accepts
module _ (older : List ℕ) (f : Fields) (s : List ℕ) (room : ℕ) (k : Writable f s room) where
  abbrev Store : List ℕ
  Store = older ++ packet f s

  length_store : length Store ≡ length older + distance f
  length_store = length-append older (packet f s) ∙ ap (λ (n : ℕ). length older + n) (length-packet f s k.given)

  place : trailer_place Store ≡ length older + length (sample_bytes s)
  place = omega (arith, length_store, length-sample_bytes s, k.given)

  -- what stands from the trailer's place on
  at_trailer : drop (trailer_place Store) Store ≡ trailer f
  unfolding packet
  at_trailer =
      (λ j. drop (place j) (sym (append_assoc older (sample_bytes s) (trailer f)) j))
      ∙ drop_at (older ++ sample_bytes s) (trailer f) (length older + length (sample_bytes s)) (length-append older (sample_bytes s))

  -- x, in n bytes that stand i places into the trailer
  read_back : (n i x : ℕ) (l : List ℕ) → drop i (trailer f) ≡ bytes_of n x ++ l → x < 256 ^ n → number_at n Store (trailer_place Store + i) ≡ x
  read_back n i x l e h =
      number_at-drop n Store (trailer_place Store) i
      ∙ ap (λ (t : List ℕ). number_at n t i) at_trailer
      ∙ ap (number_at n (trailer f)) (sym (add-zero i))
      ∙ number_at-drop n (trailer f) i 0
      ∙ ap (λ (t : List ℕ). number_at n t 0) e
      ∙ number_of_bytes n x l h

  fields_back : fields_of Store ≡ f
  unfolding fields_of trailer bytes_of
  fields_back =
      let width : f.shape.width < 65536 = omega (arith, k.fields.shape.sizes.width_to) in
      let height : f.shape.height < 65536 = omega (arith, k.fields.shape.sizes.height_to) in
      let layout : f.shape.layout < 256 = omega (arith, k.fields.shape.layout_to) in
      let rounds : f.settings.rounds < 256 = omega (arith, k.fields.rounds) in
      let threshold : f.settings.threshold < 65536 = omega (arith, k.fields.threshold, ceiling_fits f.settings) in
      λ j. record {
        shape = record {
          width = (ap (number_at 2 Store) (sym (add-zero (trailer_place Store))) ∙ read_back 2 0 f.shape.width _ refl width) j;
          height = read_back 2 2 f.shape.height _ refl height j;
          layout = read_back 1 4 f.shape.layout _ refl layout j;
        };
        settings = record {
          rounds = read_back 1 5 f.settings.rounds _ refl rounds j;
          threshold = read_back 2 6 f.settings.threshold _ refl threshold j;
        };
      }

  distance_back : distance_in Store ≡ distance f
  unfolding trailer bytes_of
  distance_back =
      let small : distance f < 4294967296 = omega (arith, k.fields.shape.sizes.area) in
      read_back 4 8 (distance f) [] refl small

  part_back : sample_part Store ≡ sample_bytes s
  unfolding sample_part packet
  part_back =
      (λ j. take (count j) (drop (first j) Store))
      ∙ ap (take (length (sample_bytes s))) (drop_at older (packet f s) (length older) refl)
      ∙ take_at (sample_bytes s) (trailer f) (length (sample_bytes s)) refl
    where
      first : first_place Store ≡ length older
      first = omega (arith, length_store, distance_back)

      count : trailer_place Store - first_place Store ≡ length (sample_bytes s)
      count = omega (arith, place, first)

  samples_back : samples_of Store ≡ s
  samples_back = ap samples_in part_back ∙ samples_of_bytes s (fit_two_bytes (ceiling_of f.settings) s (ceiling_fits f.settings) k.small)

  sound_back : SoundPacket Store
  sound_back =
      let fields = subst (λ (g : Fields). AllYes (fields_questions g)) (sym fields_back) k.fields.answers in
      let back = distance_questions (distance_in Store) (fields_of Store) (length Store) in
      let placed : AllYes back = (
        eq-eqb (distance_in Store) (distance (fields_of Store)) (distance_back ∙ ap distance (sym fields_back)),
        (le-leb (distance_in Store) (length Store) (omega (arith, distance_back, length_store)), tt),
      ) in
      let rest = all_yes_both (fields_questions (fields_of Store)) back fields placed in
      sound_by Store
      (all_yes_both (store_questions Store) (ceiling_question (fields_of Store) (samples_of Store) ∷ []) (le-leb 12 (length Store) (omega (arith, length_store)), rest) ((λ j. all_at_most (ceiling_of (fields_back j).settings) (samples_back j)) ∙ k.small, tt))

-- a store's packet is sound, and of this frame
record Reads (store : List ℕ) (f : Fields) (s : List ℕ) : Type 0 where
  sound : SoundPacket store
  fields : fields_of store ≡ f
  samples : samples_of store ≡ s

written_reads_back : (older : List ℕ) (f : Fields) (s : List ℕ) (room : ℕ) → ask (write_questions f s room) ≡ 0 → Reads (older ++ packet f s) f s
written_reads_back older f s room z =
    let k = writable f s room (sym z) in
    record {
      sound = sound_back older f s room k;
      fields = fields_back older f s room k;
      samples = samples_back older f s room k;
    }

-- ---- read, then written again
-- a store whose packet is sound
module _ (s : List ℕ) (k : SoundPacket s) (b : Below 256 s) where
  -- a number's bytes, from place i of the store on, and what comes after them
  piece : (n i x m : ℕ) {l : List ℕ} → x ≡ number_at n s i → m ≡ i + n → m ≤ length s → l ≡ drop m s → bytes_of n x ++ l ≡ drop i s
  piece n i x m e p h r =
      (λ j. (ap (bytes_of n) e ∙ bytes_of_number n s i b (omega arith)) j ++ (r ∙ ap (λ (a : ℕ). drop a s) p ∙ sym (drop-drop n i s)) j)
      ∙ take-append-drop n (drop i s)

  trailer_again : trailer (fields_of s) ≡ drop (trailer_place s) s
  unfolding trailer fields_of
  trailer_again =
      let t = trailer_place s in
      let end : t + 12 ≡ length s = omega (arith, k.at.long) in
      piece 2 t _ (t + 2) refl refl (omega (arith, end))
      (piece 2 (t + 2) _ (t + 4) refl (omega arith) (omega (arith, end))
      (piece 1 (t + 4) _ (t + 5) refl (omega arith) (omega (arith, end))
      (piece 1 (t + 5) _ (t + 6) refl (omega arith) (omega (arith, end))
      (piece 2 (t + 6) _ (t + 8) refl (omega arith) (omega (arith, end))
      (sym (append-nil (bytes_of 4 (distance (fields_of s))))
      ∙ piece 4 (t + 8) (distance (fields_of s)) (t + 12) (sym k.at.back) (omega arith) (omega (arith, end)) (sym (drop_of_length-le s {i = t + 12} (omega (arith, end)))))))))

  part_bytes : Below 256 (sample_part s)
  unfolding sample_part
  part_bytes = below_take 256 (trailer_place s - first_place s) (drop (first_place s) s) (omega arith) (below_drop 256 (first_place s) s b)

  samples_again : sample_bytes (samples_of s) ≡ sample_part s
  samples_again = bytes_of_samples (sample_part s) ((fields_of s).shape.width * (fields_of s).shape.height) (length_part s k.at) part_bytes

  -- the bytes from the first sample on
  packet_again : packet (fields_of s) (samples_of s) ≡ packet_in s
  unfolding packet sample_part
  packet_again =
      let a = first_place s in
      let n = trailer_place s - a in
      (λ j. samples_again j ++ (trailer_again ∙ ap (λ (i : ℕ). drop i s) end ∙ sym (drop-drop n a s)) j)
      ∙ take-append-drop n (drop a s)
    where
      end : trailer_place s ≡ first_place s + (trailer_place s - first_place s)
      end = omega (arith, k.at.long, k.at.within, k.at.back)

  -- the writer accepts what was read, into a buffer that is long enough
  accepted_again : (room : ℕ) → distance (fields_of s) ≤ room → ask (write_questions (fields_of s) (samples_of s) room) ≡ 0
  accepted_again room h =
      let f = fields_of s in
      ask_zero (write_questions f (samples_of s) room)
      (all_yes_both (fields_questions f) (writing_questions f (samples_of s) room) k.at.fields.answers
      (eq-eqb (length (samples_of s)) (f.shape.width * f.shape.height) (length-samples_in (sample_part s) (f.shape.width * f.shape.height) (length_part s k.at)), (k.small, (le-leb (distance f) room h, tt))))

  -- by itself it is read as it was behind its older bytes
  reads_alone : Reads (packet_in s) (fields_of s) (samples_of s)
  reads_alone =
      let f = fields_of s in
      subst (λ (l : List ℕ). Reads l f (samples_of s)) packet_again (written_reads_back [] f (samples_of s) (distance f) (accepted_again (distance f) (omega arith)))

-- ---- repeats
-- Two sound packets repeat each other exactly when their bytes are the same, whatever older bytes precede them.
pub repeats_bytes : (a b : List ℕ) → Below 256 a → Below 256 b → SoundPacket a → SoundPacket b → repeats a b ≡ same_list (packet_in a) (packet_in b)
repeats_bytes a b p q k l = same_test (repeats a b) (same_list (packet_in a) (packet_in b)) written_alike read_alike
  where
    written_alike : T (repeats a b) → T (same_list (packet_in a) (packet_in b))
    written_alike t =
        let e = repeats_agree a b (is_true (repeats a b) t) in
        true_is (same_list_yes (packet_in a) (packet_in b) (sym (packet_again a k p) ∙ (λ j. packet (e.0 j) (e.1 j)) ∙ packet_again b l q))

    read_alike : T (same_list (packet_in a) (packet_in b)) → T (repeats a b)
    read_alike t =
        let e = same_list_is (packet_in a) (packet_in b) (is_true (same_list (packet_in a) (packet_in b)) t) in
        let m = reads_alone a k p in
        let n = reads_alone b l q in
        true_is (agree_repeats a b (sym m.fields ∙ ap fields_of e ∙ n.fields) (sym m.samples ∙ ap samples_of e ∙ n.samples))

-- ---- the calls, one after another
-- what the three reading calls answer of a store that is read as a frame
module _ (store : List ℕ) (f : Fields) (s : List ℕ) (h : Reads store f s) where
  fields_read : (r : Result Fields Refusal) → ReadResult store r → r ≡ Ok f
  fields_read r result = result.accepted h.sound.asked ∙ ap (λ (g : Fields). Ok g) h.fields

  samples_read : (p : List ℕ) → p ≡ part_read store → samples_in p ≡ s
  samples_read p e = ap samples_in (e ∙ sym (left_yes (read_questions store) (sample_part store) [] (sym h.sound.asked))) ∙ h.samples

  mosaic_read : (before : List ℕ) (r : Result Fields Refusal) (after : List ℕ) → length before ≡ f.shape.width * f.shape.height → Outcome (mosaic_call store before) r after → (r ≡ Ok f) × (after ≡ s)
  mosaic_read before r after e result = (
    result.answer.accepted yes ∙ ap (λ (g : Fields). Ok g) h.fields,
    new_left (mosaic_call store before) result.leaves yes ∙ h.samples,
  )
    where
      area : length before ≡ (fields_of store).shape.width * (fields_of store).shape.height
      area = e ∙ ap (λ (g : Fields). g.shape.width * g.shape.height) (sym h.fields)

      yes : ask (mosaic_questions store (length before)) ≡ 0
      yes =
          ask_zero (mosaic_questions store (length before))
          (all_yes_both (store_questions store) (filling_questions (fields_of store) (samples_of store) (length before)) h.sound.at.answers (eq-eqb _ _ area, (h.sound.small, tt)))

-- the length that an accepted writing call answers
abbrev length_or : ℕ → Result ℕ Refusal → ℕ
length_or n (Ok m) = m
length_or n (Err why) = n

-- A packet written reads back as the same frame: the writer accepted fields f and these samples and answered n, and the buffer's first
-- n bytes are read as those fields and those samples, behind any older bytes.
pub write_then_read : (f : Fields) (samples before : List ℕ) (n : ℕ) (after : List ℕ) → Outcome (write_call f samples before) (Ok n) after → ReadsBack f samples n after
write_then_read f samples before n after result = record {
  how_many = count;
  fields = λ older. fields_read (older ++ take n after) f samples (reads older);
  part = λ older. samples_read (older ++ take n after) f samples (reads older);
  mosaic = λ older. mosaic_read (older ++ take n after) f samples (reads older);
}
  where
    qs : List Question
    qs = write_questions f samples (length before)

    yes : ask qs ≡ 0
    yes = sym result.answer.number

    count : n ≡ distance f
    count = ap (length_or n) (result.answer.accepted yes)

    first : take n after ≡ packet f samples
    first =
        (λ j. take (count j) (new_left (write_call f samples before) result.leaves yes j))
        ∙ take_at (packet f samples) (drop (distance f) before) (distance f) (length-packet f samples (writable f samples (length before) (sym yes)).given)

    reads : (older : List ℕ) → Reads (older ++ take n after) f samples
    reads older = subst (λ (l : List ℕ). Reads (older ++ l) f samples) (sym first) (written_reads_back older f samples (length before) yes)

-- the fields of a sound packet's answer
abbrev fields_or : Fields → Result Fields Refusal → Fields
fields_or f (Ok g) = g
fields_or f (Err why) = f

-- what was read of a store, by either reader, is its packet's frame
was_read : (store : List ℕ) (f : Fields) (s : List ℕ) → WasRead store f s → Reads store f s
was_read store f s (into_mosaic before read) = record {
  sound = (filling store (length before) read.answer.number).packet;
  fields = sym (ap (fields_or f) (read.answer.accepted (sym read.answer.number)));
  samples = sym (new_left (mosaic_call store before) read.leaves (sym read.answer.number));
}
was_read store f s (as_part read part e copied) = record {
  sound = sound store read.number;
  fields = sym (ap (fields_or f) (read.accepted (sym read.number)));
  samples = ap samples_in (left_yes (read_questions store) (sample_part store) [] read.number ∙ sym e) ∙ sym copied;
}

-- A packet read and written again is the same bytes: its fields and samples were read of a store of bytes, by either reader, and are
-- written into a buffer that is long enough. The writer accepts, and the buffer begins with the very bytes of the packet.
pub read_then_write : (store : List ℕ) → Below 256 store → (f : Fields) (samples : List ℕ) → WasRead store f samples
    → (before : List ℕ) (w : Result ℕ Refusal) (after : List ℕ) → distance f ≤ length before → Outcome (write_call f samples before) w after
    → (w ≡ Ok (distance f)) × (after ≡ packet_in store ++ drop (distance f) before)
read_then_write store b f samples read before w after h result = (
  result.answer.accepted yes,
  new_left (write_call f samples before) result.leaves yes
      ∙ ap (λ (l : List ℕ). l ++ drop (distance f) before) ((λ j. packet (sym k.fields j) (sym k.samples j)) ∙ packet_again store k.sound b),
)
  where
    k : Reads store f samples
    k = was_read store f samples read

    qs : List Question
    qs = write_questions f samples (length before)

    yes : ask qs ≡ 0
    yes =
        (λ j. ask (write_questions (sym k.fields j) (sym k.samples j) (length before)))
        ∙ accepted_again store k.sound b (length before) (subst (λ (g : Fields). distance g ≤ length before) (sym k.fields) h)

-- A repeat is the same bytes: an accepted repeat call on two stores of bytes answers whether the packets' own bytes are the same.
pub repeat_is_same_bytes : (a b : List ℕ) → Below 256 a → Below 256 b → (r : Result Bool Refusal) → RepeatResult a b r → number_of r ≡ 0
    → r ≡ Ok (same_list (packet_in a) (packet_in b))
repeat_is_same_bytes a b p q r result z =
    let k = sound_both a b (sym z ∙ result.number) in
    result.accepted (sym result.number ∙ z) ∙ ap (λ (x : Bool). Ok x) (repeats_bytes a b p q k.0 k.1)
