-- What the reader's questions say of a store, and what its calls show at their returns. Assumes nothing.
use Prim.Native.Nat.{ℕ, ◌+◌, ◌*◌, ◌-◌, ◌≤◌}
use mathlib.Core.Path.{◌≡◌, refl, sym, ap, ◌∙◌}
use mathlib.Core.Bool.{true}
use mathlib.Core.List.{List, [], ◌∷◌}
use native.Mathlib.Nat.{add-zero}
use native.Mathlib.Omega.{arith}
use lib.Dec.{leb}
use lib.ListN.{length, get_or, take, drop, length-drop}
use lib.Seq.{length-take-le}
use borrow.Author.Tests.{le-leb, leb-true, eqb-true}
use Rattle.questions.specs.Settings.{ceiling_of}
use Rattle.questions.specs.Questions.{ask, all_at_most, shape_questions, settings_questions}
use Rattle.questions.specs.Refusals.{refusal_number}
use Rattle.questions.specs.declared.Refusal.{Refusal}
use Rattle.questions.proofs.Asking.{AllYes, all_yes, all_yes_both, all_yes_split, Shape, shape_is, ask_yes, ask_zero, ask_then}
use Rattle.questions.proofs.Answering.{refusal_positive, refused-first, left_no, left_yes}
use Rattle.little_endian.specs.Bytes.{number_at}
use Rattle.packet.specs.Packet.{distance, trailer_place, fields_of, distance_in, first_place, sample_part, samples_of}
use Rattle.packet.specs.Calls.{fields_questions, distance_questions, store_questions, ceiling_question, read_questions, filling_questions, mosaic_questions, part_read}
use Rattle.packet.specs.declared.Fields.{Fields}

-- ---- what a yes says
-- of 1, 2, 3, 4 and 5
pub record Allowed (f : Fields) : Type 0 where
  pub answers : AllYes (fields_questions f)
  pub shape : Shape f.shape.width f.shape.height f.shape.layout
  pub rounds : f.settings.rounds ≤ 64
  pub threshold : f.settings.threshold ≤ ceiling_of f.settings

pub allowed : (f : Fields) → AllYes (fields_questions f) → Allowed f
allowed f y =
    let p = all_yes_split (shape_questions f.shape.width f.shape.height f.shape.layout) (settings_questions f.settings) y in
    record {
      answers = y;
      shape = shape_is f.shape.width f.shape.height f.shape.layout p.0;
      rounds = leb-true f.settings.rounds 64 p.1.0;
      threshold = leb-true f.settings.threshold (ceiling_of f.settings) p.1.1.0;
    }

-- of 11, 1, 2, 3, 4, 5, 12 and 13: the store has a packet's length from its first sample on
pub record Located (s : List ℕ) : Type 0 where
  pub answers : AllYes (store_questions s)
  pub long : 12 ≤ length s
  pub fields : Allowed (fields_of s)
  pub back : distance_in s ≡ distance (fields_of s)
  pub within : distance_in s ≤ length s

located_by : (s : List ℕ) → AllYes (store_questions s) → Located s
located_by s y =
    let f = fields_of s in
    let p = all_yes_split (fields_questions f) (distance_questions (distance_in s) f (length s)) y.1 in
    record {
      answers = y;
      long = leb-true 12 (length s) y.0;
      fields = allowed f p.0;
      back = eqb-true (distance_in s) (distance f) p.1.0;
      within = leb-true (distance_in s) (length s) p.1.1.0;
    }

pub located : (s : List ℕ) → 0 ≡ ask (store_questions s) → Located s
located s e = located_by s (all_yes (store_questions s) tt 0 e refl)

-- a sound packet: its samples are at most the ceiling too
pub record SoundPacket (s : List ℕ) : Type 0 where
  pub asked : ask (read_questions s) ≡ 0
  pub at : Located s
  pub small : all_at_most (ceiling_of (fields_of s).settings) (samples_of s) ≡ true

pub sound_by : (s : List ℕ) → AllYes (read_questions s) → SoundPacket s
sound_by s y =
    let p = all_yes_split (store_questions s) (ceiling_question (fields_of s) (samples_of s) ∷ []) y in
    record { asked = ask_zero (read_questions s) y; at = located_by s p.0; small = p.1.0 }

pub sound : (s : List ℕ) → 0 ≡ ask (read_questions s) → SoundPacket s
sound s e = sound_by s (all_yes (read_questions s) tt 0 e refl)

-- a sound packet, and a mosaic of just its number of samples
pub record FillingPacket (s : List ℕ) (room : ℕ) : Type 0 where
  pub packet : SoundPacket s
  pub fit : room ≡ (fields_of s).shape.width * (fields_of s).shape.height

pub filling : (s : List ℕ) (room : ℕ) → 0 ≡ ask (mosaic_questions s room) → FillingPacket s room
filling s room e =
    let p = all_yes_split (store_questions s) (filling_questions (fields_of s) (samples_of s) room) (all_yes (mosaic_questions s room) tt 0 e refl) in
    record { packet = sound_by s (all_yes_both (store_questions s) (ceiling_question (fields_of s) (samples_of s) ∷ []) p.0 p.1.1); fit = eqb-true room _ p.1.0 }

-- ---- the trailer and the part, as the code reads them
module _ (s : List ℕ) (t : ℕ) (e : t ≡ trailer_place s) where
  pub fields_are : (w h n : ℕ) → w ≡ number_at 2 s t → h ≡ number_at 2 s (t + 2) → n ≡ number_at 2 s (t + 6)
      → record { shape = record { width = w; height = h; layout = get_or s (t + 4) 0 }; settings = record { rounds = get_or s (t + 5) 0; threshold = n } } ≡ fields_of s
  unfolding fields_of number_at
  fields_are w h n p q r =
      (λ j. record { shape = record { width = p j; height = q j; layout = sym (add-zero (get_or s (t + 4) 0)) j }; settings = record { rounds = sym (add-zero (get_or s (t + 5) 0)) j; threshold = r j } })
      ∙ (λ j. record { shape = record { width = number_at 2 s (e j); height = number_at 2 s (e j + 2); layout = number_at 1 s (e j + 4) }; settings = record { rounds = number_at 1 s (e j + 5); threshold = number_at 2 s (e j + 6) } })

  pub distance_is : (d : ℕ) → d ≡ number_at 4 s (t + 8) → d ≡ distance_in s
  distance_is d p = p ∙ ap (λ (i : ℕ). number_at 4 s (i + 8)) e

  pub part_is : (d : ℕ) → d ≡ distance_in s → take (t - (length s - d)) (drop (length s - d) s) ≡ sample_part s
  unfolding sample_part
  part_is d p = λ j. take (e j - (length s - p j)) (drop (length s - p j) s)

pub length_part : (s : List ℕ) → Located s → length (sample_part s) ≡ 2 * ((fields_of s).shape.width * (fields_of s).shape.height)
unfolding sample_part
length_part s k =
    length-take-le (trailer_place s - first_place s) (drop (first_place s) s) (omega (arith, length-drop (first_place s) s, k.within, k.long, k.back))
    ∙ omega (arith, k.within, k.long, k.back)

-- ---- the questions, where f is the trailer's fields
module _ (s : List ℕ) (f : Fields) (e : f ≡ fields_of s) (h : 12 ≤ length s) where
  -- a no among 1 to 5
  pub store_first : (why : Refusal) (n : ℕ) → n ≡ refusal_number why → refusal_number why ≡ ask (fields_questions f) → n ≡ ask (store_questions s)
  store_first why n q p =
      ask_yes (leb 12 (length s)) n 11 _ (le-leb 12 (length s) h)
      (refused-first (fields_questions (fields_of s)) _ why n q (p ∙ ap (λ (g : Fields). ask (fields_questions g)) e))

  -- 12 and 13, of the distance that was read
  pub store_rest : 0 ≡ ask (fields_questions f) → (m d : ℕ) → d ≡ distance_in s → m ≡ ask (distance_questions d f (length s)) → m ≡ ask (store_questions s)
  store_rest p m d q r =
      ask_yes (leb 12 (length s)) m 11 _ (le-leb 12 (length s) h)
      (ask_then (fields_questions (fields_of s)) _ 0 m (p ∙ ap (λ (g : Fields). ask (fields_questions g)) e) tt refl
      (r ∙ λ j. ask (distance_questions (q j) (e j) (length s))))

-- the rest of a call's questions, of the packet that was found: t is its store
module _ (s t : List ℕ) (e : t ≡ s) (y : 0 ≡ ask (store_questions s)) where
  -- 9
  pub read-rest : (m : ℕ) → m ≡ ask (ceiling_question (fields_of t) (samples_of t) ∷ []) → m ≡ ask (read_questions s)
  read-rest m r =
      ask_then (store_questions s) _ 0 m y tt refl (r ∙ ap (λ (u : List ℕ). ask (ceiling_question (fields_of u) (samples_of u) ∷ [])) e)

  -- 7 and 9
  pub mosaic-rest : (room : ℕ) (f : Fields) → f ≡ fields_of t → (m : ℕ) → m ≡ ask (filling_questions f (samples_of t) room) → m ≡ ask (mosaic_questions s room)
  mosaic-rest room f q m r =
      ask_then (store_questions s) _ 0 m y tt refl (r ∙ λ j. ask (filling_questions ((q ∙ ap fields_of e) j) (samples_of (e j)) room))

-- ---- the part, of a packet that is refused, and of a sound one
module _ (s : List ℕ) where
  pub part_no : (why : Refusal) → refusal_number why ≡ ask (read_questions s) → [] ≡ part_read s
  part_no why e = left_no (read_questions s) (sample_part s) [] (refusal_number why) e (refusal_positive why)

  pub part_yes : 0 ≡ ask (read_questions s) → (p : List ℕ) → p ≡ sample_part s → p ≡ part_read s
  part_yes e p q = q ∙ left_yes (read_questions s) (sample_part s) [] e
