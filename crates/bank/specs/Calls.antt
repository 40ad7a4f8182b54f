-- The bank's calls: what each asks, and what its answer and its buffers are then. Assumes nothing.
use Rattle.std.specs.Prelude.{List, [], ◌∷◌, ◌++◌, map, ℕ, ◌*◌, eqb, ℤ, nat_abs, length}
use Rattle.planes.specs.Planes.{listing}
use Rattle.questions.specs.Questions.{Question, question, all_at_most, size_questions}
use Rattle.questions.specs.Calls.{Call, plain_call}
use Rattle.filters.specs.Bank.{Bands, split, join}
use Rattle.bank.specs.Planes.{plane, bands_of}

-- four of a kind, that of band 1 first
abbrev pub bands : {A : Type 0} → A → A → A → A → Bands A
bands a b c d = record { band1 = a; band2 = b; band3 = c; band4 = d }

abbrev pub band_lengths : Bands (List ℤ) → Bands ℕ
band_lengths l = bands (length l.band1) (length l.band2) (length l.band3) (length l.band4)

-- ---- the questions, in document 01's order
-- values to split lie in −8,190..8,190, values to join in −131,040..131,040
abbrev pub to_split : ℕ
to_split = 8190

abbrev pub to_join : ℕ
to_join = 131040

-- so a sum lies within ±75,479,040 (law `sums_in_range`)
abbrev pub sum_within : ℕ
sum_within = 75479040

-- 15 values in −most..most
abbrev pub values_question : ℕ → List ℤ → Question
values_question most values = question 15 (all_at_most most (map nat_abs values))

-- and of each of the four bands
abbrev pub values_questions : ℕ → Bands (List ℤ) → List Question
values_questions most given = values_question most given.band1 ∷ values_question most given.band2 ∷ values_question most given.band3 ∷ values_question most given.band4 ∷ []

-- 6 or 7 of each of the four bands: exactly `count`
abbrev pub band_questions : ℕ → ℕ → Bands ℕ → List Question
band_questions number count rooms =
    question number (eqb rooms.band1 count) ∷ question number (eqb rooms.band2 count) ∷ question number (eqb rooms.band3 count) ∷ question number (eqb rooms.band4 count) ∷ []

-- 6, 7 and 15 of split, where a plane has `count` numbers and the bands have room for so many
abbrev pub splitting_questions : ℕ → List ℤ → Bands ℕ → List Question
splitting_questions count given rooms = question 6 (eqb (length given) count) ∷ (band_questions 7 count rooms ++ (values_question to_split given ∷ []))

-- split: 1 and 2 (from 1), and then those
abbrev pub split_questions : ℕ → ℕ → List ℤ → Bands ℕ → List Question
split_questions width height given rooms = size_questions 1 width height ++ splitting_questions (width * height) given rooms

-- 6, 7 and 15 of join, where a plane has `count` numbers and the sums have room for so many
abbrev pub joining_questions : ℕ → Bands (List ℤ) → ℕ → List Question
joining_questions count given room =
    band_questions 6 count (band_lengths given) ++ (question 7 (eqb room count) ∷ values_questions to_join given)

-- join: 1 and 2 (from 1), and then those
abbrev pub join_questions : ℕ → ℕ → Bands (List ℤ) → ℕ → List Question
join_questions width height given room = size_questions 1 width height ++ joining_questions (width * height) given room

-- ---- what is promised
-- the four bands of a plane, row by row
unfoldable pub split_lists : ℕ → ℕ → List ℤ → Bands (List ℤ)
split_lists w h given =
    bands (listing w h (λ r c. (split 1 w h (plane w given) r c).band1)) (listing w h (λ r c. (split 1 w h (plane w given) r c).band2))
    (listing w h (λ r c. (split 1 w h (plane w given) r c).band3)) (listing w h (λ r c. (split 1 w h (plane w given) r c).band4))

-- the joined sums of four bands, row by row
unfoldable pub join_list : ℕ → ℕ → Bands (List ℤ) → List ℤ
join_list w h given = listing w h (join 1 w h (bands_of w given))

-- ---- the calls
-- split, given a plane and four buffers that held `before`: they hold its bands then
abbrev pub split_call : ℕ → ℕ → List ℤ → Bands (List ℤ) → Call (Unit {0}) (Bands (List ℤ))
split_call width height given before = plain_call (split_questions width height given (band_lengths before)) (split_lists width height given) before

-- join, given four bands and a buffer that held `before`: it holds their sums then
abbrev pub join_call : ℕ → ℕ → Bands (List ℤ) → List ℤ → Call (Unit {0}) (List ℤ)
join_call width height given before = plain_call (join_questions width height given (length before)) (join_list width height given) before
