-- The laws of samples in bytes: lengths, there and back, and the loops that read, write and compare them. Assumes nothing.
use Prim.Native.Nat.{ℕ, zero, suc, ◌+◌, ◌*◌, ◌/◌, ◌%◌, ◌≤◌, ◌<◌}
use mathlib.Core.Path.{◌≡◌, refl, sym, ap, ◌∙◌}
use mathlib.Core.Bool.{Bool}
use mathlib.Core.List.{List, [], ◌∷◌}
use native.Mathlib.Nat.{add-zero}
use native.Mathlib.Numerals.{add-one}
use native.Mathlib.Omega.{arith}
use lib.ListN.{length, get_or, take, drop, length-take, drop_of_length-le}
use Rattle.std.proofs.lemmas.List.{drop-drop}
use Rattle.std.specs.Simd.{first_chunks}
use lib.Seq.{drop-cons, get_or-take, sets, sets-eq}
use lib.Dec.{eqb}
use lib.Pointwise.{pointwise}
use borrow.Rule.Slice.PartMut.{put_mid}
use Rattle.std.proofs.lemmas.Bool.Decides.{same_from_decides, Decides-like, Decides-eqb}
use Rattle.std.proofs.lemmas.Slice.{put_mid-paste}
use Rattle.std.proofs.lemmas.Slice.Eq.{slice_eq-Decides, compares_Decides}
use Rattle.integers.specs.Lists.{tabulate, overwrite, same_list}
use Rattle.integers.proofs.Lists.{length-tabulate, tabulate_cons, tabulate_cong, overwrite_all}
use Rattle.little_endian.specs.Bytes.{bytes_of, number_at, sample_bytes, sample_at, samples_in}
use Rattle.little_endian.proofs.Bytes.{Below, below_take, number_at_cons, number_taken}

-- ---- lengths
pub length-sample_bytes : (s : List ℕ) → length (sample_bytes s) ≡ 2 * length s
unfolding sample_bytes bytes_of
length-sample_bytes [] = refl
length-sample_bytes (x ∷ xs) = omega (arith, length-sample_bytes xs)

pub length-samples_in : (l : List ℕ) (n : ℕ) → length l ≡ 2 * n → length (samples_in l) ≡ n
unfolding samples_in
length-samples_in l n e = length-tabulate (length l / 2) (sample_at l) ∙ omega arith

-- ---- there and back
samples_in_cons : (a b : ℕ) (l : List ℕ) → samples_in (a ∷ b ∷ l) ≡ (a + 256 * b) ∷ samples_in l
unfolding samples_in number_at
samples_in_cons a b l =
    ap (λ (n : ℕ). tabulate n (sample_at (a ∷ b ∷ l))) half
    ∙ tabulate_cons (length l / 2) (sample_at (a ∷ b ∷ l))
    ∙ (λ j. (a + 256 * add-zero b j) ∷ tabulate_cong (length l / 2) (λ k. sample_at (a ∷ b ∷ l) (suc k)) (sample_at l) (λ k h. later k) j)
  where
    half : suc (suc (length l)) / 2 ≡ suc (length l / 2)
    half = omega arith

    later : (k : ℕ) → number_at 2 (a ∷ b ∷ l) (2 * suc k) ≡ number_at 2 l (2 * k)
    later k =
        let twice : 2 * suc k ≡ suc (suc (2 * k)) = omega arith in
        ap (number_at 2 (a ∷ b ∷ l)) twice ∙ number_at_cons 2 a (b ∷ l) (suc (2 * k)) ∙ number_at_cons 2 b l (2 * k)

samples_in_none : samples_in [] ≡ []
unfolding samples_in tabulate
samples_in_none = refl

pub samples_of_bytes : (s : List ℕ) → Below 65536 s → samples_in (sample_bytes s) ≡ s
unfolding sample_bytes bytes_of
samples_of_bytes [] h = samples_in_none
samples_of_bytes (x ∷ xs) h =
    samples_in_cons (x % 256) (x / 256 % 256) (sample_bytes xs) ∙ (λ j. whole j ∷ samples_of_bytes xs (record { at = λ k. h.at (suc k) }) j)
  where
    whole : x % 256 + 256 * (x / 256 % 256) ≡ x
    whole = omega (arith, h.at 0)

pub bytes_of_samples : (l : List ℕ) (n : ℕ) → length l ≡ 2 * n → Below 256 l → sample_bytes (samples_in l) ≡ l
unfolding sample_bytes bytes_of
bytes_of_samples [] n e b = ap sample_bytes samples_in_none
bytes_of_samples (x ∷ []) n e b = absurd (omega arith)
bytes_of_samples (x ∷ y ∷ l) zero e b = absurd (omega arith)
bytes_of_samples (x ∷ y ∷ l) (suc n) e b =
    ap sample_bytes (samples_in_cons x y l)
    ∙ (λ j. low j ∷ high j ∷ bytes_of_samples l n (omega arith) (record { at = λ k. b.at (suc (suc k)) }) j)
  where
    low : (x + 256 * y) % 256 ≡ x
    low = omega (arith, b.at 0)

    high : (x + 256 * y) / 256 % 256 ≡ y
    high = omega (arith, b.at 0, b.at 1)

-- ---- bytes two by two
pairs_at : (n k : ℕ) (l : List ℕ) → k < n → get_or (first_chunks 2 n l) k [] ≡ take 2 (drop (2 * k) l)
pairs_at zero k l h = absurd (omega arith)
pairs_at (suc n) zero l h = refl
pairs_at (suc n) (suc k) l h = pairs_at n k (drop 2 l) (omega arith) ∙ ap (take 2) (drop-drop (2 * k) 2 l ∙ ap (λ (i : ℕ). drop i l) (omega arith))

-- the number in a pair is a sample
pub pair_at : (l : List ℕ) (k : ℕ) {x : ℕ} {pairs : List (List ℕ)} → pairs ≡ first_chunks 2 (length l / 2) l → k < length l / 2
    → x ≡ get_or (get_or pairs k []) 0 0 + get_or (get_or pairs k []) 1 0 * 256 → x ≡ sample_at l k
unfolding number_at
pair_at l k {x} {pairs} e h p =
    let pair : get_or pairs k [] ≡ take 2 (drop (2 * k) l) = ap (λ (q : List (List ℕ)). get_or q k []) e ∙ pairs_at (length l / 2) k l h in
    p ∙ omega arith ∙ ap (λ (q : List ℕ). number_at 2 q 0) pair ∙ number_taken 2 l (2 * k)

-- ---- the loop that writes: the samples that are left
pub write_step : (x s : List ℕ) (k m : ℕ) {y z : List ℕ} → k < length s → 2 * length s ≤ length x → m ≡ 2 → y ≡ z → z ≡ bytes_of 2 (get_or s k 0)
    → sets (put_mid (2 * k) m x y) (2 * (k + 1)) (sample_bytes (drop (k + 1) s)) ≡ sets x (2 * k) (sample_bytes (drop k s))
unfolding sample_bytes bytes_of
write_step x s k m {y} {z} h room two e f =
    (λ j. sets (part j) (next j) (sample_bytes (drop (add-one k j) s)))
    ∙ ap (λ (l : List ℕ). sets x (2 * k) (sample_bytes l)) (sym (drop-cons s k 0 h))
  where
    next : 2 * (k + 1) ≡ suc (suc (2 * k))
    next = omega arith

    part : put_mid (2 * k) m x y ≡ sets x (2 * k) (bytes_of 2 (get_or s k 0))
    part = put_mid-paste (2 * k) m x y (bytes_of 2 (get_or s k 0)) 2 (e ∙ f) (sym two) refl ∙ sym (sets-eq (bytes_of 2 (get_or s k 0)) x (2 * k) (omega arith))

pub write_end : (out s : List ℕ) (i k : ℕ) → length s ≤ k → out ≡ sets out i (sample_bytes (drop k s))
unfolding sample_bytes
write_end out s i k h = ap (λ (l : List ℕ). sets out i (sample_bytes l)) (sym (drop_of_length-le s {i = k} h))

-- ---- the loop that reads
pub read_end : (bytes before : List ℕ) (k : ℕ) {x : List ℕ} → x ≡ overwrite before 0 k (sample_at bytes) → k ≡ length before → length bytes ≡ 2 * length before → x ≡ samples_in bytes
unfolding samples_in
read_end bytes before k e p q = e ∙ overwrite_all before k (sample_at bytes) p ∙ ap (λ (n : ℕ). tabulate n (sample_at bytes)) half
  where
    half : k ≡ length bytes / 2
    half = omega arith

-- ---- the bytes of whole samples are equal where the samples are
whole : (l : List ℕ) (n : ℕ) → length l / 2 ≡ n → samples_in (take (n * 2) l) ≡ samples_in l
unfolding samples_in number_at
whole l n e =
    ap (λ (m : ℕ). tabulate m (sample_at (take (n * 2) l))) count
    ∙ tabulate_cong (length l / 2) (sample_at (take (n * 2) l)) (sample_at l) (λ k h. omega (arith, get_or-take (n * 2) l (2 * k) 0 (omega arith), get_or-take (n * 2) l (2 * k + 1) 0 (omega arith)))
  where
    count : length (take (n * 2) l) / 2 ≡ length l / 2
    count = omega (arith, length-take (n * 2) l)

back : (l : List ℕ) (n : ℕ) → length l / 2 ≡ n → Below 256 l → sample_bytes (samples_in l) ≡ take (n * 2) l
back l n e b = ap sample_bytes (sym (whole l n e)) ∙ bytes_of_samples (take (n * 2) l) n (omega (arith, length-take (n * 2) l)) (below_take 256 (n * 2) l (omega arith) b)

pub same_bytes : (a b : List ℕ) {r : Bool} → length a ≡ length b → Below 256 a → Below 256 b
    → r ≡ pointwise eqb (take (length a / 2 * 2) a) (take (length a / 2 * 2) b) → r ≡ same_list (samples_in a) (samples_in b)
unfolding same_list
same_bytes a b {r} e p q h =
    same_from_decides r _ (Decides-like r to from (slice_eq-Decides Decides-eqb _ _ r h)) (compares_Decides same_list (record { empty = refl; shorter = λ y ys. refl; longer = λ x xs. refl; heads = λ x y xs ys. refl }) _ _)
  where
    n : ℕ
    n = length a / 2

    to : take (n * 2) a ≡ take (n * 2) b → samples_in a ≡ samples_in b
    to s = sym (whole a n refl) ∙ ap samples_in s ∙ whole b n (omega arith)

    from : samples_in a ≡ samples_in b → take (n * 2) a ≡ take (n * 2) b
    from s = sym (back a n refl p) ∙ ap sample_bytes s ∙ back b n (omega arith) q
