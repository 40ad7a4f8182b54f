-- The laws of numbers in bytes: a number's bytes are read back as the number, and the bytes of a number that was read are those
-- it was read from. Assumes nothing.
use Prim.Native.Nat.{ℕ, zero, suc, ◌+◌, ◌*◌, ◌-◌, ◌/◌, ◌%◌, ◌^◌, ◌≤◌, ◌<◌}
use mathlib.Core.Path.{◌≡◌, refl, sym, ap, ◌∙◌, subst}
use mathlib.Core.List.{List, [], ◌∷◌, ◌++◌}
use native.Mathlib.Decide.{dec_lt}
use native.Mathlib.Nat.{add-zero, sub-zero, zero-lt-suc, div-lt_iff_lt-mul, pow-suc}
use Rattle.std.proofs.lemmas.List.{append-nil, take_all, length-set}
use borrow.Rule.Slice.PartMut.{put_mid}
use native.Mathlib.Numerals.{add-one}
use native.Mathlib.Omega.{arith}
use lib.ListN.{length, get_or, take, drop, set, length-take, get_or-eq_default, drop_of_length-le}
use lib.Seq.{drop-cons, get_or-take, get_or-drop, sets, sets-eq}
use Rattle.std.proofs.Common.{Option, Some, Bor}
use Rattle.std.proofs.lemmas.Slice.{between_to_end, put_mid-paste}
use Rattle.std.specs.Array.{IsFirstChunk}
use Rattle.std.specs.Option.{MatchOption}
use Rattle.little_endian.specs.Bytes.{bytes_of, number_at}

-- every element is below n; 0 stands for those outside
pub record Below (n : ℕ) (l : List ℕ) : Type 0 where
  pub at : (k : ℕ) → get_or l k 0 < n

-- by what holds inside
pub below_by : (n : ℕ) (l : List ℕ) → 0 < n → ((k : ℕ) → k < length l → get_or l k 0 < n) → Below n l
below_by n l h f = record { at = λ k. either k (dec_lt k (length l)) }
  where
    either : (k : ℕ) → Dec (k < length l) → get_or l k 0 < n
    either k (yes i) = f k i
    either k (no i) = omega (arith, get_or-eq_default l 0 {n = k} (omega arith))

pub below_take : (n m : ℕ) (l : List ℕ) → 0 < n → Below n l → Below n (take m l)
below_take n m l h b = below_by n (take m l) h (λ k i. omega (arith, get_or-take m l k 0 (omega (arith, length-take m l)), b.at k))

pub below_drop : (n m : ℕ) (l : List ℕ) → Below n l → Below n (drop m l)
below_drop n m l b = record { at = λ k. omega (arith, get_or-drop m l k 0, b.at (m + k)) }

-- ---- a number is seen from where it stands
pub number_at-drop : (n : ℕ) (l : List ℕ) (i j : ℕ) → number_at n l (i + j) ≡ number_at n (drop i l) j
unfolding number_at
number_at-drop zero l i j = refl
number_at-drop (suc n) l i j =
    λ k. sym (get_or-drop i l j 0) k + 256 * (ap (number_at n l) next ∙ number_at-drop n l i (j + 1)) k
  where
    next : i + j + 1 ≡ i + (j + 1)
    next = omega arith

pub number_at_cons : (n b : ℕ) (l : List ℕ) (j : ℕ) → number_at n (b ∷ l) (suc j) ≡ number_at n l j
number_at_cons n b l j = ap (number_at n (b ∷ l)) (omega arith) ∙ number_at-drop n (b ∷ l) 1 j

number_at-take : (n m : ℕ) (l : List ℕ) (j : ℕ) → j + n ≤ m → number_at n (take m l) j ≡ number_at n l j
unfolding number_at
number_at-take zero m l j h = refl
number_at-take (suc n) m l j h = λ k. get_or-take m l j 0 (omega arith) k + 256 * number_at-take n m l (j + 1) (omega arith) k

-- the n bytes from place i on, taken for themselves
pub number_taken : (n : ℕ) (l : List ℕ) (i : ℕ) → number_at n (take n (drop i l)) 0 ≡ number_at n l i
number_taken n l i = number_at-take n n (drop i l) 0 (omega arith) ∙ sym (number_at-drop n l i 0) ∙ ap (number_at n l) (add-zero i)

-- the same, as the chunk y that `first_chunk` found at the front of what begins at place i
pub number_found : (n : ℕ) (l : List ℕ) (i : ℕ) {r : Option (Bor (List ℕ))} {y : Bor (List ℕ)} → let rest = take (length l - i) (drop i l) in
    MatchOption r (length rest < n) (λ (z : Bor (List ℕ)). IsFirstChunk rest z.now n) → r ≡ Some y → number_at n y.now 0 ≡ number_at n l i
number_found n l i {r} {y} m e =
    let rest = take (length l - i) (drop i l) in
    let chunk = subst (λ (r : Option (Bor (List ℕ))). MatchOption r (length rest < n) (λ (z : Bor (List ℕ)). IsFirstChunk rest z.now n)) e m in
    ap (λ (q : List ℕ). number_at n q 0) (chunk.same ∙ ap (take n) (between_to_end l i (length l) (omega arith))) ∙ number_taken n l i

-- ---- there and back
pub number_of_bytes : (n x : ℕ) (l : List ℕ) → x < 256 ^ n → number_at n (bytes_of n x ++ l) 0 ≡ x
unfolding number_at bytes_of
number_of_bytes zero x l h = let p : x < 1 = h in omega arith
number_of_bytes (suc n) x l h =
    ap (λ (r : ℕ). x % 256 + 256 * r) (number_at_cons n (x % 256) (bytes_of n (x / 256) ++ l) 0 ∙ number_of_bytes n (x / 256) l ((div-lt_iff_lt-mul (zero-lt-suc 255)).1 (subst (λ (m : ℕ). x < m) (pow-suc 256 n) h)))
    ∙ omega arith

pub bytes_of_number : (n : ℕ) (l : List ℕ) (i : ℕ) → Below 256 l → i + n ≤ length l → bytes_of n (number_at n l i) ≡ take n (drop i l)
unfolding number_at bytes_of
bytes_of_number zero l i b h = refl
bytes_of_number (suc n) l i b h =
    (λ j. low j ∷ (ap (bytes_of n) high ∙ bytes_of_number n l (i + 1) b (omega arith)) j)
    ∙ ap (λ (k : ℕ). get_or l i 0 ∷ take n (drop k l)) (add-one i)
    ∙ sym (ap (take (suc n)) (drop-cons l i 0 (omega arith)))
  where
    rest : ℕ
    rest = number_at n l (i + 1)

    low : (get_or l i 0 + 256 * rest) % 256 ≡ get_or l i 0
    low = omega (arith, b.at i)

    high : (get_or l i 0 + 256 * rest) / 256 ≡ rest
    high = omega (arith, b.at i)

-- ---- bytes put into a part of a list
pub part_put : (i n : ℕ) (l p : List ℕ) {y : List ℕ} → y ≡ p → length p ≡ n → i + n ≤ length l → put_mid i n l y ≡ sets l i p
part_put i n l p {y} e m h =
    put_mid-paste i n l y p n e refl (sym m)
    ∙ (λ j. (take i l ++ take_all n p (omega (arith, m)) j) ++ drop (i + sym m j) l)
    ∙ sym (sets-eq p l i (omega (arith, m)))

pub length_sets : (l : List ℕ) (i : ℕ) (p : List ℕ) → length (sets l i p) ≡ length l
length_sets l i [] = refl
length_sets l i (x ∷ p) = length_sets (set l i x) (suc i) p ∙ length-set l i x

-- a list stored over one of its length
pub sets_whole : (l p : List ℕ) → length p ≡ length l → sets l 0 p ≡ p
sets_whole l p e =
    sets-eq p l 0 (omega (arith, e)) ∙ ap (λ (m : List ℕ). p ++ m) (drop_of_length-le l {i = 0 + length p} (omega (arith, e))) ∙ append-nil p

-- ---- the loop that stores a number's bytes: the n - k that are left, of what is left of the number, from place i on
pub none_stored : (out : List ℕ) (i n x : ℕ) → sets out i (bytes_of (n - 0) x) ≡ sets out i (bytes_of n x)
none_stored out i n x = λ j. sets out i (bytes_of (sub-zero n j) x)

pub byte_stored : (out : List ℕ) (i n k rest : ℕ) → k < n → sets (set out i (rest % 256)) (i + 1) (bytes_of (n - (k + 1)) (rest / 256)) ≡ sets out i (bytes_of (n - k) rest)
unfolding bytes_of
byte_stored out i n k rest h =
    ap (λ (j : ℕ). sets (set out i (rest % 256)) j (bytes_of (n - (k + 1)) (rest / 256))) (omega arith)
    ∙ ap (λ (m : ℕ). sets out i (bytes_of m rest)) more
  where
    more : suc (n - (k + 1)) ≡ n - k
    more = omega arith

-- where place i is k places after the one that the number's bytes begin at
pub bytes_none : (out : List ℕ) (at n x : ℕ) → sets out (at + 0) (bytes_of (n - 0) x) ≡ sets out at (bytes_of n x)
bytes_none out at n x = λ j. sets out (add-zero at j) (bytes_of (sub-zero n j) x)

pub bytes_step : (out : List ℕ) (at n k rest : ℕ) → k < n
    → sets (set out (at + k) (rest % 256)) (at + (k + 1)) (bytes_of (n - (k + 1)) (rest / 256)) ≡ sets out (at + k) (bytes_of (n - k) rest)
bytes_step out at n k rest h =
    ap (λ (i : ℕ). sets (set out (at + k) (rest % 256)) i (bytes_of (n - (k + 1)) (rest / 256))) (omega arith) ∙ byte_stored out (at + k) n k rest h

pub length_bytes : (n x : ℕ) → length (bytes_of n x) ≡ n
unfolding bytes_of
length_bytes zero x = refl
length_bytes (suc n) x = ap suc (length_bytes n (x / 256))

-- as many bytes as the list has: they are all that it holds then
pub put_end : (out before : List ℕ) (k x rest : ℕ) → length before ≤ k → sets out k (bytes_of (length before - k) rest) ≡ sets before 0 (bytes_of (length before) x) → out ≡ bytes_of (length before) x
unfolding bytes_of
put_end out before k x rest h e =
    ap (λ (m : ℕ). sets out k (bytes_of m rest)) none ∙ e ∙ sets_whole before (bytes_of (length before) x) (length_bytes (length before) x)
  where
    none : 0 ≡ length before - k
    none = omega arith
