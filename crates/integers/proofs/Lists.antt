-- The laws of tabulated and overwritten lists: lengths, what is read, one store more, one part after another; of the test whether two
-- lists are the same; and of runs that are stored. Assumes nothing.
use Rattle.std.proofs.lemmas.List.{map-append}
use mathlib.Core.Path.{◌≡◌, refl, sym, ap, ◌∙◌, subst}
use mathlib.Core.Bool.{true, ◌&&◌}
use mathlib.Core.List.{List, [], ◌∷◌, ◌++◌, map, append_assoc, append-nil}
use mathlib.Core.Logic.{⊎_elim}
use Prim.Native.Nat.{ℕ, zero, suc, ◌+◌, ◌-◌, ◌≤◌, ◌<◌}
use native.Mathlib.Decide.{dec_lt}
use native.Mathlib.Nat.{add-zero, eq-or-lt_of_le, le_of_suc-le-suc}
use native.Mathlib.Numerals.{add-one}
use native.Mathlib.Omega.{arith}
use lib.ListN.{length, take, drop, get_or, set, length-append, length-drop, take-append-drop, get_or-append, drop_of_length-le}
use lib.Seq.{sets, drop-cons, set_at, append_snoc, get_or-append-add, get_or-take, get_or-drop, length-take-le, ext_get_or, get_or_at}
use lib.Dec.{eqb, eqb→eq}
use borrow.Rule.Slice.PartMut.{put_mid}
use Rattle.std.proofs.lemmas.List.{drop-drop}
use borrow.Author.Tests.{eq-eqb}
use Rattle.integers.specs.Lists.{tabulate, overwrite, same_list}
use Rattle.integers.proofs.Tests.{is_true, true_is, never, and_left, and_right}

module _ {A : Type 0} where
  -- ---- tabulated
  pub length-tabulate : (n : ℕ) (f : ℕ → A) → length (tabulate n f) ≡ n
  unfolding tabulate
  length-tabulate zero f = refl
  length-tabulate (suc n) f = length-append (tabulate n f) (f n ∷ []) ∙ ap (λ (k : ℕ). k + 1) (length-tabulate n f) ∙ add-one n

  pub get_or-tabulate : (n : ℕ) (f : ℕ → A) (i : ℕ) (d : A) → i < n → get_or (tabulate n f) i d ≡ f i
  unfolding tabulate
  get_or-tabulate zero f i d h = absurd (omega arith)
  get_or-tabulate (suc n) f i d h =
      ⊎_elim
      (λ (e : i ≡ n). ap (λ (k : ℕ). get_or (tabulate n f ++ (f n ∷ [])) k d) e ∙ get_or_at (tabulate n f) (f n) [] d n (length-tabulate n f) ∙ ap f (sym e))
      (λ (l : i < n). get_or-append (tabulate n f) (f n ∷ []) d i (subst (λ (k : ℕ). i < k) (sym (length-tabulate n f)) l) ∙ get_or-tabulate n f i d l)
      (eq-or-lt_of_le (le_of_suc-le-suc h))

  pub tabulate_cong : (n : ℕ) (f g : ℕ → A) → ((i : ℕ) → i < n → f i ≡ g i) → tabulate n f ≡ tabulate n g
  unfolding tabulate
  tabulate_cong zero f g h = refl
  tabulate_cong (suc n) f g h = (λ j. tabulate_cong n f g (λ i l. h i (omega arith)) j ++ (h n (omega arith) j ∷ []))

  -- the first element by itself
  pub tabulate_cons : (n : ℕ) (f : ℕ → A) → tabulate (suc n) f ≡ f 0 ∷ tabulate n (λ k. f (suc k))
  unfolding tabulate
  tabulate_cons zero f = refl
  tabulate_cons (suc n) f = ap (λ (l : List A). l ++ (f (suc n) ∷ [])) (tabulate_cons n f)

  -- a list is its elements in order
  pub tabulate-get_or : (l : List A) (n : ℕ) (d : A) → length l ≡ n → tabulate n (λ i. get_or l i d) ≡ l
  tabulate-get_or l n d e =
      ext_get_or d (tabulate n (λ i. get_or l i d)) l (length-tabulate n (λ i. get_or l i d) ∙ sym e)
      (λ i h. get_or-tabulate n (λ j. get_or l j d) i d (subst (λ (k : ℕ). i < k) (length-tabulate n (λ j. get_or l j d)) h))

  -- ---- overwritten
  head_length : (l : List A) (o n : ℕ) (f : ℕ → A) → o ≤ length l → length (take o l ++ tabulate n f) ≡ o + n
  head_length l o n f h = length-append (take o l) (tabulate n f) ∙ (λ j. length-take-le o l h j + length-tabulate n f j)

  pub length-overwrite : (l : List A) (o n : ℕ) (f : ℕ → A) → o + n ≤ length l → length (overwrite l o n f) ≡ length l
  unfolding overwrite
  length-overwrite l o n f h =
      length-append (take o l ++ tabulate n f) (drop (o + n) l)
      ∙ (λ j. head_length l o n f (omega arith) j + length-drop (o + n) l j) ∙ omega arith

  -- what is read before the part, in it, and after it
  pub overwrite_before : (l : List A) (o n : ℕ) (f : ℕ → A) (k : ℕ) (d : A) → o + n ≤ length l → k < o → get_or (overwrite l o n f) k d ≡ get_or l k d
  unfolding overwrite
  overwrite_before l o n f k d h b =
      get_or-append (take o l ++ tabulate n f) (drop (o + n) l) d k (omega (arith, head_length l o n f (omega arith)))
      ∙ get_or-append (take o l) (tabulate n f) d k (omega (arith, length-take-le o l (omega arith)))
      ∙ get_or-take o l k d b

  pub overwrite_in : (l : List A) (o n : ℕ) (f : ℕ → A) (k : ℕ) (d : A) → o + n ≤ length l → k < n → get_or (overwrite l o n f) (o + k) d ≡ f k
  unfolding overwrite
  overwrite_in l o n f k d h b =
      get_or-append (take o l ++ tabulate n f) (drop (o + n) l) d (o + k) (omega (arith, head_length l o n f (omega arith)))
      ∙ ap (λ (i : ℕ). get_or (take o l ++ tabulate n f) i d) (omega (arith, length-take-le o l (omega arith)))
      ∙ get_or-append-add (take o l) (tabulate n f) k d
      ∙ get_or-tabulate n f k d b

  pub overwrite-after : (l : List A) (o n : ℕ) (f : ℕ → A) (k : ℕ) (d : A) → o + n ≤ length l → o + n ≤ k → get_or (overwrite l o n f) k d ≡ get_or l k d
  unfolding overwrite
  overwrite-after l o n f k d h b =
      ap (λ (i : ℕ). get_or (overwrite l o n f) i d) (omega (arith, head_length l o n f (omega arith)))
      ∙ get_or-append-add (take o l ++ tabulate n f) (drop (o + n) l) (k - (o + n)) d
      ∙ get_or-drop (o + n) l (k - (o + n)) d
      ∙ ap (λ (i : ℕ). get_or l i d) (omega arith)

  -- the three together: what stands at a place, by where it is
  pub overwrite_at : (l : List A) (o n : ℕ) (f : ℕ → A) (k : ℕ) (d v : A) → o + n ≤ length l
      → (k < o → get_or l k d ≡ v) → ((i : ℕ) → i < n → k ≡ o + i → f i ≡ v) → (o + n ≤ k → get_or l k d ≡ v) → get_or (overwrite l o n f) k d ≡ v
  overwrite_at l o n f k d v h p q r = go (dec_lt k o) (dec_lt k (o + n))
    where
      go : Dec (k < o) → Dec (k < o + n) → get_or (overwrite l o n f) k d ≡ v
      go (yes b) u = overwrite_before l o n f k d h b ∙ p b
      go (no b) (yes u) =
          ap (λ (j : ℕ). get_or (overwrite l o n f) j d) (omega arith) ∙ overwrite_in l o n f (k - o) d h (omega arith) ∙ q (k - o) (omega arith) (omega arith)
      go (no b) (no u) = overwrite-after l o n f k d h (omega arith) ∙ r (omega arith)

  -- ---- as a loop writes it
  pub overwrite_none : (l : List A) (o : ℕ) (f : ℕ → A) → l ≡ overwrite l o 0 f
  unfolding overwrite tabulate
  overwrite_none l o f = sym (rw (append_assoc, add-zero) (take-append-drop o l))

  overwrite_more : (l : List A) (o n : ℕ) (f : ℕ → A) → o + n < length l → set (overwrite l o n f) (o + n) (f n) ≡ overwrite l o (n + 1) f
  unfolding overwrite tabulate
  overwrite_more [] o n f h = absurd (omega arith)
  overwrite_more (z ∷ zs) o n f h =
      let l = z ∷ zs in
      ap (λ (t : List A). set ((take o l ++ tabulate n f) ++ t) (o + n) (f n)) (drop-cons l (o + n) z h)
      ∙ set_at (take o l ++ tabulate n f) (get_or l (o + n) z) (drop (suc (o + n)) l) (f n) (o + n) (head_length l o n f (omega arith))
      ∙ sym (append_snoc (take o l ++ tabulate n f) (f n) (drop (suc (o + n)) l))
      ∙ (λ j. append_assoc (take o l) (tabulate n f) (f n ∷ []) j ++ drop (next j) l)
      ∙ ap (λ (k : ℕ). (take o l ++ tabulate k f) ++ drop (o + k) l) (sym (add-one n))
    where
      next : suc (o + n) ≡ o + suc n
      next = omega arith

  -- a turn of a loop that fills: it stores x, which is what comes next, at place k of m
  pub overwrite_step : (l : List A) (o n : ℕ) (f : ℕ → A) (k : ℕ) {m : List A} {x : A} → k ≡ o + n → m ≡ overwrite l o n f → x ≡ f n → o + n < length l → set m k x ≡ overwrite l o (n + 1) f
  overwrite_step l o n f k e p q h = (λ j. set (p j) (e j) (q j)) ∙ overwrite_more l o n f h

  pub overwrite_cong : (l : List A) (o n : ℕ) (f g : ℕ → A) → ((i : ℕ) → i < n → f i ≡ g i) → overwrite l o n f ≡ overwrite l o n g
  unfolding overwrite
  overwrite_cong l o n f g e = ap (λ (t : List A). (take o l ++ t) ++ drop (o + n) l) (tabulate_cong n f g e)

  -- all of it
  pub overwrite_all : (l : List A) (n : ℕ) (f : ℕ → A) → n ≡ length l → overwrite l 0 n f ≡ tabulate n f
  unfolding overwrite
  overwrite_all l n f e = ap (λ (t : List A). tabulate n f ++ t) (drop_of_length-le l {i = 0 + n} (omega arith)) ∙ append-nil (tabulate n f)

  -- a part `&mut l[o..e]` that a callee laid down whole, where the part has as many elements as it says (n)
  pub overwrite_part : (l : List A) (o e : ℕ) (f : ℕ → ℕ → A) {n : ℕ} {m : List A} → e - o ≡ n → o + n ≤ length l
      → let k = length (take (e - o) (drop o l)) in m ≡ tabulate k (f k) → put_mid o (e - o) l m ≡ overwrite l o n (f n)
  unfolding overwrite
  overwrite_part l o e f {n} d h p =
      (λ i. take o l ++ ((p ∙ (λ j. tabulate (long j) (f (long j)))) i ++ drop (d i) (drop o l)))
      ∙ sym (append_assoc (take o l) (tabulate n (f n)) (drop n (drop o l))) ∙ ap (λ (t : List A). (take o l ++ tabulate n (f n)) ++ t) (drop-drop n o l)
    where
      long : length (take (e - o) (drop o l)) ≡ n
      long = length-take-le (e - o) (drop o l) (omega (arith, length-drop o l)) ∙ d

  -- n more after m, of which a callee's contract speaks by themselves
  pub overwrite-append : (l : List A) (o m n : ℕ) (f g : ℕ → A) → o + (m + n) ≤ length l → ((i : ℕ) → i < n → g i ≡ f (m + i)) → overwrite (overwrite l o m f) (o + m) n g ≡ overwrite l o (m + n) f
  overwrite-append l o m zero f g h e = sym (overwrite_none (overwrite l o m f) (o + m) g) ∙ ap (λ (k : ℕ). overwrite l o k f) (sym (add-zero m))
  overwrite-append l o m (suc n) f g h e =
      let L = overwrite l o m f in
      let len : length L ≡ length l = length-overwrite l o m f (omega arith) in
      ap (λ (k : ℕ). overwrite L (o + m) k g) (sym (add-one n)) ∙ sym (overwrite_more L (o + m) n g (omega arith))
      ∙ overwrite_step l o (m + n) f (o + m + n) (omega arith) (overwrite-append l o m n f g (omega arith) (λ i b. e i (omega arith))) (e n (omega arith)) (omega arith)
      ∙ ap (λ (k : ℕ). overwrite l o k f) next
    where
      next : m + n + 1 ≡ m + suc n
      next = omega arith

  -- a part, and then a part over it that is as long or longer (d is any element)
  pub overwrite_again : (d : A) (l : List A) (o m n : ℕ) (f g : ℕ → A) → m ≤ n → o + n ≤ length l → overwrite (overwrite l o m f) o n g ≡ overwrite l o n g
  overwrite_again d l o m n f g le h =
      ext_get_or d (overwrite L o n g) (overwrite l o n g) (length-overwrite L o n g fit ∙ long ∙ sym (length-overwrite l o n g h))
      (λ k u. overwrite_at L o n g k d (get_or (overwrite l o n g) k d) fit
      (λ b. overwrite_before l o m f k d (omega arith) b ∙ sym (overwrite_before l o n g k d h b))
      (λ i b e. sym (ap (λ (j : ℕ). get_or (overwrite l o n g) j d) e ∙ overwrite_in l o n g i d h b))
      (λ b. overwrite-after l o m f k d (omega arith) (omega arith) ∙ sym (overwrite-after l o n g k d h b)))
    where
      L : List A
      L = overwrite l o m f

      long : length L ≡ length l
      long = length-overwrite l o m f (omega arith)

      fit : o + n ≤ length L
      fit = omega (arith, long)

  -- two parts that do not meet, in either order (d is any element)
  pub overwrite_swap : (d : A) (l : List A) (a m b n : ℕ) (f g : ℕ → A) → a + m ≤ b → b + n ≤ length l → overwrite (overwrite l a m f) b n g ≡ overwrite (overwrite l b n g) a m f
  overwrite_swap d l a m b n f g h q =
      ext_get_or d (overwrite L b n g) (overwrite R a m f) (length-overwrite L b n g (omega (arith, long_l)) ∙ long_l ∙ sym (length-overwrite R a m f fit ∙ long_r))
      (λ k u. overwrite_at L b n g k d (get_or (overwrite R a m f) k d) (omega (arith, long_l))
      (λ lo. overwrite_at l a m f k d (get_or (overwrite R a m f) k d) (omega arith)
      (λ x. sym (overwrite_before R a m f k d fit x ∙ overwrite_before l b n g k d q lo))
      (λ i x e. sym (ap (λ (j : ℕ). get_or (overwrite R a m f) j d) e ∙ overwrite_in R a m f i d fit x))
      (λ x. sym (overwrite-after R a m f k d fit x ∙ overwrite_before l b n g k d q lo)))
      (λ i x e. sym (ap (λ (j : ℕ). get_or (overwrite R a m f) j d) e ∙ overwrite-after R a m f (b + i) d fit (omega arith) ∙ overwrite_in l b n g i d q x))
      (λ x. overwrite-after l a m f k d (omega arith) (omega arith) ∙ sym (overwrite-after R a m f k d fit (omega arith) ∙ overwrite-after l b n g k d q x)))
    where
      L : List A
      L = overwrite l a m f

      R : List A
      R = overwrite l b n g

      long_l : length L ≡ length l
      long_l = length-overwrite l a m f (omega arith)

      long_r : length R ≡ length l
      long_r = length-overwrite l b n g q

      fit : a + m ≤ length R
      fit = omega (arith, long_r)

-- ---- each element through g
module _ {A B : Type 0} (g : A → B) where
  pub map-tabulate : (n : ℕ) (f : ℕ → A) → map g (tabulate n f) ≡ tabulate n (λ k. g (f k))
  unfolding tabulate
  map-tabulate zero f = refl
  map-tabulate (suc n) f = map-append g (tabulate n f) (f n ∷ []) ∙ ap (λ (t : List B). t ++ (g (f n) ∷ [])) (map-tabulate n f)

-- ---- the same numbers
pub same_list_yes : (l m : List ℕ) → l ≡ m → same_list l m ≡ true
unfolding same_list
same_list_yes l m e = ap (same_list l) (sym e) ∙ itself l
  where
    itself : (l : List ℕ) → same_list l l ≡ true
    itself [] = refl
    itself (x ∷ xs) = λ j. eq-eqb x x refl j && itself xs j

pub same_list_is : (l m : List ℕ) → same_list l m ≡ true → l ≡ m
unfolding same_list
same_list_is [] [] e = refl
same_list_is [] (y ∷ ys) e = never (sym e)
same_list_is (x ∷ xs) [] e = never (sym e)
same_list_is (x ∷ xs) (y ∷ ys) e =
    let t = true_is e in
    let p = eqb→eq x y (and_left (eqb x y) (same_list xs ys) t) in
    let q = same_list_is xs ys (is_true (same_list xs ys) (and_right (eqb x y) (same_list xs ys) t)) in
    λ j. p j ∷ q j

-- ---- a run of elements stored after another
pub sets-append : (l : List ℕ) (at : ℕ) (p q : List ℕ) → sets (sets l at p) (at + length p) q ≡ sets l at (p ++ q)
sets-append l at [] q = ap (λ (k : ℕ). sets l k q) (add-zero at)
sets-append l at (x ∷ p) q = ap (λ (k : ℕ). sets (sets (set l at x) (suc at) p) k q) next ∙ sets-append (set l at x) (suc at) p q
  where
    next : at + suc (length p) ≡ suc at + length p
    next = omega arith
