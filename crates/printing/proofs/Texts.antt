-- The laws of printed text: how long it is, and what the functions that put it show at their returns. Assumes nothing.
use Prim.Native.Nat.{ℕ, zero, suc, ◌+◌, ◌*◌, ◌-◌, ◌/◌, ◌%◌, ◌≤◌, ◌<◌}
use mathlib.Core.Path.{◌≡◌, refl, sym, ap, ◌∙◌, subst}
use mathlib.Core.List.{List, [], ◌∷◌, ◌++◌}
use mathlib.Core.Bool.{Bool, true, false, cond}
use native.Mathlib.Numerals.{add-one}
use native.Mathlib.Omega.{arith}
use lib.Dec.{ltb}
use lib.ListN.{length, get_or, drop, set, length-append, drop_of_length-le}
use lib.Seq.{drop-cons}
use borrow.Rule.Slice.PartMut.{put_mid}
use Rattle.std.proofs.lemmas.List.{append-nil, append_assoc, length-set, get_or-set_same, drop-set-lt}
use Rattle.planes.specs.Planes.{Planes}
use Rattle.printing.specs.Text.{digits, digit_count, decimal, separator, rows_after, frame_text, refusal, Put}
use Rattle.printing.proofs.Putting.{put_then, put_nothing, put_part}

-- ---- lengths
length_digits : (k n : ℕ) → length (digits k n) ≡ k
unfolding digits
length_digits zero n = refl
length_digits (suc k) n = omega (arith, length-append (digits k (n / 10)) ((48 + n % 10) ∷ []), length_digits k (n / 10))

pub digits_small : (n : ℕ) → digit_count n ≤ 5
unfolding digit_count
digits_small n = pick (ltb n 10) (ltb n 100) (ltb n 1000) (ltb n 10000)
  where
    pick : (a b c d : Bool) → cond a 1 (cond b 2 (cond c 3 (cond d 4 5))) ≤ 5
    pick true b c d = omega arith
    pick false true c d = omega arith
    pick false false true d = omega arith
    pick false false false true = omega arith
    pick false false false false = omega arith

length-decimal : (n : ℕ) → length (decimal n) ≤ 5
unfolding decimal
length-decimal n = omega (arith, length_digits (digit_count n) n, digits_small n)

length-rows : (w k : ℕ) (s : List ℕ) → length (rows_after w k s) ≤ 6 * length s
unfolding rows_after
length-rows w k [] = omega arith
length-rows w k (x ∷ xs) =
    omega (arith, length-append (decimal x) (separator w (suc k) ∷ rows_after w (suc k) xs), length-decimal x, length-rows w (suc k) xs)

pub length_text : (w h : ℕ) (p : Planes (List ℕ)) → length (frame_text w h p) ≤ 12 + 6 * (length p.red + length p.green + length p.blue)
unfolding frame_text
length_text w h p =
    simp length-append
    (omega (arith, length-decimal w, length-decimal h, length-rows w 0 p.red, length-rows w 0 p.green, length-rows w 0 p.blue))

pub length-refusal : (n : ℕ) → length (refusal n) ≤ 14
unfolding refusal
length-refusal n = simp length-append (omega (arith, length-decimal n))

-- ---- the loop that puts digits, the last one first: those that are left, before those that are put
pub digits_start : (out : List ℕ) (n : ℕ) → digits (length out) n ++ drop (length out) out ≡ digits (length out) n
digits_start out n = ap (λ (l : List ℕ). digits (length out) n ++ l) (drop_of_length-le out {i = length out} (omega arith)) ∙ append-nil (digits (length out) n)

pub digits_step : (out : List ℕ) (i rest : ℕ) → 0 < i → i ≤ length out
    → digits (i - 1) (rest / 10) ++ drop (i - 1) (set out (i - 1) (48 + rest % 10)) ≡ digits i rest ++ drop i out
unfolding digits
digits_step out zero rest h room = absurd (omega arith)
digits_step out (suc i) rest h room =
    ap (λ (k : ℕ). digits k (rest / 10) ++ drop k (set out k x)) same
    ∙ ap (λ (l : List ℕ). digits i (rest / 10) ++ l) (drop-cons (set out i x) i 0 (omega (arith, room, length-set out i x)) ∙ (λ j. get_or-set_same out i x 0 room j ∷ drop-set-lt (suc i) out i x (omega arith) j))
    ∙ sym (append_assoc (digits i (rest / 10)) (x ∷ []) (drop (suc i) out))
  where
    x : ℕ
    x = 48 + rest % 10

    same : suc i - 1 ≡ i
    same = omega arith

pub digits_end : (out : List ℕ) (i rest : ℕ) → i ≤ 0 → out ≡ digits i rest ++ drop i out
unfolding digits
digits_end out zero rest h = refl
digits_end out (suc i) rest h = absurd (omega arith)

-- a number's k digits, put into a part of the buffer
pub decimal-put : (at n k m j : ℕ) (before : List ℕ) {y : List ℕ} → k ≡ digit_count n → y ≡ digits j n → j ≡ k → m ≡ k → at + k ≤ length before → Put at (decimal n) before (at + k) (put_mid at m before y)
unfolding decimal
decimal-put at n k m j before {y} e f d i h =
    let all = length_digits k n in
    subst (λ (c : ℕ). Put at (digits c n) before (at + k) (put_mid at m before y)) e
    (subst (λ (c : ℕ). Put at (digits k n) before (at + c) (put_mid at m before y)) all
    (put_part at m before (digits k n) (i ∙ sym all) (omega (arith, all, h)) (f ∙ ap (λ (c : ℕ). digits c n) d)))

-- ---- the loop that puts rows: one number more, and no number left
pub rows_step : (w : ℕ) (s : List ℕ) (k n : ℕ) {at i j end c : ℕ} {out x y after : List ℕ} → k < length s → n ≡ get_or s k 0
    → Put at (decimal n) out i x → c ≡ separator w (k + 1) → Put i (c ∷ []) x j y → Put j (rows_after w (k + 1) (drop (k + 1) s)) y end after
    → Put at (rows_after w k (drop k s)) out end after
unfolding rows_after
rows_step w s k n {at} {end = end} {out = out} {after = after} h is d e b rest =
    subst (λ (text : List ℕ). Put at text out end after)
    ((λ i. decimal (is i) ++ ((e ∙ ap (separator w) (add-one k)) i ∷ rows_after w (add-one k i) (drop (add-one k i) s)))
    ∙ ap (rows_after w k) (sym (drop-cons s k 0 h)))
    (put_then d (put_then b rest))

pub rows_end : (w : ℕ) (s : List ℕ) (k at : ℕ) (out : List ℕ) → length s ≤ k → Put at (rows_after w k (drop k s)) out at out
unfolding rows_after
rows_end w s k at out h =
    subst (λ (text : List ℕ). Put at text out at out) (ap (rows_after w k) (sym (drop_of_length-le s {i = k} h))) (put_nothing at out)
