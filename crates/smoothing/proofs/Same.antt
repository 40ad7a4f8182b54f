-- A sum's float, smoothed towards itself, stays as it is, to the bit. Assumes nothing.
use mathlib.Core.Path.{◌≡◌, refl, sym, ap, ◌∙◌}
use mathlib.Core.Bool.{Bool, true, false, not, cond}
use Prim.Native.Nat.{ℕ, ◌+◌, ◌*◌, ◌^◌, ◌≤◌, ◌<◌}
use native.Mathlib.Nat.{mul-one, zero-mul, mul-pos, zero-lt-suc, add-zero, sub_self}
use native.Mathlib.Omega.{arith}
use lib.IntN.{pos}
use borrow.Author.Tests.{le-ltb}
use lib.Ieee.{nan, inf, Float, fin, binary64, up, down, round, sum, neg, add, sub, mul, of_int}
use lib.Ieee.Fits.{down_pos}
use lib.Ieee.Exact.{HasValue}
use lib.Ieee.Back.{round_whole}
use lib.Ieee.Scale.{round_same}
use Rattle.smoothing.specs.Smoothing.{eighth, smooth, float_of}

abbrev plus_zero : Float
plus_zero = fin false 0 (pos 0)

round_zero : (d : ℕ) → 0 < d → round binary64 false 0 d ≡ plus_zero
unfolding round
round_zero d p = round_same binary64 false 0 d 0 1 p (zero-lt-suc 0) (sym (zero-mul d))

-- ---- x − x is +0
less_itself : (s : Bool) (a d : ℕ) → 0 < d → sum binary64 s a (not s) a d ≡ plus_zero
unfolding sum
less_itself true a d p = rw (le-ltb a a (omega arith), sub_self) (round_zero d p)
less_itself false a d p = rw (le-ltb a a (omega arith), sub_self) (round_zero d p)

difference : (x : Float) (n : ℕ) → HasValue x false n 1 → sub binary64 x x ≡ plus_zero
unfolding sub add neg
difference nan n v = elim v [ ]
difference (inf _) n v = elim v [ ]
difference (fin s m e) n v = less_itself s (m * up e * down e) (down e * down e) (mul-pos (down_pos e) (down_pos e))

-- ---- an eighth of +0 is +0
product : mul binary64 plus_zero eighth ≡ plus_zero
unfolding mul round
product = refl

-- ---- x + 0 is x again: its value is a whole number, of which it is the float
with_zero : (x : Float) (n : ℕ) → HasValue x false n 1 → add binary64 x plus_zero ≡ round binary64 false n 1
unfolding add
with_zero nan n v = elim v [ ]
with_zero (inf _) n v = elim v [ ]
with_zero (fin true m e) n v = absurd (let z : ◌≡◌ {A = ℕ} 1 0 = ap (λ (b : Bool). cond b 1 0) v.0 in omega arith)
with_zero (fin false m e) n v =
    round_same binary64 false (m * up e * 1 + 0 * 1 * down e) (down e * 1) n 1 (mul-pos (down_pos e) (zero-lt-suc 0)) (zero-lt-suc 0) same
  where
    same : (m * up e * 1 + 0 * 1 * down e) * 1 ≡ n * (down e * 1)
    same = simp (mul-one, zero-mul, add-zero) (sym (mul-one (m * up e)) ∙ v.1)

-- Every sum up to 2⁵³, 0 among them.
pub smooth-sum : (n : ℕ) → n ≤ 2 ^ 53 → smooth (float_of n) (float_of n) ≡ float_of n
unfolding smooth of_int
smooth-sum n h =
    let x = round binary64 false n 1 in
    let v : HasValue x false n 1 = round_whole binary64 false n h in
    ap (λ (d : Float). add binary64 x (mul binary64 d eighth)) (difference x n v) ∙ ap (add binary64 x) product ∙ with_zero x n v
