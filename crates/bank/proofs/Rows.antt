-- Row by row: what the filters along lines lay down is a row of the bands, and a row of the joined sums. Assumes nothing.
use mathlib.Core.Path.{◌≡◌, refl, sym, ◌∙◌, ap, subst}
use mathlib.Core.List.{List}
use Prim.Native.Nat.{ℕ, ◌+◌, ◌*◌, ◌≤◌, ◌<◌}
use native.Mathlib.Nat.{le_trans, le_refl}
use native.Mathlib.Omega.{arith}
use lib.IntN.{ℤ, pos, ◌+ℤ◌, ◌-ℤ◌}
use lib.ListN.{length}
use Rattle.integers.specs.Lists.{overwrite}
use Rattle.integers.proofs.Lists.{overwrite_in, overwrite_cong}
use Rattle.integers.proofs.Bounds.{abs_add}
use Rattle.border.specs.Border.{reflect}
use Rattle.border.proofs.Reflection.{reflect_lt, reflect_inside}
use Rattle.planes.specs.Planes.{plane_of, Sizes}
use Rattle.planes.specs.Lists.{value}
use Rattle.planes.proofs.Planes.{row_room}
use Rattle.std.proofs.lemmas.Nat.{mul-add-lt}
use Rattle.filters.specs.Bank.{Taps, weighted, tap, along, along_columns, filtered, Bands, join, low_join, high_join}
use Rattle.filters.proofs.Taps.{weighted-three}
use Rattle.filters.proofs.Ranges.{gain}
use Rattle.filters.proofs.Linearity.{along_cong, filtered_by_rows, join_by_rows}
use Rattle.lines.specs.declared.Five.{Five}
use Rattle.lines.specs.Lines.{Run, Runs, three, five, joined}
use Rattle.lines.proofs.Lines.{run_laid, three_range, five_range}
use Rattle.bank.specs.Planes.{Plane, plane, bands_of}

-- ---- a row of a plane is a run
pub row_run : {m : ℕ} {l : List ℤ} {w h : ℕ} → Plane m l w h → (most : ℕ) → m ≤ most → (i at : ℕ) → i < h → at ≡ i * w → Run most l at w
row_run {m} {l} {w} {h} p most le i at hi e = record {
  inside = omega (arith, row_room w h i hi, p.count, e);
  small = λ k hk. le_trans (p.small (at + k) (omega (arith, mul-add-lt _ _ _ _ hi hk, e))) le;
}

pub row_small : {w h : ℕ} → Sizes 1 w h → (i : ℕ) → i < h → i * w + w ≤ 4194304
row_small {w} {h} s i hi = omega (arith, row_room w h i hi, s.area)

-- ---- rows about a row
-- five of them
pub record NearFive (w h r a b d e : ℕ) : Type 0 where
  pub inside : r < h
  pub is_a : a ≡ reflect h (pos r -ℤ pos 2) * w
  pub is_b : b ≡ reflect h (pos r -ℤ pos 1) * w
  pub is_d : d ≡ reflect h (pos r +ℤ pos 1) * w
  pub is_e : e ≡ reflect h (pos r +ℤ pos 2) * w

-- where they begin
abbrev pub starts : (w r a b d e : ℕ) → Five
starts w r a b d e = record { a = a; b = b; c = r * w; d = d; e = e }

module _ {w h r a b d e : ℕ} (near : NearFive w h r a b d e) where
  -- along the columns
  five_columns : (l : List ℤ) (t : Taps) (c : ℕ) → five t l (starts w r a b d e) c ≡ along_columns t 1 h (plane w l) r c
  unfolding five along_columns along tap plane_of
  five_columns l t c = λ m. weighted t (value l (near.is_a m + c)) (value l (near.is_b m + c)) (value l (sym (reflect_inside h r near.inside) m * w + c)) (value l (near.is_d m + c)) (value l (near.is_e m + c))

  pub five-rows : {m : ℕ} {l : List ℤ} → Plane m l w h → (most : ℕ) → m ≤ most → Runs most l (starts w r a b d e) w
  five-rows {m} {l} p most le = record {
    first = row (pos r -ℤ pos 2) a near.is_a;
    second = row (pos r -ℤ pos 1) b near.is_b;
    third = row_run p most le r (r * w) near.inside refl;
    fourth = row (pos r +ℤ pos 1) d near.is_d;
    fifth = row (pos r +ℤ pos 2) e near.is_e;
  }
    where
      row : (i : ℤ) (at : ℕ) → at ≡ reflect h i * w → Run most l at w
      row i at q = row_run p most le (reflect h i) at (reflect_lt h (omega (arith, near.inside)) i) q

-- and three
pub record Near (w h r above below : ℕ) : Type 0 where
  pub inside : r < h
  pub is_above : above ≡ reflect h (pos r -ℤ pos 1) * w
  pub is_below : below ≡ reflect h (pos r +ℤ pos 1) * w

-- with the two beyond them
with_outer : {w h r above below : ℕ} → Near w h r above below → NearFive w h r (reflect h (pos r -ℤ pos 2) * w) above below (reflect h (pos r +ℤ pos 2) * w)
with_outer n = record { inside = n.inside; is_a = refl; is_b = n.is_above; is_d = n.is_below; is_e = refl }

-- ---- split
module _ {w h r above below : ℕ} (near : Near w h r above below) (l : List ℤ) where
  three_columns : (t : Taps) → t.far ≡ pos 0 → (c : ℕ) → three t l above (r * w) below c ≡ along_columns t 1 h (plane w l) r c
  unfolding three five
  three_columns t z c = weighted-three t z _ _ _ _ _ ∙ five_columns (with_outer near) l t c

  pub three-rows : {m : ℕ} → Plane m l w h → (most : ℕ) → m ≤ most → Run most l above w × Run most l (r * w) w × Run most l below w
  three-rows p most le = let q = five-rows (with_outer near) p most le in (q.second, q.third, q.fourth)

  -- the line that the columns' filter lays down, from place 1 on
  module _ (tc : Taps) (line : List ℤ) (room : 1 + w ≤ length line) {laid : List ℤ} (e : laid ≡ overwrite line 1 w (three tc l above (r * w) below)) where
    pub three_run : {m : ℕ} → Plane m l w h → (most : ℕ) → gain tc * m ≤ most → Run most laid 1 w
    three_run p most h = subst (λ (x : List ℤ). Run most x 1 w) (sym e) (run_laid most line 1 w (three tc l above (r * w) below) room (λ k i. let q = three-rows p _ (le_refl _) in le_trans (three_range tc q.0 q.1 q.2 k i) h))

    -- along it, the row of the filtered plane
    row-filtered : (tr : Taps) → tc.far ≡ pos 0 → (c : ℕ) → c < w → along tr 1 w (λ k. value laid (1 + k)) c ≡ filtered tr tc 1 w h (plane w l) r c
    row-filtered tr z c hc =
        along_cong tr 1 w (λ k. value laid (1 + k)) (along_columns tc 1 h (plane w l) r) (λ j. at (reflect w j) (reflect_lt w (omega arith) j)) c
        ∙ filtered_by_rows tr tc 1 w h (plane w l) r c
      where
        at : (k : ℕ) → k < w → value laid (1 + k) ≡ along_columns tc 1 h (plane w l) r k
        at k i = ap (λ (x : List ℤ). value x (1 + k)) e ∙ overwrite_in line 1 w (three tc l above (r * w) below) k (pos 0) room i ∙ three_columns tc z k

    -- so that the band's row is laid down
    pub band_laid : (tr : Taps) → tc.far ≡ pos 0 → (band : List ℤ) (at : ℕ) {last : List ℤ} → last ≡ overwrite band at w (along tr 1 w (λ k. value laid (1 + k)))
        → last ≡ overwrite band at w (filtered tr tc 1 w h (plane w l) r)
    band_laid tr z band at q = q ∙ overwrite_cong band at w _ _ (row-filtered tr z)

-- ---- join
module _ {w h r a b d e : ℕ} (near : NearFive w h r a b d e) where
  -- the line of two bands that the columns' filters lay down, from place 2 on
  module _ (low high : List ℤ) (line : List ℤ) (room : 2 + w ≤ length line) {laid : List ℤ} (q : laid ≡ overwrite line 2 w (joined low high (starts w r a b d e))) where
    pub joined_run : {m : ℕ} → Plane m low w h → Plane m high w h → (most : ℕ) → 24 * m ≤ most → Run most laid 2 w
    unfolding joined gain low_join high_join
    joined_run {m} p s most h =
        subst (λ (x : List ℤ). Run most x 2 w) (sym q)
        (run_laid most line 2 w (joined low high (starts w r a b d e)) room (λ k i. omega (arith, abs_add (five low_join low (starts w r a b d e) k) (five high_join high (starts w r a b d e) k), five_range low_join (five-rows near p m (le_refl m)) k i, five_range high_join (five-rows near s m (le_refl m)) k i, h)))

    joined_at : (k : ℕ) → k < w → value laid (2 + k) ≡ along_columns low_join 1 h (plane w low) r k +ℤ along_columns high_join 1 h (plane w high) r k
    unfolding joined
    joined_at k i =
        ap (λ (x : List ℤ). value x (2 + k)) q ∙ overwrite_in line 2 w (joined low high (starts w r a b d e)) k (pos 0) room i
        ∙ (λ m. five_columns near low low_join k m +ℤ five_columns near high high_join k m)

    row-joined : (t : Taps) (c : ℕ) → c < w → along t 1 w (λ k. value laid (2 + k)) c ≡ along t 1 w (λ k. along_columns low_join 1 h (plane w low) r k +ℤ along_columns high_join 1 h (plane w high) r k) c
    row-joined t c hc =
        along_cong t 1 w (λ k. value laid (2 + k)) (λ k. along_columns low_join 1 h (plane w low) r k +ℤ along_columns high_join 1 h (plane w high) r k) (λ j. joined_at (reflect w j) (reflect_lt w (omega arith) j)) c

  -- the row of the joined sums
  pub sums_laid : (given : Bands (List ℤ)) (low high : List ℤ) → 2 + w ≤ length low → 2 + w ≤ length high → {low_laid high_laid : List ℤ}
      → low_laid ≡ overwrite low 2 w (joined given.band1 given.band3 (starts w r a b d e)) → high_laid ≡ overwrite high 2 w (joined given.band2 given.band4 (starts w r a b d e))
      → (sums : List ℤ) (at : ℕ) {last : List ℤ} → last ≡ overwrite sums at w (λ c. along low_join 1 w (λ k. value low_laid (2 + k)) c +ℤ along high_join 1 w (λ k. value high_laid (2 + k)) c)
      → last ≡ overwrite sums at w (join 1 w h (bands_of w given) r)
  sums_laid given low high p q u v sums at o =
      o ∙ overwrite_cong sums at w _ _ (λ c i. (λ m. row-joined given.band1 given.band3 low p u low_join c i m +ℤ row-joined given.band2 given.band4 high q v high_join c i m) ∙ join_by_rows 1 w h (bands_of w given) r c)
