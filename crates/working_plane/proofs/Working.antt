-- A colour's working plane in the work buffer: what a round, and all rounds, make of it. Assumes nothing.
use mathlib.Core.Path.{◌≡◌, refl, sym, ◌∙◌, ap, subst}
use mathlib.Core.Bool.{Bool, cond, ◌&&◌}
use mathlib.Core.List.{List}
use Prim.Native.Nat.{ℕ, ◌+◌, ◌*◌, ◌%◌, ◌≤◌, ◌<◌}
use native.Mathlib.Nat.{zero-add}
use native.Mathlib.Numerals.{add-one}
use native.Mathlib.Omega.{arith}
use lib.Dec.{eqb}
use lib.IntN.{ℤ, pos}
use lib.ListN.{get_or, length}
use Rattle.integers.specs.Lists.{tabulate, overwrite}
use Rattle.integers.specs.Numbers.{clipped}
use Rattle.integers.proofs.Lists.{tabulate_cong}
use Rattle.planes.specs.Planes.{listing, plane_of, Agree}
use Rattle.planes.specs.Lists.{value, sample}
use Rattle.planes.specs.Places.{put_at_places}
use Rattle.planes.proofs.Planes.{sizes_from_1}
use Rattle.std.proofs.lemmas.Nat.{mul-add-lt}
use Rattle.filters.specs.Bank.{Distance}
use Rattle.projection.specs.Projection.{limits_of}
use Rattle.rings.specs.Planes.{own_plane, guide_plane, Projectable}
use Rattle.rings.specs.declared.Given.{Given}
use Rattle.work_buffer.specs.Buffer.{with_plane, zeroed, Workable}
use Rattle.work_buffer.proofs.Buffer.{length-with_plane, with_plane_at, with_plane_holds, plane_with, with_plane_agree, with_plane_again, with_own_plane, zeroed-with_plane, loaded}
use Rattle.working_plane.specs.Rounds.{Round, put_observed, round, working_plane, rewritten}
use Rattle.working_plane.specs.Colours.{round_of, given, KeptTo, KeptPlane}
use Rattle.working_plane.specs.declared.Colour.{Colour}
use Rattle.working_plane.proofs.Repeated.{projected_on_green, round-projected, round_agrees, working_plane_agree, working_plane_hold, sample-kept, sum_kept, kept_far, kept_near, kept_grows}

-- ---- what the projection is given
-- the working plane, first in its list
own_first : (work : List ℤ) (w h : ℕ) (limit : ℤ) (r c : ℕ) → own_plane (given w h limit) work r c ≡ plane_of (pos 0) w work r c
unfolding own_plane plane_of
own_first work w h limit r c = ap (value work) (zero-add (r * w + c))

-- and green, as it is
guide_first : (green : List ℕ) (w h : ℕ) (limit : ℤ) (r c : ℕ) → guide_plane (given w h limit) green r c ≡ pos (plane_of 0 w green r c)
unfolding guide_plane plane_of
guide_first green w h limit r c = ap (λ (n : ℕ). pos (get_or green n 0)) place
  where
    place : 0 + r * w + c * 1 ≡ r * w + c
    place = omega arith

-- they may be projected
pub projectable : (w h : ℕ) (mosaic green : List ℕ) (work : List ℤ) → Workable w h mosaic green (length work) → KeptPlane work (w * h) → ((k : ℕ) → get_or green k 0 ≤ 65535) → (limit : ℤ) → Distance limit
    → Projectable (given w h limit) work green
unfolding own_plane guide_plane
projectable w h mosaic green work u n sg limit distance = record {
  sizes = sizes_from_1 u.sizes;
  limit = distance;
  inside = omega (arith, n.inside);
  small = λ k hk. kept_far 65535 (at k hk);
  guide_inside = λ r c hr hc. omega (arith, u.greens, mul-add-lt _ _ _ _ hr hc);
  near = λ r c hr hc. kept_near 65535 (at (r * w + c) (mul-add-lt _ _ _ _ hr hc)) (get_or green (0 + r * w + c * 1) 0) (sg (0 + r * w + c * 1));
}
  where
    at : (k : ℕ) → k < w * h → KeptTo 65535 (value work (0 + k))
    at k hk = subst (λ (i : ℕ). KeptTo 65535 (value work i)) (sym (zero-add k)) (n.each k hk)

-- a colour's, within the limit of a first level
pub colour_projectable : (k : Colour) (mosaic green : List ℕ) (work : List ℤ) {g : Given} → g ≡ given k.width k.height (limits_of k.threshold).first → k.threshold ≤ 65535
    → Workable k.width k.height mosaic green (length work) → KeptPlane work (k.width * k.height) → ((i : ℕ) → get_or green i 0 ≤ 65535) → Projectable g work green
colour_projectable k mosaic green work e few u n sg =
    subst (λ (x : Given). Projectable x work green) (sym e)
    (projectable k.width k.height mosaic green work u n sg _ (unfold limits_of in (record { sign = tt; small = omega (arith, few) })))

-- the projection sees the two planes in their lists
pub planes_agree : (w h : ℕ) (green : List ℕ) (work : List ℤ) (limit : ℤ)
    → Agree w h (guide_plane (given w h limit) green) (λ r c. pos (plane_of 0 w green r c)) × Agree w h (own_plane (given w h limit) work) (plane_of (pos 0) w work)
planes_agree w h green work limit = (λ r c hr hc. guide_first green w h limit r c, λ r c hr hc. own_first work w h limit r c)

module _ (two : Bool) (k : Colour) (top : ℕ) (mosaic green : List ℕ) (work : List ℤ) (room : k.width * k.height ≤ length work) where
  abbrev w : ℕ
  w = k.width

  abbrev h : ℕ
  h = k.height

  -- its round, and the working plane in the list
  abbrev K : Round
  K = round_of two k top mosaic green

  abbrev Own : ℕ → ℕ → ℤ
  Own = plane_of (pos 0) w work

  -- a round: projected, and the observed samples put in
  pub round_laid : (p : ℕ → ℕ → ℤ) → Agree w h p (projected_on_green K Own) → {first second : List ℤ} → first ≡ with_plane w h p work
      → second ≡ with_plane w h (put_at_places k.row k.column (λ r c. pos (plane_of 0 w mosaic r c)) (plane_of (pos 0) w first)) first
      → second ≡ with_plane w h (round K Own) work
  round_laid p e {first} {second} laid q =
      q ∙ ap (with_plane w h new) laid
      ∙ with_plane_again w h work room p new
      ∙ with_plane_agree w h work room same
    where
      new : ℕ → ℕ → ℤ
      new = put_at_places k.row k.column (λ r c. pos (plane_of 0 w mosaic r c)) (plane_of (pos 0) w first)

      same : Agree w h new (round K Own)
      same r c hr hc =
          ap (cond (eqb (r % 2) k.row && eqb (c % 2) k.column) (pos (K.mosaic r c)))
          (ap (λ (l : List ℤ). plane_of (pos 0) w l r c) laid ∙ plane_with w h work room p r c hr hc ∙ e r c hr hc)
          ∙ sym (round-projected K Own r c ∙ (unfold put_observed in refl))

  -- ---- n rounds of it
  abbrev After : ℕ → ℕ → ℕ → ℤ
  After n = working_plane n K Own

  -- none
  pub none_laid : work ≡ with_plane w h (After 0) work
  unfolding working_plane
  none_laid = with_own_plane w h work room

  -- one more
  pub more_laid : (n : ℕ) {before after : List ℤ} → before ≡ with_plane w h (After n) work → after ≡ with_plane w h (round K (plane_of (pos 0) w before)) before
      → after ≡ with_plane w h (After (n + 1)) work
  unfolding working_plane
  more_laid n {before} {after} p q =
      q ∙ ap (with_plane w h (round K (plane_of (pos 0) w before))) p
      ∙ with_plane_again w h work room (After n) (round K (plane_of (pos 0) w before))
      ∙ with_plane_agree w h work room (round_agrees K (plane_of (pos 0) w before) (After n) held)
      ∙ ap (λ (m : ℕ). with_plane w h (After m) work) (sym (add-one n))
    where
      held : Agree w h (plane_of (pos 0) w before) (After n)
      held r c hr hc = ap (λ (l : List ℤ). plane_of (pos 0) w l r c) p ∙ plane_with w h work room (After n) r c hr hc

  -- its numbers lie in their range all the while
  pub after_kept : (n : ℕ) {l : List ℤ} → l ≡ with_plane w h (After n) work → KeptPlane work (w * h) → top ≤ 65535 → ((i : ℕ) → get_or mosaic i 0 ≤ 65535) → KeptPlane l (w * h)
  after_kept n p u few sm = record {
    inside = omega (arith, ap length p, length-with_plane w h work room (After n), room);
    each = with_plane_holds w h work room (After n) p (KeptTo 65535) (working_plane_hold K (KeptTo 65535) Own (λ times s. kept_grows few (sum_kept top times s)) (λ r c hr hc. sample-kept 65535 _ (observed r c)) first n);
  }
    where
      observed : (r c : ℕ) → plane_of 0 w mosaic r c ≤ 65535
      observed r c = unfold plane_of in sm (r * w + c)

      first : (r c : ℕ) → r < h → c < w → KeptTo 65535 (plane_of (pos 0) w work r c)
      first r c hr hc = unfold plane_of in u.each (r * w + c) (mul-add-lt _ _ _ _ hr hc)

-- ---- a colour's plane: loaded, through n rounds, and unloaded
module _ (two : Bool) (k : Colour) (top : ℕ) (mosaic green plane : List ℕ) (work : List ℤ) (room : k.width * k.height ≤ length work) (long : length plane ≡ k.width * k.height)
    {first : List ℤ} (p : first ≡ overwrite work 0 (length plane) (sample plane)) where
  abbrev Samples : ℕ → ℕ → ℤ
  Samples r c = pos (plane_of 0 k.width plane r c)

  -- the working plane at first
  first_laid : first ≡ with_plane k.width k.height Samples work
  first_laid = loaded k.width k.height plane work long p

  first_long : length first ≡ length work
  first_long = ap length first_laid ∙ length-with_plane k.width k.height work room Samples

  pub first-kept : ((i : ℕ) → get_or plane i 0 ≤ 65535) → KeptPlane first (k.width * k.height)
  first-kept sm = record {
    inside = omega (arith, room, first_long);
    each = with_plane_holds k.width k.height work room Samples first_laid (KeptTo 65535) (λ r c hr hc. sample-kept 65535 _ (small r c));
  }
    where
      small : (r c : ℕ) → plane_of 0 k.width plane r c ≤ 65535
      small r c = unfold plane_of in sm (r * k.width + c)

  pub first_workable : Workable k.width k.height mosaic green (length work) → Workable k.width k.height mosaic green (length first)
  first_workable = subst (Workable k.width k.height mosaic green) (sym first_long)

  module _ (n : ℕ) {second : List ℤ} (q : second ≡ with_plane k.width k.height (working_plane n (round_of two k top mosaic green) (plane_of (pos 0) k.width first)) first) where
    -- and at last
    abbrev Last : ℕ → ℕ → ℤ
    Last = working_plane n (round_of two k top mosaic green) Samples

    pub last_laid : second ≡ with_plane k.width k.height Last work
    last_laid =
        q ∙ with_plane_agree k.width k.height first (omega (arith, room, first_long)) (working_plane_agree (round_of two k top mosaic green) n (plane_of (pos 0) k.width first) Samples held)
        ∙ ap (with_plane k.width k.height Last) first_laid
        ∙ with_plane_again k.width k.height work room Samples Last
      where
        held : Agree k.width k.height (plane_of (pos 0) k.width first) Samples
        held r c hr hc = ap (λ (l : List ℤ). plane_of (pos 0) k.width l r c) first_laid ∙ plane_with k.width k.height work room Samples r c hr hc

    -- the work buffer has changed only where it will be zeroed
    pub scratched : 8 * (k.width * k.height) ≤ length work → zeroed k.width k.height second ≡ zeroed k.width k.height work
    scratched eight = ap (zeroed k.width k.height) last_laid ∙ zeroed-with_plane k.width k.height k.width k.height Last work (omega arith) eight

    -- unloaded as samples
    pub unloaded : {out : List ℕ} → out ≡ tabulate (length plane) (λ i. clipped top (value second i))
        → out ≡ listing k.width k.height (rewritten n (round_of two k top mosaic green) (plane_of 0 k.width plane))
    unfolding listing rewritten
    unloaded e =
        e ∙ ap (λ (m : ℕ). tabulate m (λ i. clipped top (value second i))) long
        ∙ tabulate_cong (k.width * k.height) _ _ (λ i hi. ap (clipped top) (ap (λ (l : List ℤ). value l i) last_laid ∙ with_plane_at k.width k.height work room Last i hi))
