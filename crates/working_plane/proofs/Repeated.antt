-- The laws of rounds: a round is the projection on green with the observed samples put in, what it sees of its planes, and what holds of
-- a working plane after any number of rounds. Assumes nothing.
use mathlib.Core.Path.{◌≡◌, refl, sym, ◌∙◌, ap}
use mathlib.Core.Bool.{Bool, true, false, cond, ◌&&◌}
use Prim.Native.Nat.{ℕ, zero, suc, ◌*◌, ◌%◌, ◌≤◌, ◌<◌}
use native.Mathlib.Omega.{arith}
use lib.Dec.{eqb}
use lib.IntN.{ℤ, pos, neg_ℤ, nat_abs, ◌-ℤ◌}
use lib.Signed.{◌≤ℤ◌}
use Rattle.integers.specs.Numbers.{rounded, clamp}
use Rattle.integers.proofs.Tests.{cond_cases}
use Rattle.integers.proofs.Bounds.{abs_neg, abs_sub, abs_minus}
use Rattle.integers.proofs.Order.{≤ℤ_trans, ≤ℤ_add, abs-between, abs_from, abs_to}
use Rattle.integers.proofs.Clamping.{clamp_from, clamp_to, clamp_inside, clamp-sample, clamp-after_wider}
use Rattle.planes.specs.Planes.{Agree}
use Rattle.filters.specs.Bank.{rescaled}
use Rattle.projection.specs.Projection.{projected, two_level_projected}
use Rattle.projection.proofs.Projection.{projected_agrees}
use Rattle.projection.proofs.Levels.{two_level_projected_agrees}
use Rattle.working_plane.specs.Rounds.{Round, least_kept, most_kept, kept, one_level, two_level, put_observed, round, working_plane, rewritten}
use Rattle.working_plane.specs.Colours.{KeptTo}

-- ---- what a working plane keeps
module _ (top : ℕ) where
  -- 0 and the ceiling lie in its range
  least_below : least_kept top ≤ℤ pos 0
  unfolding least_kept
  least_below = abs_from top (pos 0) (omega arith)

  most_above : pos top ≤ℤ most_kept top
  unfolding most_kept
  most_above = abs_to _ (pos top) (omega arith)

  -- so does a sample
  pub sample-kept : (x : ℕ) → x ≤ top → KeptTo top (pos x)
  sample-kept x h = (≤ℤ_trans least_below (abs_to x (pos 0) (omega arith)), ≤ℤ_trans (abs_to top (pos x) h) most_above)

  -- and what is kept of a sum
  pub sum_kept : (times : ℕ) (s : ℤ) → KeptTo top (kept times top s)
  unfolding kept
  sum_kept times s = (clamp_from (least_kept top) (most_kept top) order (rounded times s), clamp_to (least_kept top) (most_kept top) order (rounded times s))
    where
      order : least_kept top ≤ℤ most_kept top
      order = ≤ℤ_trans least_below (≤ℤ_trans (abs_to top (pos 0) (omega arith)) most_above)

  -- clipped to 0..ceiling, that is the sum brought back there at once
  pub kept-clipped : (times : ℕ) (s : ℤ) → clamp (pos 0) (pos top) (kept times top s) ≡ rescaled times (pos 0) (pos top) s
  unfolding kept
  kept-clipped times s = clamp-after_wider (pos 0) (pos top) (abs_to top (pos 0) (omega arith)) least_below most_above (rounded times s)

  -- how far it is from 0, and from a sample
  pub kept_far : {z : ℤ} → KeptTo top z → nat_abs z ≤ 2 * top
  unfolding least_kept most_kept
  kept_far h = abs-between h.0 h.1 (omega (arith, abs_neg (pos top))) (omega arith)

  pub kept_near : {z : ℤ} → KeptTo top z → (x : ℕ) → x ≤ top → nat_abs (z -ℤ pos x) ≤ 2 * top
  unfolding least_kept most_kept
  kept_near h x few =
      abs-between (≤ℤ_add h.0 (neg_ℤ (pos x))) (≤ℤ_add h.1 (neg_ℤ (pos x)))
      (omega (arith, abs_sub (neg_ℤ (pos top)) (pos x), abs_neg (pos top), few)) (omega (arith, abs_minus (2 * top) x, few))

-- the range grows with the ceiling
pub kept_grows : {top most : ℕ} → top ≤ most → {z : ℤ} → KeptTo top z → KeptTo most z
unfolding least_kept most_kept
kept_grows {top} {most} few h =
    (≤ℤ_trans (abs_from most (neg_ℤ (pos top)) (omega (arith, abs_neg (pos top), few))) h.0, ≤ℤ_trans h.1 (abs_to (2 * most) (pos (2 * top)) (omega (arith, few))))

module _ (k : Round) where
  -- ---- a round
  -- the projection on green, at either level
  abbrev Green : ℕ → ℕ → ℤ
  Green i j = pos (k.green i j)

  abbrev pub projected_between : ℤ → ℤ → (ℕ → ℕ → ℤ) → ℕ → ℕ → ℤ
  projected_between least most own r c =
      cond k.two (two_level_projected k.limits least most k.width k.height Green own r c)
      (projected k.limits.first least most k.width k.height Green own r c)

  abbrev pub projected_on_green : (ℕ → ℕ → ℤ) → ℕ → ℕ → ℤ
  projected_on_green = projected_between (least_kept k.top) (most_kept k.top)

  -- as it gives the round
  pub round-projected : (own : ℕ → ℕ → ℤ) (r c : ℕ) → round k own r c ≡ put_observed k (projected_on_green own) r c
  unfolding round one_level two_level put_observed kept projected two_level_projected
  round-projected own r c = refl

  -- observed samples put into planes that are equal at a place
  pub observed_same : (p q : ℕ → ℕ → ℤ) (r c : ℕ) → p r c ≡ q r c → put_observed k p r c ≡ put_observed k q r c
  unfolding put_observed
  observed_same p q r c e = ap (cond (eqb (r % 2) k.row && eqb (c % 2) k.column) (pos (k.mosaic r c))) e

  -- working planes that agree inside agree after it
  pub round_agrees : (own own' : ℕ → ℕ → ℤ) → Agree k.width k.height own own' → Agree k.width k.height (round k own) (round k own')
  round_agrees own own' e r c hr hc =
      round-projected own r c
      ∙ observed_same _ _ r c (λ i. cond k.two (two i) (one i))
      ∙ sym (round-projected own' r c)
    where
      least : ℤ
      least = least_kept k.top

      most : ℤ
      most = most_kept k.top

      two : two_level_projected k.limits least most k.width k.height Green own r c ≡ two_level_projected k.limits least most k.width k.height Green own' r c
      two = two_level_projected_agrees k.limits least most k.width k.height Green Green own own' (λ i j hi hj. refl) e r c hr hc

      one : projected k.limits.first least most k.width k.height Green own r c ≡ projected k.limits.first least most k.width k.height Green own' r c
      one = projected_agrees k.limits.first least most k.width k.height Green Green own own' (λ i j hi hj. refl) e r c hr hc

  -- so they do after n
  pub working_plane_agree : (n : ℕ) (own own' : ℕ → ℕ → ℤ) → Agree k.width k.height own own' → Agree k.width k.height (working_plane n k own) (working_plane n k own')
  unfolding working_plane
  working_plane_agree zero own own' e = e
  working_plane_agree (suc n) own own' e = round_agrees (working_plane n k own) (working_plane n k own') (working_plane_agree n own own' e)

  -- ---- what holds of a working plane
  -- What holds of all that is kept, of the observed samples and of the working plane at first, holds of it after any number of rounds.
  module _ (P : ℤ → Type 0) (own : ℕ → ℕ → ℤ) (keeps : (times : ℕ) (s : ℤ) → P (kept times k.top s)) (observed : (r c : ℕ) → r < k.height → c < k.width → P (pos (k.mosaic r c)))
      (first : (r c : ℕ) → r < k.height → c < k.width → P (own r c)) where
    pub working_plane_hold : (n r c : ℕ) → r < k.height → c < k.width → P (working_plane n k own r c)
    unfolding working_plane
    working_plane_hold zero r c hr hc = first r c hr hc
    working_plane_hold (suc n) r c hr hc =
        unfold round put_observed one_level two_level in
        cond_cases (eqb (r % 2) k.row && eqb (c % 2) k.column) _ _ P (λ t. observed r c hr hc) (λ t. cond_cases k.two _ _ P (λ t. keeps 1048576 _) (λ t. keeps 1024 _))

  -- ---- the samples after n rounds
  -- red and blue stay within the ceiling
  pub rewritten_bound : (n : ℕ) (plane : ℕ → ℕ → ℕ) (r c : ℕ) → rewritten n k plane r c ≤ k.top
  unfolding rewritten
  rewritten_bound n plane r c = (clamp-sample k.top _).0

  -- a sample is not clipped
  sample_stays : (x : ℕ) → x ≤ k.top → clamp (pos 0) (pos k.top) (pos x) ≡ pos x
  sample_stays x few = clamp_inside (abs_to x (pos 0) (omega arith)) (abs_to k.top (pos x) few)

  -- with no round no sample changes
  pub no_round : (plane : ℕ → ℕ → ℕ) (r c : ℕ) → plane r c ≤ k.top → rewritten 0 k plane r c ≡ plane r c
  unfolding rewritten working_plane
  no_round plane r c few = ap nat_abs (sample_stays (plane r c) few)

  -- After one, nothing shows of what is kept between rounds: the sums are brought back to 0..ceiling at once.
  pub one_round : (plane : ℕ → ℕ → ℕ) (r c : ℕ) → k.mosaic r c ≤ k.top
      → rewritten 1 k plane r c ≡ nat_abs (put_observed k (projected_between (pos 0) (pos k.top) (λ i j. pos (plane i j))) r c)
  unfolding rewritten working_plane round one_level two_level put_observed projected two_level_projected
  one_round plane r c few =
      ap nat_abs
      (clip (eqb (r % 2) k.row && eqb (c % 2) k.column) _ _ (sample_stays (k.mosaic r c) few)
      (clip k.two _ _ (kept-clipped k.top 1048576 _) (kept-clipped k.top 1024 _)))
    where
      clip : (b : Bool) (x y : ℤ) {u v : ℤ} → clamp (pos 0) (pos k.top) x ≡ u → clamp (pos 0) (pos k.top) y ≡ v → clamp (pos 0) (pos k.top) (cond b x y) ≡ cond b u v
      clip true x y e f = e
      clip false x y e f = f
