-- The green update commutes with every turn, and does not see the level. Assumes nothing.
use mathlib.Core.Path.{◌≡◌, refl, sym, ◌∙◌, ap}
use mathlib.Core.Bool.{Bool, true, false, cond}
use Prim.Native.Nat.{ℕ, ◌+◌, ◌*◌, ◌-◌, ◌/◌, ◌%◌}
use native.Mathlib.Omega.{arith}
use lib.IntN.{ℤ, pos, nat_abs}
use Rattle.planes.specs.Planes.{Agree}
use Rattle.planes.proofs.Layouts.{row_less, column_less}
use Rattle.planes.specs.Places.{half}
use Rattle.planes.proofs.Places.{second_inside, small_inside}
use Rattle.turns.specs.Operations.{Operation}
use Rattle.turns.specs.Pictures.{Picture, turned, ◌≈◌}
use Rattle.turns.proofs.Commuting.{Commutes, same, composed, paired, pointwise, by_parities, commutes_by, apply, apply_turned}
use Rattle.projection.proofs.Projection.{projected_commutes}
use Rattle.update.specs.Update.{small_plane, mixed, put_mixed, update}
use Rattle.update.proofs.Mixing.{mixed-projected, places_mirror, small_mirror, place_mirror, own_mixed, both_or_neither, update-place}

-- ---- an operation on small planes, which asks for no layout, at every place on the small plane of the places with its parities
unfoldable pub on_small_planes : {A B : Type 0} → (ℕ → ℕ → (ℕ → ℕ → A) → ℕ → ℕ → B) → Operation A B
on_small_planes F w h l p r c = F (half w (c % 2)) (half h (r % 2)) (small_plane (r % 2) (c % 2) p) (r / 2) (c / 2)

-- commutes with every turn if it does so on small planes
pub on_small_planes_commutes : {A B : Type 0} (F : ℕ → ℕ → (ℕ → ℕ → A) → ℕ → ℕ → B) → Commutes same same (λ w h l p. F w h p) → Commutes same same (on_small_planes F)
unfolding on_small_planes small_plane
on_small_planes_commutes {A} {B} F f = record {
  agrees = λ w h l p q e r c hr hc. f.agrees (half w (c % 2)) (half h (r % 2)) 0 (λ i j. p (2 * i + r % 2) (2 * j + c % 2)) (λ i j. q (2 * i + r % 2) (2 * j + c % 2))
      (λ i j hi hj. e (2 * i + r % 2) (2 * j + c % 2) (second_inside h (r % 2) i (omega arith) hi) (second_inside w (c % 2) j (omega arith) hj))
      (r / 2) (c / 2) (small_inside h r hr) (small_inside w c hc);
  exchange = λ w h l p r c hr hc. f.exchange (half w (r % 2)) (half h (c % 2)) 0 (λ i j. p (2 * i + c % 2) (2 * j + r % 2)) (r / 2) (c / 2) (small_inside w r hr) (small_inside h c hc);
  mirror = λ w h l p r c hr hc.
      f.agrees (half w (c % 2)) (half h (r % 2)) 0 _ (λ i j. p (2 * i + r % 2) (2 * (half w (c % 2) - 1 - j) + (w - 1 - c) % 2))
      (λ i j hi hj. ap (p (2 * i + r % 2)) (place_mirror w c j hc hj)) (r / 2) (c / 2) (small_inside h r hr) (small_inside w c hc)
      ∙ f.mirror (half w (c % 2)) (half h (r % 2)) 0 (λ i j. p (2 * i + r % 2) (2 * j + (w - 1 - c) % 2)) (r / 2) (c / 2) (small_inside h r hr) (small_inside w c hc)
      ∙ (λ m. F (places_mirror w c hc m) (half h (r % 2)) (λ i j. p (2 * i + r % 2) (2 * j + (w - 1 - c) % 2)) (r / 2) (small_mirror w c hc m));
}

-- ---- mixing
-- where a place has its mosaic sample, and its green
abbrev mixed_pairs : ℕ → ℕ → ℕ → (ℕ → ℕ → ℕ × ℕ) → ℕ → ℕ → ℕ
mixed_pairs top w h p = mixed top w h (λ i j. pos (p i j).1) (λ i j. pos (p i j).0)

-- commutes, as the projection does
mixed_commutes : (top : ℕ) → Commutes same same (λ w h l p. mixed_pairs top w h p)
mixed_commutes top =
    commutes_by (λ w h l p r c. sym (mixed-projected top w h (λ i j. pos (p i j).1) (λ i j. pos (p i j).0) r c))
    (composed (pointwise {A = ℕ × ℕ} {B = ℤ × ℤ} same same (λ x. (pos x.0, pos x.1)) (λ x. refl))
    (composed (projected_commutes (pos 0) (pos 0) (pos top)) (pointwise same same nat_abs (λ z. refl))))

-- ---- the update
-- which places change is all one after an exchange
both_exchange : (a b : Bool) → both_or_neither b a ≡ both_or_neither a b
both_exchange true true = refl
both_exchange true false = refl
both_exchange false true = refl
both_exchange false false = refl

-- the update sees only what is inside, and commutes with every turn
pub update_commutes : (top : ℕ) → Commutes same same (update top)
unfolding on_small_planes own_mixed small_plane
update_commutes top =
    commutes_by (λ w h l p r c. sym (update-place top w h l p r c))
    (composed (paired {B = ℕ} {C = ℕ} (on_small_planes_commutes (mixed_pairs top) (mixed_commutes top)) (pointwise {A = ℕ × ℕ} same same (λ x. x.1) (λ x. refl)))
    (by_parities {A = ℕ × ℕ} same same (λ a b x. cond (both_or_neither a b) x.0 x.1) (λ a b x. λ m. cond (both_exchange a b m) x.0 x.1)))

-- mosaics and greens that agree inside have updates that agree inside
pub update_agrees : (top w h l : ℕ) (p q : ℕ → ℕ → ℕ × ℕ) → Agree w h p q → Agree w h (update top w h l p) (update top w h l q)
update_agrees top = (update_commutes top).agrees

-- updating a turned picture is turning the updated one
pub update-turned : (top t : ℕ) (p : Picture (ℕ × ℕ)) → apply (update top) (turned t p) ≈ turned t (apply (update top) p)
update-turned top = apply_turned (update_commutes top)

-- "the green update stays one-level": with two levels it is the same
pub update_less : (top w h l : ℕ) (p : ℕ → ℕ → ℕ × ℕ) → update top w h (4 + l) p ≡ update top w h l p
unfolding update
update_less top w h l p =
    λ m. put_mixed top w h (row_less l m) (column_less l m) mosaic green (put_mixed top w h (1 - row_less l m) (1 - column_less l m) mosaic green green)
  where
    mosaic : ℕ → ℕ → ℕ
    mosaic i j = (p i j).0

    green : ℕ → ℕ → ℕ
    green i j = (p i j).1
