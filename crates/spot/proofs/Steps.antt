-- The laws of a step: what a lit frame leaves and answers, and what an unlit one does. Assumes nothing.
use mathlib.Core.Path.{◌≡◌, refl, sym, ap, ◌∙◌}
use mathlib.Core.Bool.{Bool, true, false, cond}
use Rattle.spot.specs.Spot.{Spot, Sums, spot_of, smooth_spot, is_lit, kept, lit_spot, next_kept, reading}
use Rattle.spot.specs.declared.Kept.{Kept}
use Rattle.spot.specs.declared.Reading.TheVariants.{Starting, Dark, Steady}

module _ (k : Kept) (s : Sums) where
  -- ---- a lit frame's spot: after a lit frame, and as the first
  pub later_spot : k.lit ≡ true → {new r : Spot} → r ≡ smooth_spot k.spot new → new ≡ spot_of s → r ≡ lit_spot k s
  later_spot h e p = e ∙ ap (smooth_spot k.spot) p ∙ sym (rw (h) refl)

  pub first-spot : k.lit ≡ false → {new : Spot} → new ≡ spot_of s → new ≡ lit_spot k s
  first-spot h p = p ∙ sym (rw (h) refl)

  -- ---- what is kept after a lit frame, and its reading
  pub lit_kept : is_lit s ≡ true → {new : Spot} → new ≡ lit_spot k s → kept new true ≡ next_kept k s
  unfolding next_kept
  lit_kept h e = (λ i. kept (e i) true) ∙ sym (rw (h) refl)

  pub lit_reading : is_lit s ≡ true → {new : Spot} → new ≡ lit_spot k s → Steady new ≡ reading k s
  unfolding reading
  lit_reading h e = (λ i. Steady (e i)) ∙ sym (rw (h) refl)

  -- ---- and of an unlit one
  pub unlit_kept : is_lit s ≡ false → k ≡ next_kept k s
  unfolding next_kept
  unlit_kept h = sym (rw (h) refl)

  pub unlit_reading : is_lit s ≡ false → (b : Bool) → k.lit ≡ b → cond b Dark Starting ≡ reading k s
  unfolding reading
  unlit_reading h b e = sym (rw (h, e) refl)
