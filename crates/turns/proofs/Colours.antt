-- The colour at a turned place is the colour at the place it came from. Assumes nothing.
use mathlib.Core.Path.{◌≡◌, refl}
use mathlib.Core.Bool.{Bool, true, false}
use Prim.Native.Nat.{ℕ}
use Rattle.planes.specs.Layout.{Colour, by_parity, colour}
use Rattle.turns.specs.Pictures.{Picture, turned, ◌≈◌}
use Rattle.turns.proofs.Commuting.{same, apply, apply_turned, by_parities}

-- a picture of its own colours
unfoldable pub colours : {A : Type 0} → Picture A → Picture Colour
colours p = record { width = p.width; height = p.height; layout = p.layout; at = colour p.layout }

pub colours_turned : {A : Type 0} (t : ℕ) (p : Picture A) → colours (turned t p) ≈ turned t (colours p)
unfolding colours apply colour
colours_turned {A} t p = apply_turned (by_parities {A = A} same same (λ a b x. by_parity a b) exchange) t p
  where
    exchange : (a b : Bool) (x : A) → by_parity b a ≡ by_parity a b
    exchange true true x = refl
    exchange true false x = unfold by_parity in refl
    exchange false true x = unfold by_parity in refl
    exchange false false x = refl
