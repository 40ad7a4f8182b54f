-- The three planes at a place, from its neighbourhood as an array. Assumes nothing.
use mathlib.Core.Path.{◌≡◌, ◌∙◌}
use mathlib.Core.Bool.{Bool, not}
use mathlib.Core.List.{List}
use Prim.Native.Nat.{ℕ}
use Rattle.planes.specs.Layout.{by_parity, on_red_row, on_red_column}
use Rattle.turns.specs.Operations.{nearby}
use Rattle.neighbourhood.specs.Place.{neighbourhood, around}
use Rattle.neighbourhood.proofs.Places.{bilinear_read, green_read}
use Rattle.estimate.specs.Estimates.{estimate_at, estimate}

module _ (w h : ℕ) (plane : ℕ → ℕ → ℕ) (r c : ℕ) where
  pub placed : (top l : ℕ) {row column : Bool} {n : List (List ℕ)} → row ≡ on_red_row l r → column ≡ on_red_column l c → n ≡ neighbourhood w h plane r c
      → estimate_at top row column (around n) ≡ estimate top w h l plane r c
  unfolding estimate nearby estimate_at
  placed top l {row} {column} e f g =
      (λ i. estimate_at top (e i) (f i) (around (g i)))
      ∙ (λ i. record { red = bilinear_read w h plane r c (on_red_row l r) (on_red_column l c) i; green = green_read w h plane r c top (by_parity (on_red_row l r) (on_red_column l c)) i; blue = bilinear_read w h plane r c (not (on_red_row l r)) (not (on_red_column l c)) i })
