-- Operations on planes: what the engine's estimates, filters and rounds are. Assumes nothing.
use Rattle.std.specs.Prelude.{Bool, ℕ, ℤ, pos, ◌+ℤ◌}
use Rattle.border.specs.Border.{reflect}
use Rattle.planes.specs.Layout.{on_red_row, on_red_column}

-- from a width, a height, a layout and a plane to a plane of that size
abbrev pub Operation : Type 0 → Type 0 → Type 0
Operation A B = ℕ → ℕ → ℕ → (ℕ → ℕ → A) → ℕ → ℕ → B

-- what stands around a place, by the distance in rows and in columns
abbrev pub Around : Type 0 → Type 0
Around A = ℤ → ℤ → A

-- An operation that reads only the reflected neighbourhood of a place, and whether its row and its column have red's parity.
unfoldable pub nearby : {A B : Type 0} → (Bool → Bool → Around A → B) → Operation A B
nearby g w h l plane r c = g (on_red_row l r) (on_red_column l c) (λ i j. plane (reflect h (pos r +ℤ i)) (reflect w (pos c +ℤ j)))
