-- Inner: where each turned sample comes from, as the code finds it. Assumes nothing.
use Rattle.std.specs.Prelude.{Bool, cond, List, ℕ, ◌+◌, ◌*◌, ◌-◌, get_or}

-- place i of a line of n that is mirrored or not
unfoldable pub mirror_place : Bool → ℕ → ℕ → ℕ
mirror_place mirror n i = cond mirror (n - 1 - i) i

-- a row of n samples, `step` apart in the list, the first at `from`
unfoldable pub source_row : List ℕ → Bool → ℕ → ℕ → ℕ → ℕ → ℕ
source_row samples mirror n from step j = get_or samples (from + mirror_place mirror n j * step) 0

-- a plane of such rows, `row_step` apart
unfoldable pub source_plane : List ℕ → Bool → Bool → ℕ → ℕ → ℕ → ℕ → (ℕ → ℕ → ℕ)
source_plane samples left_right top_bottom columns rows row_step column_step i = source_row samples left_right columns (mirror_place top_bottom rows i * row_step) column_step
