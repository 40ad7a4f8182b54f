-- The projection of a plane that stands in a list, on a guide that stands in another. Assumes nothing.
use Rattle.std.specs.Prelude.{List, ℕ, ◌+◌, ◌*◌, ◌/◌, ◌%◌, ℤ}
use Rattle.integers.specs.Lists.{overwrite}
use Rattle.planes.specs.Lists.{value}
use Rattle.projection.specs.Projection.{projected}
use Rattle.details.specs.Details.{crossed, settled}
use Rattle.rings.specs.declared.Given.{Given}
use Rattle.rings.specs.Planes.{own_plane, guide_plane}
use Rattle.rings.specs.Rows.{row_at, five_slots}

-- the list after it, where the clip's ends are least and most
unfoldable pub with_projected : Given → ℤ → ℤ → List ℤ → List ℕ → List ℤ
with_projected g least most own guide =
    overwrite own g.at (g.width * g.height) (λ k. projected g.limit least most g.width g.height (guide_plane g guide) (own_plane g own) (k / g.width) (k % g.width))

-- as code goes: row r, from five rows of the joined parts
unfoldable pub settled_row : Given → ℤ → ℤ → List ℤ → List ℤ → List ℤ → ℕ → ℕ → ℤ
settled_row g least most own apart together r c = settled least most (value own (row_at g r + c)) (crossed apart together (five_slots 5 1 g r) c)
