-- The projection at two levels of a plane that stands in a list, on a guide that stands in another. Assumes nothing.
use Rattle.std.specs.Prelude.{List, ℕ, ◌*◌, ◌/◌, ◌%◌, ℤ}
use Rattle.integers.specs.Lists.{overwrite}
use Rattle.projection.specs.Projection.{Limits, two_level_projected}
use Rattle.rings.specs.declared.Given.{Given}
use Rattle.rings.specs.Planes.{own_plane, guide_plane}

-- the first level's limit is the one that is given with the planes
abbrev pub limits : Given → ℤ → Limits
limits g second = record { first = g.limit; second = second }

-- the list after it, where the clip's ends are least and most
unfoldable pub with_projected : Given → ℤ → ℤ → ℤ → List ℤ → List ℕ → List ℤ
with_projected g second least most own guide =
    overwrite own g.at (g.width * g.height) (λ k. two_level_projected (limits g second) least most g.width g.height (guide_plane g guide) (own_plane g own) (k / g.width) (k % g.width))
