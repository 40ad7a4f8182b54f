-- Document 01, "Rounds": red and blue, by the round of one colour (crate `working_plane`). Assumes nothing.
use Rattle.std.specs.Prelude.{ℕ, ◌-◌}
use Rattle.planes.specs.Layout.{red_row, red_column, two_levels}
use Rattle.planes.specs.Planes.{Planes, planes}
use Rattle.questions.specs.Settings.{ceiling_of, rounds_of}
use Rattle.questions.specs.declared.Settings.{Settings}
use Rattle.turns.specs.Operations.{Operation}
use Rattle.projection.specs.Projection.{limits_of}
use Rattle.working_plane.specs.Rounds.{Round, rewritten}

-- Red and blue are rewritten, and green stays. A place has its mosaic sample, and its samples in the three given planes.
unfoldable pub rounds : Settings → Operation (ℕ × Planes ℕ) (Planes ℕ)
rounds s w h l p r c =
    planes (rewritten (rounds_of s) (colour (red_row l) (red_column l)) (λ i j. (p i j).1.red) r c)
    (p r c).1.green
    (rewritten (rounds_of s) (colour (1 - red_row l) (1 - red_column l)) (λ i j. (p i j).1.blue) r c)
  where
    colour : ℕ → ℕ → Round
    colour row column = record {
      two = two_levels l;
      top = ceiling_of s;
      limits = limits_of s.threshold;
      width = w;
      height = h;
      row = row;
      column = column;
      mosaic = λ i j. (p i j).0;
      green = λ i j. (p i j).1.green;
    }
