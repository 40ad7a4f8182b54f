-- Red and blue as the inner functions take them. Assumes nothing.
use Rattle.std.specs.Prelude.{ℕ}
use Rattle.planes.specs.Layout.{red_row, red_column}
use Rattle.questions.specs.declared.Settings.{Settings}
use Rattle.working_plane.specs.Colours.{other}
use Rattle.working_plane.specs.declared.Colour.{Colour}

abbrev pub red_of : ℕ → ℕ → ℕ → Settings → Colour
red_of w h l s = record { width = w; height = h; row = red_row l; column = red_column l; threshold = s.threshold }

abbrev pub blue_of : ℕ → ℕ → ℕ → Settings → Colour
blue_of w h l s = other (red_of w h l s)
