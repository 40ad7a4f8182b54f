-- A frame's width, height and layout, its settings, and what is read off them. Assumes nothing.
use Rattle.std.specs.Prelude.{ℕ, List}
use Rattle.planes.specs.Planes.{Frame, frame}
use Rattle.questions.specs.declared.Shape.{Shape}
use Rattle.questions.specs.declared.Settings.{Settings}

-- a frame, by its width, height and layout, and its samples
abbrev pub framed : Shape → List ℕ → Frame
framed shape samples = frame shape.width shape.height shape.layout samples

abbrev pub settings : ℕ → ℕ → Settings
settings rounds threshold = record { rounds = rounds; threshold = threshold }

-- document 01's ceiling, of a sample and of the threshold
abbrev pub ceiling : ℕ
ceiling = 4095

-- that of a frame with these settings
unfoldable pub ceiling_of : Settings → ℕ
ceiling_of s = ceiling

-- how many rounds are run
unfoldable pub rounds_of : Settings → ℕ
rounds_of s = s.rounds
