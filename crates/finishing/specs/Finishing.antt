-- Document 01, "Rounds": finishing is estimate, update, rounds, into three planes. Assumes nothing.
use Rattle.std.specs.Prelude.{List, ℕ}
use Rattle.planes.specs.Planes.{Planes, planes, Frame, listings, plane_of}
use Rattle.questions.specs.Settings.{ceiling_of}
use Rattle.questions.specs.declared.Settings.{Settings}
use Rattle.turns.specs.Operations.{Operation}
use Rattle.estimate.specs.Estimates.{estimate}
use Rattle.update.specs.Update.{update}
use Rattle.rounds.specs.Rounds.{rounds}

-- the first estimates of a mosaic, green updated
unfoldable pub updated : ℕ → Operation ℕ (Planes ℕ)
updated top w h l mosaic r c = planes (first r c).red (update top w h l (λ i j. (mosaic i j, (first i j).green)) r c) (first r c).blue
  where
    first : ℕ → ℕ → Planes ℕ
    first = estimate top w h l mosaic

-- and the rounds of them
unfoldable pub finish : Settings → Operation ℕ (Planes ℕ)
finish s w h l mosaic = rounds s w h l (λ r c. (mosaic r c, updated (ceiling_of s) w h l mosaic r c))

-- the three finished planes of a frame, row by row
unfoldable pub finish_lists : Frame → Settings → Planes (List ℕ)
finish_lists f s = listings f.width f.height (finish s f.width f.height f.layout (plane_of 0 f.width f.samples))
