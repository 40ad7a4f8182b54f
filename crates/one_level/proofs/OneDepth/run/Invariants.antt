-- `OneDepth::run` meets its contract: after n turns, the work buffer holds the working plane after n rounds.
use mathlib.Core.Path.{◌≡◌}
use mathlib.Core.Bool.{false}
use lib.IntN.{pos}
use Rattle.planes.specs.Planes.{plane_of}
use Rattle.work_buffer.specs.Buffer.{with_plane}
use Rattle.working_plane.specs.Rounds.{working_plane}
use Rattle.working_plane.specs.Colours.{round_of}
use Rattle.one_level.proofs.OneDepth.run.Given as goal

abbrev pub invariant-loop-n : goal.invariant-loop-n
invariant-loop-n l =
    l.work ≡ with_plane l.colour.width l.colour.height (working_plane l.n (round_of false l.colour l.top l.mosaic l.green) (plane_of (pos 0) l.colour.width l.initial.work)) l.initial.work
