-- Turned frames. Assumes nothing.
use Rattle.std.specs.Prelude.{ℕ}
use Rattle.planes.specs.Planes.{listing, plane_of, Frame, frame}
use Rattle.turns.specs.Pictures.{Picture, turned}

unfoldable pub picture_of : Frame → Picture ℕ
picture_of f = record { width = f.width; height = f.height; layout = f.layout; at = plane_of 0 f.width f.samples }

unfoldable pub frame_of : Picture ℕ → Frame
frame_of p = frame p.width p.height p.layout (listing p.width p.height p.at)

-- what an accepted turning call leaves: the turned width, height and layout, and the turned samples, row by row
unfoldable pub turn_frame : ℕ → Frame → Frame
turn_frame t f = frame_of (turned t (picture_of f))
