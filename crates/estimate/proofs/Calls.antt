-- What an accepted estimate call knows. Assumes nothing.
use mathlib.Core.Path.{◌≡◌, refl}
use Prim.Native.Nat.{ℕ, ◌*◌}
use lib.ListN.{length}
use borrow.Author.Tests.{eqb-true}
use Rattle.planes.specs.Planes.{Frame, Planes}
use Rattle.planes.proofs.Planes.{sizes_from_1}
use Rattle.questions.specs.Questions.{ask}
use Rattle.questions.proofs.Asking.{all_yes, shape_is}
use Rattle.neighbourhood.specs.Inner.{Mosaic}
use Rattle.estimate.specs.Calls.{estimate_questions}

pub record Estimable (f : Frame) (rooms : Planes ℕ) : Type 0 where
  pub mosaic : Mosaic f.samples f.width f.height
  pub red : rooms.red ≡ f.width * f.height
  pub green : rooms.green ≡ f.width * f.height
  pub blue : rooms.blue ≡ f.width * f.height

pub estimable : (top : ℕ) (f : Frame) (rooms : Planes ℕ) → 0 ≡ ask (estimate_questions top f rooms) → Estimable f rooms
estimable top f rooms e =
    let y = all_yes (estimate_questions top f rooms) tt 0 e refl in
    let q = y.1.1.1 in
    let count = f.width * f.height in
    record {
      mosaic = record { sizes = sizes_from_1 (shape_is f.width f.height f.layout (y.0, (y.1.0, (y.1.1.0, tt)))).sizes; count = eqb-true (length f.samples) count q.0 };
      red = eqb-true rooms.red count q.1.0;
      green = eqb-true rooms.green count q.1.1.0;
      blue = eqb-true rooms.blue count q.1.1.1.0;
    }
