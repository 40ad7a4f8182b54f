-- A round at two levels, in the work buffer: what the sweep leaves, with the observed samples put in. Assumes nothing.
use mathlib.Core.Path.{◌≡◌, refl, ◌∙◌}
use mathlib.Core.Bool.{true}
use mathlib.Core.List.{List}
use Prim.Native.Nat.{ℕ, ◌*◌, ◌≤◌}
use lib.IntN.{ℤ, pos}
use lib.ListN.{length}
use Rattle.planes.specs.Planes.{plane_of, Agree}
use Rattle.planes.specs.Places.{put_at_places}
use Rattle.projection.specs.Projection.{limits_of, two_level_projected}
use Rattle.projection.proofs.Levels.{two_level_projected_agrees}
use Rattle.rings.specs.Planes.{own_plane, guide_plane}
use Rattle.rings.specs.declared.Given.{Given}
use Rattle.two_level_rows.specs.TwoLevels.{with_projected}
use Rattle.work_buffer.specs.Buffer.{with_plane}
use Rattle.working_plane.specs.Rounds.{least_kept, most_kept, round}
use Rattle.working_plane.specs.Colours.{round_of, given}
use Rattle.working_plane.specs.declared.Colour.{Colour}
use Rattle.working_plane.proofs.Repeated.{projected_on_green}
use Rattle.working_plane.proofs.Working.{planes_agree, round_laid}

module _ (k : Colour) (top : ℕ) (mosaic green : List ℕ) (work : List ℤ) {g : Given} (e : g ≡ given k.width k.height (limits_of k.threshold).first) where
  abbrev w : ℕ
  w = k.width

  abbrev h : ℕ
  h = k.height

  abbrev G : Given
  G = given w h (limits_of k.threshold).first

  abbrev P : ℕ → ℕ → ℤ
  P = two_level_projected (limits_of k.threshold) (least_kept top) (most_kept top) w h (guide_plane G green) (own_plane G work)

  pub two_laid : w * h ≤ length work → {second_limit : ℤ} → second_limit ≡ (limits_of k.threshold).second → {least most : ℤ} → least ≡ least_kept top → most ≡ most_kept top → {first second : List ℤ} → first ≡ with_projected g second_limit least most work green
      → second ≡ with_plane w h (put_at_places k.row k.column (λ r c. pos (plane_of 0 w mosaic r c)) (plane_of (pos 0) w first)) first
      → second ≡ with_plane w h (round (round_of true k top mosaic green) (plane_of (pos 0) w work)) work
  two_laid room l f m {first} p q = round_laid true k top mosaic green work room P same laid q
    where
      laid : first ≡ with_plane w h P work
      laid = p ∙ (λ j. with_projected (e j) (l j) (f j) (m j) work green) ∙ (unfold with_plane with_projected in refl)

      same : Agree w h P (projected_on_green (round_of true k top mosaic green) (plane_of (pos 0) w work))
      same = let a = planes_agree w h green work (limits_of k.threshold).first in two_level_projected_agrees (limits_of k.threshold) (least_kept top) (most_kept top) w h _ _ _ _ a.0 a.1
