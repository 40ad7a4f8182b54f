-- Finishing commutes with every turn: the planes of a turned frame are the frame's planes turned. Assumes nothing.
use mathlib.Core.Path.{◌≡◌, refl, ◌∙◌, ap}
use mathlib.Core.List.{List, [], ◌∷◌}
use Prim.Native.Nat.{ℕ}
use Rattle.planes.specs.Planes.{Frame, frame, Planes, planes, listing, plane_of}
use Rattle.questions.specs.Settings.{ceiling_of}
use Rattle.questions.specs.declared.Settings.{Settings}
use Rattle.turns.specs.Frames.{picture_of, frame_of, turn_frame}
use Rattle.turns.specs.Operations.{Operation}
use Rattle.turns.specs.Pictures.{steps_of, turned}
use Rattle.turns.proofs.Pictures.{≈_sym, ≈_trans, turned_by_≈}
use Rattle.turns.proofs.Commuting.{Commutes, same, composed, paired, pointwise, apply, apply_≈, apply_turned}
use Rattle.turns.proofs.Frames.{picture_of-frame, frame_of_≈}
use Rattle.estimate.proofs.Turned.{estimate_commutes}
use Rattle.update.proofs.Turned.{update_commutes}
use Rattle.rounds.proofs.Turned.{rounds_commute}
use Rattle.finishing.specs.Finishing.{updated, finish, finish_lists}
use Rattle.finishing.specs.Turnings.{turned_through, turned_plane, turned_planes}

-- ---- the operations one after the other
updated_commutes : (top : ℕ) → Commutes same same (updated top)
unfolding updated
updated_commutes top =
    composed {B = ℕ × Planes ℕ} (paired (pointwise same same (λ x. x) (λ x. refl)) (estimate_commutes top))
    (composed {B = (ℕ × ℕ) × ℕ}
    (paired (paired {B = ℕ} {C = ℕ} (pointwise {A = ℕ × Planes ℕ} same same (λ x. x.1.red) (λ x. refl))
    (composed (pointwise {A = ℕ × Planes ℕ} {B = ℕ × ℕ} same same (λ x. (x.0, x.1.green)) (λ x. refl)) (update_commutes top)))
    (pointwise {A = ℕ × Planes ℕ} same same (λ x. x.1.blue) (λ x. refl)))
    (pointwise same same (λ x. planes x.0.0 x.0.1 x.1) (λ x. refl)))

pub finish_commutes : (s : Settings) → Commutes same same (finish s)
unfolding finish
finish_commutes s =
    composed {B = ℕ × Planes ℕ} (paired (pointwise same same (λ x. x) (λ x. refl)) (updated_commutes (ceiling_of s))) (rounds_commute s)

-- ---- on frames
module _ {F : Operation ℕ ℕ} (n : Commutes same same F) where
  -- the plane that the operation makes of a frame, as a frame
  abbrev made : Frame → Frame
  made f = frame f.width f.height f.layout (listing f.width f.height (F f.width f.height f.layout (plane_of 0 f.width f.samples)))

  -- made of a frame that is turned, it is turned
  made_turned : (t : ℕ) (f : Frame) → made (turn_frame t f) ≡ turn_frame t (made f)
  unfolding turn_frame turned frame_of picture_of apply
  made_turned t f =
      frame_of_≈ {p = apply F (picture_of (frame_of (turned t (picture_of f))))} {q = turned t (picture_of (made f))}
      (≈_trans (apply_≈ n (λ a. refl) (λ b. refl) (picture_of-frame (turned t (picture_of f))))
      (≈_trans (apply_turned n t (picture_of f))
      (turned_by_≈ (steps_of t) (≈_sym (picture_of-frame (apply F (picture_of f)))))))

  -- and so through any list of turns
  made_through : (ts : List ℕ) (f : Frame) → made (turned_through ts f) ≡ turned_through ts (made f)
  unfolding turned_through
  made_through [] f = refl
  made_through (t ∷ ts) f = made_through ts (turn_frame t f) ∙ ap (turned_through ts) (made_turned t f)

-- finishing a turned frame is turning the finished planes
pub finished_turned : (s : Settings) (ts : List ℕ) (f : Frame) → finish_lists (turned_through ts f) s ≡ turned_planes ts f (finish_lists f s)
unfolding finish_lists turned_plane
finished_turned s ts f = λ i. planes (colour (λ p. p.red) i).samples (colour (λ p. p.green) i).samples (colour (λ p. p.blue) i).samples
  where
    part : (Planes ℕ → ℕ) → Operation ℕ ℕ
    part p w h l mosaic r c = p (finish s w h l mosaic r c)

    colour : (p : Planes ℕ → ℕ) → made {F = part p} (composed (finish_commutes s) (pointwise same same p (λ x. refl))) (turned_through ts f) ≡ turned_through ts (made {F = part p} (composed (finish_commutes s) (pointwise same same p (λ x. refl))) f)
    colour p = made_through {F = part p} (composed (finish_commutes s) (pointwise same same p (λ x. refl))) ts f
