-- A round commutes with every turn, and so do n rounds. Assumes nothing.
use mathlib.Core.Path.{◌≡◌, refl, sym}
use mathlib.Core.Bool.{Bool, true, false, cond, not, ◌&&◌}
use Prim.Native.Nat.{ℕ, zero, suc, ◌-◌, ◌%◌}
use lib.Dec.{eqb}
use lib.IntN.{ℤ, pos}
use Rattle.integers.specs.Numbers.{clipped}
use Rattle.planes.specs.Layout.{red_row, red_column, on_red_row, on_red_column, two_levels}
use Rattle.planes.specs.Planes.{Planes, planes}
use Rattle.planes.proofs.Layouts.{row_lt, column_lt}
use Rattle.planes.proofs.Places.{other_parity}
use Rattle.questions.specs.Settings.{ceiling_of, rounds_of}
use Rattle.questions.specs.declared.Settings.{Settings}
use Rattle.turns.specs.Operations.{Operation}
use Rattle.turns.specs.Pictures.{Picture, turned, ◌≈◌}
use Rattle.turns.proofs.Commuting.{Commutes, same, composed, paired, pointwise, by_parities, by_level, commutes_by, apply, apply_turned}
use Rattle.projection.specs.Projection.{Limits, limits_of}
use Rattle.projection.proofs.Projection.{projected_commutes}
use Rattle.projection.proofs.Levels.{two_level_projected_commutes}
use Rattle.working_plane.specs.Rounds.{Round, least_kept, most_kept, put_observed, round, working_plane, rewritten}
use Rattle.working_plane.proofs.Repeated.{round-projected}
use Rattle.rounds.specs.Rounds.{rounds}

-- ---- a colour
-- By its parities in each layout, and by which places are its: whether their row, and their column, have red's parity.
pub record Coloured : Type 0 where
  pub row : ℕ → ℕ
  pub column : ℕ → ℕ
  pub own : Bool → Bool → Bool
  pub is : (l r c : ℕ) → (eqb (r % 2) (row l) && eqb (c % 2) (column l)) ≡ own (on_red_row l r) (on_red_column l c)
  pub exchange : (a b : Bool) → own b a ≡ own a b

and_exchange : (a b : Bool) → (b && a) ≡ (a && b)
and_exchange true true = refl
and_exchange true false = refl
and_exchange false true = refl
and_exchange false false = refl

pub reds : Coloured
reds = record {
  row = red_row;
  column = red_column;
  own = ◌&&◌;
  is = λ l r c. unfold on_red_row on_red_column in refl;
  exchange = and_exchange;
}

-- blue has the other parity in row and in column
pub blues : Coloured
blues = record {
  row = λ l. 1 - red_row l;
  column = λ l. 1 - red_column l;
  own = λ a b. not a && not b;
  is = λ l r c. unfold on_red_row on_red_column in (λ m. other_parity r (red_row l) (row_lt l) m && other_parity c (red_column l) (column_lt l) m);
  exchange = λ a b. and_exchange (not a) (not b);
}

-- ---- its rounds; a place has its mosaic sample, its green, and its value in the working plane
module _ (top : ℕ) (limits : Limits) (k : Coloured) where
  -- the colour's round in a frame of width w, height h and layout l
  abbrev pub round_in : ℕ → ℕ → ℕ → (ℕ → ℕ → ℕ) → (ℕ → ℕ → ℕ) → Round
  round_in w h l mosaic green = record { two = two_levels l; top = top; limits = limits; width = w; height = h; row = k.row l; column = k.column l; mosaic = mosaic; green = green }

  -- one
  abbrev pub round_operation : Operation (ℕ × ℕ × ℤ) ℤ
  round_operation w h l p = round (round_in w h l (λ i j. (p i j).0) (λ i j. (p i j).1)) (λ i j. (p i j).2)

  -- Any operation on green and the working plane that commutes with every turn still does with the observed samples put in after it.
  pub observed_commutes : {F : Operation (ℤ × ℤ) ℤ} → Commutes same same F
      → Commutes {A = ℕ × ℕ × ℤ} same same (λ w h l p. put_observed (round_in w h l (λ i j. (p i j).0) (λ i j. (p i j).1)) (F w h l (λ i j. (pos (p i j).1, (p i j).2))))
  unfolding put_observed
  observed_commutes {F} f =
      commutes_by {F = λ w h l p r c. cond (k.own (on_red_row l r) (on_red_column l c)) (pos (p r c).0) (F w h l (λ i j. (pos (p i j).1, (p i j).2)) r c)}
      (λ w h l p r c. λ m. cond (sym (k.is l r c) m) (pos (p r c).0) (F w h l (λ i j. (pos (p i j).1, (p i j).2)) r c))
      (composed
      (paired {B = ℕ} {C = ℤ} (pointwise {A = ℕ × ℕ × ℤ} same same (λ x. x.0) (λ x. refl))
      (composed (pointwise {A = ℕ × ℕ × ℤ} {B = ℤ × ℤ} same same (λ x. (pos x.1, x.2)) (λ x. refl)) f))
      (by_parities {A = ℕ × ℤ} same same (λ a b x. cond (k.own a b) (pos x.0) x.1) (λ a b x. λ m. cond (k.exchange a b m) (pos x.0) x.1)))

  -- so a round does, whose operation is the projection at the layout's level
  pub round_commutes : Commutes same same round_operation
  round_commutes =
      commutes_by (λ w h l p r c. sym (round-projected (round_in w h l (λ i j. (p i j).0) (λ i j. (p i j).1)) (λ i j. (p i j).2) r c))
      (observed_commutes (by_level (two_level_projected_commutes limits (least_kept top) (most_kept top)) (projected_commutes limits.first (least_kept top) (most_kept top))))

  -- n
  abbrev pub n_rounds : ℕ → Operation (ℕ × ℕ × ℤ) ℤ
  n_rounds n w h l p = working_plane n (round_in w h l (λ i j. (p i j).0) (λ i j. (p i j).1)) (λ i j. (p i j).2)

  pub working_plane_commute : (n : ℕ) → Commutes same same (n_rounds n)
  unfolding working_plane
  working_plane_commute zero = pointwise {A = ℕ × ℕ × ℤ} same same (λ x. x.2) (λ x. refl)
  working_plane_commute (suc n) =
      composed {F = λ w h l p r c. ((p r c).0, (p r c).1, n_rounds n w h l p r c)} {G = round_operation}
      (composed {B = (ℕ × ℕ) × ℤ} {F = λ w h l p r c. (((p r c).0, (p r c).1), n_rounds n w h l p r c)}
      (paired (pointwise {A = ℕ × ℕ × ℤ} {B = ℕ × ℕ} same same (λ x. (x.0, x.1)) (λ x. refl)) (working_plane_commute n))
      (pointwise {B = ℕ × ℕ × ℤ} same same (λ x. (x.0.0, x.0.1, x.1)) (λ x. refl)))
      round_commutes

  -- a colour's samples after n rounds, from what a place has of the mosaic, of green and of the colour
  rewritten_commutes : (n : ℕ) (plane : Planes ℕ → ℕ)
      → Commutes {A = ℕ × Planes ℕ} same same (λ w h l p. rewritten n (round_in w h l (λ i j. (p i j).0) (λ i j. (p i j).1.green)) (λ i j. plane (p i j).1))
  unfolding rewritten
  rewritten_commutes n plane =
      composed (pointwise {A = ℕ × Planes ℕ} {B = ℕ × ℕ × ℤ} same same (λ x. (x.0, x.1.green, pos (plane x.1))) (λ x. refl))
      (composed (working_plane_commute n) (pointwise same same (clipped top) (λ z. refl)))

-- ---- the three planes
-- the rounds see only what is inside, and commute with every turn
pub rounds_commute : (s : Settings) → Commutes same same (rounds s)
unfolding rounds reds blues
rounds_commute s =
    composed {B = (ℕ × ℕ) × ℕ}
    (paired (paired {B = ℕ} {C = ℕ} (rewritten_commutes (ceiling_of s) (limits_of s.threshold) reds (rounds_of s) (λ x. x.red)) (pointwise {A = ℕ × Planes ℕ} same same (λ x. x.1.green) (λ x. refl)))
    (rewritten_commutes (ceiling_of s) (limits_of s.threshold) blues (rounds_of s) (λ x. x.blue)))
    (pointwise same same (λ x. planes x.0.0 x.0.1 x.1) (λ x. refl))

-- the rounds of a turned picture are the rounds' planes turned
pub rounds-turned : (s : Settings) (t : ℕ) (p : Picture (ℕ × Planes ℕ)) → apply (rounds s) (turned t p) ≈ turned t (apply (rounds s) p)
rounds-turned s = apply_turned (rounds_commute s)
