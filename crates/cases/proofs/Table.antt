-- Every case holds, by computation from the definitions that the contracts cite. Assumes nothing.
use mathlib.Core.Path.{◌≡◌, refl, ◌∙◌, ap}
use mathlib.Core.Bool.{false, xor}
use mathlib.Core.List.{List, [], ◌∷◌, ◌++◌, map}
use Prim.Native.Nat.{ℕ, zero, suc}
use native.Mathlib.Omega.{arith}
use lib.IntN.{ℤ, pos, neg_ℤ}
use lib.ListN.{take}
use Rattle.border.specs.Border.{reflect, until_inside}
use Rattle.planes.specs.Planes.{listing, plane_of, Agree}
use Rattle.planes.specs.Layout.{red_row, red_column, two_levels}
use Rattle.planes.proofs.Planes.{listing_agree}
use Rattle.turns.specs.Pictures.{then_another, followed_by, steps_of, number_of_steps}
use Rattle.integers.specs.Lists.{tabulate}
use Rattle.integers.specs.Numbers.{whole_divided, rounded, clamp, clipped}
use Rattle.filters.specs.Bank.{split, join, filtered, along_rows, along_columns, along, tap, weighted, low_split, high_split, low_join, high_join}
use Rattle.bank.specs.Calls.{split_lists, join_list}
use Rattle.neighbourhood.specs.Place.{around, greens, two_away, gradient, along_line, along_both, eight_greens, hamilton_adams}
use Rattle.projection.specs.Projection.{held, hold_details, held_sum, limits_of}
use Rattle.questions.specs.Settings.{ceiling, settings, ceiling_of, rounds_of}
use Rattle.working_plane.specs.Rounds.{Round, least_kept, most_kept, kept, one_level, put_observed, round, working_plane, rewritten}
use Rattle.working_plane.specs.Colours.{round_of, rewritten_list}
use Rattle.working_plane.specs.declared.Colour.{Colour}
use Rattle.working_plane.proofs.Repeated.{round_agrees}
use Rattle.rounds.specs.Rounds.{rounds}
use Rattle.rounds.specs.Calls.{rounds_lists}
use Rattle.rounds.specs.Colours.{red_of, blue_of}
use Rattle.cases.specs.Table.{Case, green_of, after_rounds, table}

-- ---- two rounds of 2 by 2
-- a plane's four places
four : (p q : ℕ → ℕ → ℤ) → p 0 0 ≡ q 0 0 → p 0 1 ≡ q 0 1 → p 1 0 ≡ q 1 0 → p 1 1 ≡ q 1 1 → Agree 2 2 p q
four p q e f g h zero zero hr hc = e
four p q e f g h zero (suc zero) hr hc = f
four p q e f g h (suc zero) zero hr hc = g
four p q e f g h (suc zero) (suc zero) hr hc = h
four p q e f g h zero (suc (suc c)) hr hc = absurd (omega arith)
four p q e f g h (suc zero) (suc (suc c)) hr hc = absurd (omega arith)
four p q e f g h (suc (suc r)) c hr hc = absurd (omega arith)

-- the case's mosaic and green
abbrev mosaic : List ℕ
mosaic = 100 ∷ 60 ∷ 60 ∷ 5 ∷ []

abbrev green : List ℕ
green = 40 ∷ 60 ∷ 60 ∷ 40 ∷ []

-- A colour whose samples are all x. A round reads each place of a plane many times: so the working plane after the first round stands in a list, and the
-- second is computed from that.
module _ (k : Colour) (x : ℕ) where
  abbrev K : Round
  K = round_of false k ceiling mosaic green

  abbrev Given : List ℕ
  Given = x ∷ x ∷ x ∷ x ∷ []

  abbrev First : List ℤ → Type 0
  First first = Agree k.width k.height (working_plane 1 K (λ r c. pos (plane_of 0 k.width Given r c))) (plane_of (pos 0) k.width first)

  once : (first : List ℤ) → First first → rewritten_list false k ceiling 1 mosaic green Given ≡ listing k.width k.height (λ r c. clipped ceiling (plane_of (pos 0) k.width first r c))
  unfolding rewritten
  once first e = listing_agree k.width k.height (λ r c hr hc. ap (clipped ceiling) (e r c hr hc))

  twice : (first : List ℤ) → First first
      → rewritten_list false k ceiling 2 mosaic green Given ≡ listing k.width k.height (λ r c. clipped ceiling (round K (plane_of (pos 0) k.width first) r c))
  unfolding rewritten working_plane
  twice first e = listing_agree k.width k.height (λ r c hr hc. ap (clipped ceiling) (round_agrees K _ _ e r c hr hc))

-- red and blue
abbrev reds : Colour
reds = red_of 2 2 0 (settings 1 0)

abbrev blues : Colour
blues = blue_of 2 2 0 (settings 1 0)

-- after the first round blue is −5 where green is dark
abbrev red_first : List ℤ
red_first = pos 100 ∷ pos 110 ∷ pos 110 ∷ pos 90 ∷ []

abbrev blue_first : List ℤ
blue_first = neg_ℤ (pos 5) ∷ pos 15 ∷ pos 15 ∷ pos 5 ∷ []

first-rounds : First reds 100 red_first × First blues 5 blue_first
unfolding reflect until_inside plane_of tabulate split join filtered along_rows along_columns along tap weighted low_split high_split low_join high_join rounded whole_divided clamp red_row red_column held hold_details held_sum limits_of least_kept most_kept kept one_level put_observed round working_plane
first-rounds = (four _ _ refl refl refl refl, four _ _ refl refl refl refl)

second_round : (listing 2 2 (λ r c. clipped ceiling (round (K reds 100) (plane_of (pos 0) 2 red_first) r c)) ≡ 100 ∷ 113 ∷ 113 ∷ 93 ∷ [])
    × (listing 2 2 (λ r c. clipped ceiling (round (K blues 5) (plane_of (pos 0) 2 blue_first) r c)) ≡ 0 ∷ 18 ∷ 18 ∷ 5 ∷ [])
unfolding reflect until_inside listing plane_of tabulate split join filtered along_rows along_columns along tap weighted low_split high_split low_join high_join rounded whole_divided clamp red_row red_column held hold_details held_sum limits_of least_kept most_kept kept one_level put_observed round
second_round = (refl, refl)

one_round : after_rounds 1 ≡ (pos 100 ∷ pos 110 ∷ pos 110 ∷ pos 90 ∷ []) ++ (pos 0 ∷ pos 15 ∷ pos 15 ∷ pos 5 ∷ [])
unfolding after_rounds rounds_lists rounds ceiling_of rounds_of two_levels listing tabulate plane_of clamp
one_round = λ m. map pos (once reds 100 red_first first-rounds.0 m ++ once blues 5 blue_first first-rounds.1 m)

two_rounds : after_rounds 2 ≡ (pos 100 ∷ pos 113 ∷ pos 113 ∷ pos 93 ∷ []) ++ (pos 0 ∷ pos 18 ∷ pos 18 ∷ pos 5 ∷ [])
unfolding after_rounds rounds_lists rounds ceiling_of rounds_of two_levels
two_rounds = λ m. map pos ((twice reds 100 red_first first-rounds.0 ∙ second_round.0) m ++ (twice blues 5 blue_first first-rounds.1 ∙ second_round.1) m)

-- ---- all of them
pub all_hold : map (λ (x : Case). x.computed) table ≡ map (λ (x : Case). x.stated) table
unfolding table reflect until_inside then_another followed_by steps_of number_of_steps xor split_lists join_list listing plane_of tabulate split join filtered along_rows along_columns along tap weighted low_split high_split low_join high_join green_of around greens two_away gradient along_line along_both eight_greens hamilton_adams rounded whole_divided clamp held limits_of
all_hold = λ m. map (λ (x : Case). x.stated) (take 10 table) ++ (one_round m ∷ two_rounds m ∷ [])
