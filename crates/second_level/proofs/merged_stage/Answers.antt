-- `second_level::merged_stage` meets its contract: its row, or none. The second level is crossed, whole parts and rests, and merged along the row.
use mathlib.Core.Path.{◌≡◌, refl, sym, ◌∙◌, subst}
use Prim.Native.Nat.{ℕ, ◌+◌}
use native.Mathlib.Nat.{le_trans}
use native.Mathlib.Omega.{arith}
use lib.IntN.{◌+ℤ◌, ◌-ℤ◌}
use borrow.Author.Rules.{rules}
use Rattle.filters.specs.Bank.{Small}
use Rattle.integers.proofs.Lists.{overwrite_cong}
use Rattle.planes.specs.Lists.{value}
use Rattle.lines.specs.declared.Five.{Five}
use Rattle.lines.specs.Lines.{Run}
use Rattle.details.specs.Details.{Crossing}
use Rattle.nested_floor.specs.NestedFloor.{whole, rest}
use Rattle.nested_floor.proofs.NestedFloor.{whole_small, rest_small}
use Rattle.rings.specs.Rows.{slot, five_slots}
use Rattle.rings.specs.Stages.{reached, Working}
use Rattle.rings.proofs.Rows.{slot_inside}
use Rattle.rings.proofs.Stages.{ring_worked, ring_idle}
use Rattle.second_level.specs.SecondLevel.{apart_row, together_row, rest_row}
use Rattle.second_level.proofs.SecondLevel.{whole_run, rest_run, low_joined}
use Rattle.second_level.proofs.merged_stage.Goals as goal
use Rattle.second_level.proofs.merged_stage.Goals.{After-five_slots-starts}

-- ---- what is known there
module _ (q : goal.After-five_slots-starts) where
  abbrev row : ℕ
  row = q.in-Some.r

  made : (row ≡ reached 7 q.args.given.height q.args.t) × Working 7 q.args.given.height q.args.t
  made = search rules

  -- the rows that are merged
  ready : let a = q.args in
      let g = a.given in Crossing 805306368 a.apart2.now a.together2.now (five_slots 9 2 g row) g.width × Run 1073741824 a.apart1.now (slot 7 g.width row) g.width × Run 1073741824 a.together1.now (slot 7 g.width row) g.width
  ready =
      let a = q.args in
      let g = a.given in
      subst (λ (r : ℕ). Crossing 805306368 a.apart2.now a.together2.now (five_slots 9 2 g r) g.width × Run 1073741824 a.apart1.now (slot 7 g.width r) g.width × Run 1073741824 a.together1.now (slot 7 g.width r) g.width) (sym made.0)
      (q.requires.crossing made.1)

  -- from the slots that were found
  crossing : let a = q.args in Crossing 805306368 a.apart2.now a.together2.now q.five_slots-starts.result a.given.width
  crossing = let a = q.args in subst (λ (v : Five). Crossing 805306368 a.apart2.now a.together2.now v a.given.width) (sym q.five_slots-starts.ensures) ready.0

pub cross-requires : goal.cross-requires
cross-requires c =
    record { crossing = (crossing (goal.at.cross-requires c).After-five_slots-starts, omega (arith, c.requires.width_in_bounds.0)); takes = (λ z h. tt); small = (λ z r h e. subst Small (sym e) (le_trans (whole_small 786432 z h) (omega arith))) }

pub cross-requires-in-Some : goal.cross-requires-in-Some
cross-requires-in-Some c =
    record { crossing = (crossing (goal.at.cross-requires-in-Some c).After-five_slots-starts, omega (arith, c.requires.width_in_bounds.1)); takes = (λ z h. h); small = (λ z r h e. subst Small (sym e) (le_trans (rest_small z) (omega arith))) }

pub merge_along-requires : goal.merge_along-requires
merge_along-requires c =
    let a = c.args in
    let w = a.given.width in
    let lines = c.requires.width_in_bounds in
    let rings = c.requires.width_in_bounds_2 in
    let q = (goal.at.merge_along-requires c).After-five_slots-starts in
    let whole_is = c.cross.ensures whole (λ z r h e. e) in
    let rest_is = c.cross-in-Some.ensures rest (λ z r h e. e) in
    record {
      le_n = (
        c.requires.sizes.width_from,
        c.requires.sizes.width_to,
        omega (arith, c.cross.auto.out, lines.0),
        omega (arith, c.cross-in-Some.auto.out, lines.1),
        whole_run w a.whole.now (omega (arith, lines.0)) (crossing q) whole_is,
        rest_run w a.rest.now (omega (arith, lines.1)) a.apart2.now a.together2.now c.five_slots-starts.result rest_is,
      );
      run = ((ready q).1, (ready q).2, slot_inside _ 5 _ _ (omega arith) rings.0, slot_inside _ 5 _ _ (omega arith) rings.1, slot_inside _ 5 _ _ (omega arith) rings.2);
    }

pub returns-in-Some : goal.returns-in-Some
returns-in-Some c =
    let a = c.args in
    let g = a.given in
    let n = g.width in
    let at = slot 5 n c.in-Some.r in
    let from = slot 7 n c.in-Some.r in
    let a2 = a.apart2.now in
    let b2 = a.together2.now in
    let i = made (goal.at.returns-in-Some c).After-five_slots-starts in
    let z = c.five_slots-starts.ensures in
    let m = c.merge_along.ensures in
    let wholes = low_joined n a.whole.now (omega (arith, c.requires.width_in_bounds.0)) c.requires.sizes.width_from whole a2 b2 z (c.cross.ensures whole (λ z r h e. e)) in
    let rests = low_joined n a.rest.now (omega (arith, c.requires.width_in_bounds.1)) c.requires.sizes.width_from rest a2 b2 z (c.cross-in-Some.ensures rest (λ z r h e. e)) in
    record { apart_after = ring_worked 7 g a.t i 5 a.apart.now (apart_row g a.apart1.now a2 b2) (m.apart_after ∙ overwrite_cong a.apart.now at n _ _ (λ k j. λ y. value a.apart1.now (from + k) -ℤ wholes k y)); together_after = ring_worked 7 g a.t i 5 a.together.now (together_row g a.together1.now a2 b2) (m.together_after ∙ overwrite_cong a.together.now at n _ _ (λ k j. λ y. value a.together1.now (from + k) +ℤ wholes k y)); rests_after = ring_worked 7 g a.t i 5 a.rests.now (rest_row g a2 b2) (m.out_after ∙ overwrite_cong a.rests.now at n _ _ (λ k j. rests k)); as_long = (c.merge_along.auto.whole ∙ c.cross.auto.out, c.merge_along.auto.rest ∙ c.cross-in-Some.auto.out) }

pub returns-in_default : goal.returns-in_default
returns-in_default c =
    let a = c.args in
    let g = a.given in
    let a2 = a.apart2.now in
    let b2 = a.together2.now in
    let none : Working 7 g.height a.t → ⊥ = search rules in
    record { apart_after = ring_idle 7 g a.t 5 none a.apart.now (apart_row g a.apart1.now a2 b2); together_after = ring_idle 7 g a.t 5 none a.together.now (together_row g a.together1.now a2 b2); rests_after = ring_idle 7 g a.t 5 none a.rests.now (rest_row g a2 b2); as_long = (refl, refl) }
