-- `rounds::clear` meets its contract: the wide work buffer is zeroed at two levels alone.
use mathlib.Core.Path.{sym, ◌∙◌, ap}
use mathlib.Core.Bool.{Bool}
use Prim.Native.Nat.{◌*◌, ◌≤◌}
use native.Mathlib.Omega.{arith}
use lib.ListN.{length}
use borrow.Author.Rules.{rules}
use Rattle.questions.proofs.Asking.{wide_room}
use Rattle.work_buffer.specs.Buffer.{zeroed, wide_zeroed}
use Rattle.work_buffer.proofs.Buffer.{filled}
use Rattle.rounds.proofs.clear.Goals as goal
use Rattle.rounds.proofs.clear.Goals.{Then-two_levels}

-- at two levels the wide one has room
room : (c : goal.Then-two_levels) → 8 * (c.args.shape.width * c.args.shape.height) ≤ length c.args.wide_work.now
room c = wide_room _ _ _ c.requires.2 (sym c.two_levels.ensures ∙ c.if-two_levels.true)

pub slice_bounds-fill-end-then-two_levels : goal.slice_bounds-fill-end-then-two_levels
slice_bounds-fill-end-then-two_levels c = omega (arith, room c)

pub slice_bounds-fill-end-then-two_levels-2 : goal.slice_bounds-fill-end-then-two_levels-2
slice_bounds-fill-end-then-two_levels-2 c = let r = room (goal.at.slice_bounds-fill-end-then-two_levels-2 c).Then-two_levels in search rules

pub returns-then-two_levels : goal.returns-then-two_levels
unfolding zeroed wide_zeroed
returns-then-two_levels c =
    let a = c.args in
    let level = sym c.two_levels.ensures ∙ c.if-two_levels.true in (
      filled _ _ _ (omega arith) (c.fill.ensures.after (λ y e. e)),
      filled _ _ _ (room (goal.at.returns-then-two_levels c).Then-two_levels) (c.fill-then-two_levels.ensures.after (λ y e. e)) ∙ sym (ap (λ (two : Bool). wide_zeroed two a.shape.width a.shape.height a.wide_work.now) level),
    )

pub returns-else-two_levels : goal.returns-else-two_levels
unfolding zeroed wide_zeroed
returns-else-two_levels c =
    let a = c.args in
    let level = sym c.two_levels.ensures ∙ c.if-two_levels.false in
    (filled _ _ _ (omega arith) (c.fill.ensures.after (λ y e. e)), sym (ap (λ (two : Bool). wide_zeroed two a.shape.width a.shape.height a.wide_work.now) level))
