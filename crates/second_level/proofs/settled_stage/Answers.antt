-- `second_level::settled_stage` meets its contract: its row, or none.
use mathlib.Core.Path.{◌≡◌, refl, sym, subst}
use Prim.Native.Nat.{ℕ}
use native.Mathlib.Omega.{arith}
use mir.Facts.{to_z-of_z as back}
use borrow.Author.Rules.{rules}
use Rattle.lines.specs.declared.Five.{Five}
use Rattle.lines.specs.Lines.{Run, Runs}
use Rattle.details.specs.Details.{Crossing}
use Rattle.rings.specs.Planes.{reach}
use Rattle.rings.specs.Rows.{row_at, five_slots}
use Rattle.rings.specs.Stages.{reached, Working}
use Rattle.rings.proofs.Stages.{row_worked, row_idle}
use Rattle.second_level.specs.SecondLevel.{settled_row}
use Rattle.second_level.proofs.SecondLevel.{rests_run, settled_laid}
use Rattle.second_level.proofs.settled_stage.Goals as goal
use Rattle.second_level.proofs.settled_stage.Goals.{After-five_slots-starts, Start}

-- ---- what is known there
module _ (q : goal.After-five_slots-starts) where
  abbrev row : ℕ
  row = q.in-Some.r

  made : (row ≡ reached 9 q.args.given.height q.args.t) × Working 9 q.args.given.height q.args.t
  made = search rules

  -- the row to settle, and the rows that it is settled from
  ready : let a = q.args in
      let g = a.given in Run reach a.own.now (row_at g row) g.width × Crossing 163577856 a.apart.now a.together.now (five_slots 5 1 g row) g.width × Runs 174762 a.rests.now (five_slots 5 1 g row) g.width
  ready =
      let a = q.args in
      let g = a.given in
      subst (λ (r : ℕ). Run reach a.own.now (row_at g r) g.width × Crossing 163577856 a.apart.now a.together.now (five_slots 5 1 g r) g.width × Runs 174762 a.rests.now (five_slots 5 1 g r) g.width) (sym made.0)
      (q.requires.run made.1)

  -- from the slots that were found
  found : let a = q.args in
      let v = q.five_slots-starts.result in Crossing 163577856 a.apart.now a.together.now v a.given.width × Runs 174762 a.rests.now v a.given.width
  found = let a = q.args in subst (λ (v : Five). Crossing 163577856 a.apart.now a.together.now v a.given.width × Runs 174762 a.rests.now v a.given.width) (sym q.five_slots-starts.ensures) (ready.1, ready.2)

pub settle_line-requires : goal.settle_line-requires
settle_line-requires c =
    let a = c.args in
    let q = (goal.at.settle_line-requires c).After-five_slots-starts in
    ((ready q).0, (found q).0, rests_run a.given a.rests.now (found q).1 a.line.now (omega (arith, c.requires.sizes.1)) c.join_low.ensures)

pub returns-in-Some : goal.returns-in-Some
returns-in-Some c =
    let a = c.args in
    let g = a.given in
    record {
      own_after = row_worked 9 g a.t (made (goal.at.returns-in-Some c).After-five_slots-starts) a.own.now (row_at g) (settled_row g a.least a.most a.own.now a.apart.now a.together.now a.rests.now)
          (settled_laid g a.rests.now (found (goal.at.returns-in-Some c).After-five_slots-starts).1 a.line.now (omega (arith, c.requires.sizes.1)) c.join_low.ensures (back c.ranges.least) (back c.ranges.most) (row (goal.at.returns-in-Some c).After-five_slots-starts) c.five_slots-starts.ensures a.own.now a.apart.now a.together.now c.settle_line.ensures);
      as_long = c.join_low.auto.out;
    }

pub returns-in_default : goal.returns-in_default
returns-in_default c =
    let a = c.args in
    let g = a.given in
    record { own_after = row_idle 9 g a.t (search rules) a.own.now (row_at g (reached 9 g.height a.t)) (settled_row g a.least a.most a.own.now a.apart.now a.together.now a.rests.now (reached 9 g.height a.t)); as_long = refl }
