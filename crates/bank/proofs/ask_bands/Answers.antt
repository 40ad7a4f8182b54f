-- `bank::ask_bands` meets its contract: band after band.
use mathlib.Core.Path.{sym, ◌≡◌, ◌∙◌, ap}
use native.Mathlib.Omega.{arith}
use lib.IntN.{ℤ, nat_abs}
use mir.Syntax.{w32}
use mir.Val.{to_z, of_z}
use mir.Facts.{to_z-of_z as back}
use Rattle.questions.specs.Questions.{ask}
use Rattle.bank.specs.Calls.{bands, values_questions}
use Rattle.bank.proofs.Calls.{are_within, each_no, each_yes, each_end}
use Rattle.bank.proofs.ask_bands.Goals as goal
use Rattle.bank.proofs.ask_bands.Goals.{Start}

-- of `most` as it was given
same : (s : goal.Start) → let a = s.args in
    ask (values_questions (nat_abs (to_z w32 (of_z w32 a.most))) (bands a.band1.now a.band2.now a.band3.now a.band4.now)) ≡ ask (values_questions (nat_abs a.most) (bands a.band1.now a.band2.now a.band3.now a.band4.now))
same s = let a = s.args in ap (λ (z : ℤ). ask (values_questions (nat_abs z) (bands a.band1.now a.band2.now a.band3.now a.band4.now))) (back s.ranges.most)

pub returns-then-not-values_within : goal.returns-then-not-values_within
returns-then-not-values_within c =
    each_no 15 (are_within (to_z w32 (of_z w32 c.args.most))) _ c.loop-values.values-index _ (omega arith) (sym c.values_within.ensures ∙ c.if-not-values_within.true) ∙ c.loop-values.invariant ∙ same (goal.at.returns-then-not-values_within c).Start

pub loop-values-preserved : goal.loop-values-preserved
loop-values-preserved c =
    each_yes 15 (are_within (to_z w32 (of_z w32 c.args.most))) _ c.loop-values.values-index _ (omega arith) (sym c.values_within.ensures ∙ c.if-not-values_within.false) ∙ c.loop-values.invariant

pub returns : goal.returns
returns c = each_end 15 (are_within (to_z w32 (of_z w32 c.args.most))) _ c.loop-values.values-index (omega arith) ∙ c.loop-values.invariant ∙ same (goal.at.returns c).Start
