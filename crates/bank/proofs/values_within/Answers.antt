-- `bank::values_within` meets its contract: `within` says whether the values passed are.
use mathlib.Core.Path.{◌≡◌, sym, ◌∙◌, subst}
use native.Mathlib.Omega.{arith}
use lib.Dec.{leb}
use lib.IntN.{nat_abs}
use lib.ListN.{length}
use mir.Syntax.{w32}
use mir.Val.{to_z, of_z}
use mir.Facts.{to_z-of_z as back}
use borrow.Author.Rules.{rules}
use Rattle.planes.specs.Lists.{value}
use Rattle.questions.specs.Questions.{all_at_most}
use Rattle.questions.proofs.Asking.{within_none, within_more}
use Rattle.filters.specs.Bank.{Distance}
use Rattle.bank.proofs.Calls.{magnitudes}
use Rattle.bank.proofs.values_within.Goals as goal

pub loop-value-init : goal.loop-value-init
loop-value-init c = within_none _ _

pub is_within-within-requires : goal.is_within-within-requires
is_within-within-requires c = subst Distance (sym (back c.ranges.most)) c.requires

pub loop-value-preserved : goal.loop-value-preserved
loop-value-preserved c =
    let x = value c.args.values.now c.loop-value.value-index in
    let same : to_z w32 (of_z w32 x) ≡ x = search rules in
    within_more _ c.loop-value.value-index (λ k. nat_abs (value c.args.values.now k)) c.loop-value.invariant (c.is_within-within.ensures ∙ (λ i. leb (nat_abs (same i)) (nat_abs (to_z w32 (of_z w32 c.args.most)))))

pub returns : goal.returns
returns c =
    let v = c.args.values.now in
    let all : length v ≡ c.loop-value.value-index = omega arith in
    c.loop-value.invariant ∙ (λ i. all_at_most (nat_abs (back c.ranges.most i)) (sym (magnitudes v c.loop-value.value-index all) i))
