-- `questions::samples_within` meets its contract: the samples passed are at most `top` if `most`, their largest, is.
use mathlib.Core.Path.{◌≡◌, refl, ap, ◌∙◌}
use borrow.Author.Rules.{rules}
use native.Mathlib.Omega.{arith}
use lib.ListN.{length, get_or}
use Rattle.integers.proofs.Lists.{tabulate-get_or}
use Rattle.questions.specs.Questions.{all_at_most}
use Rattle.questions.proofs.Asking.{scan_none, scan_more}
use Rattle.questions.proofs.samples_within.Goals as goal

pub loop-sample-init : goal.loop-sample-init
loop-sample-init c = (omega arith, scan_none c.args.top _)

pub loop-sample-preserved : goal.loop-sample-preserved
loop-sample-preserved c =
    let a = c.args in
    (omega arith, scan_more a.top c.loop-sample.most c.loop-sample.sample-index (λ k. get_or a.samples.now k 0) c.loop-sample.invariant.1 refl (search rules))

pub returns : goal.returns
returns c =
    let a = c.args in
    let all : length a.samples.now ≡ c.loop-sample.sample-index = omega arith in
    c.loop-sample.invariant.1 ∙ ap (all_at_most a.top) (tabulate-get_or a.samples.now c.loop-sample.sample-index 0 all)
