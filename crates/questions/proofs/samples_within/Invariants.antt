-- `questions::samples_within` meets its contract: the samples passed are at most `top` if `most`, their largest, is.
use mathlib.Core.Path.{◌≡◌}
use Prim.Native.Nat.{◌≤◌}
use lib.Dec.{leb}
use lib.ListN.{length, get_or}
use Rattle.integers.specs.Lists.{tabulate}
use Rattle.questions.specs.Questions.{all_at_most}
use Rattle.questions.proofs.samples_within.Given as goal

abbrev pub invariant-loop-sample : goal.invariant-loop-sample
invariant-loop-sample l = (l.sample-index ≤ length l.samples) × (leb l.most l.top ≡ all_at_most l.top (tabulate l.sample-index (λ k. get_or l.samples k 0)))
