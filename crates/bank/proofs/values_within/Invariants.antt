-- `bank::values_within` meets its contract: nothing is found as long as the values passed are within `most`.
use mathlib.Core.Path.{◌≡◌}
use lib.IntN.{nat_abs}
use Rattle.integers.specs.Lists.{tabulate}
use Rattle.planes.specs.Lists.{value}
use Rattle.questions.specs.Questions.{all_at_most}
use Rattle.bank.proofs.values_within.Given as goal

abbrev pub invariant-loop-value : goal.invariant-loop-value
invariant-loop-value l = l.within ≡ all_at_most (nat_abs l.most) (tabulate l.value-index (λ k. nat_abs (value l.values k)))
