-- `little_endian::samples_within` meets its contract: the samples passed are at most `top` if `most`, their largest, is.
use mathlib.Core.Path.{◌≡◌}
use lib.Dec.{leb}
use Rattle.integers.specs.Lists.{tabulate}
use Rattle.questions.specs.Questions.{all_at_most}
use Rattle.little_endian.specs.Bytes.{sample_at}
use Rattle.little_endian.proofs.samples_within.Given as goal

abbrev pub invariant-loop-pair : goal.invariant-loop-pair
invariant-loop-pair l = leb l.most l.top ≡ all_at_most l.top (tabulate l.pair-index (sample_at l.bytes))
