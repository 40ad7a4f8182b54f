-- `little_endian::samples_within` meets its contract: the samples passed are at most `top` if `most`, their largest, is.
use mathlib.Core.Path.{◌≡◌, ap, ◌∙◌}
use Prim.Native.Nat.{ℕ, ◌/◌}
use borrow.Author.Rules.{rules}
use native.Mathlib.Omega.{arith}
use lib.ListN.{length}
use Rattle.integers.specs.Lists.{tabulate}
use Rattle.questions.specs.Questions.{all_at_most}
use Rattle.questions.proofs.Asking.{scan_none, scan_more}
use Rattle.little_endian.specs.Bytes.{sample_at, samples_in}
use Rattle.little_endian.proofs.Samples.{pair_at}
use Rattle.little_endian.proofs.samples_within.Goals as goal

pub loop-pair-init : goal.loop-pair-init
loop-pair-init c = scan_none c.args.top _

pub loop-pair-preserved : goal.loop-pair-preserved
loop-pair-preserved c =
    let bytes = c.args.bytes.now in
    let k = c.loop-pair.pair-index in
    let pairs = c.as_chunks.ensures in
    scan_more c.args.top c.loop-pair.most k (sample_at bytes) c.loop-pair.invariant (pair_at bytes k pairs.front (omega (arith, pairs.front_len)) c.from_le_bytes.ensures) (search rules)

pub returns : goal.returns
unfolding samples_in
returns c =
    let a = c.args in
    let all : c.loop-pair.pair-index ≡ length a.bytes.now / 2 = omega (arith, c.as_chunks.ensures.front_len) in
    c.loop-pair.invariant ∙ ap (λ (n : ℕ). all_at_most a.top (tabulate n (sample_at a.bytes.now))) all
