-- `printing::put_refusal` meets its contract: a refusal is the three parts, one after another.
use native.Mathlib.Omega.{arith}
use borrow.Author.Rules.{rules}
use Rattle.printing.specs.Text.{refusal}
use Rattle.printing.proofs.Putting.{put_then, put_front}
use Rattle.printing.proofs.Texts.{length-refusal}
use Rattle.printing.proofs.put_refusal.Goals as goal

pub returns : goal.returns
unfolding refusal
returns c =
    put_front
    (refusal c.args.number)
    (omega (arith, length-refusal c.args.number, c.requires))
    (put_then c.bytes.ensures.put (put_then c.decimal.ensures.put c.byte.ensures.put))
    (search rules)
