-- `printing::Printer::rows` meets its contract: what puts the rows that are left puts them all.
use native.Mathlib.Omega.{arith}
use borrow.Author.Rules.{rules}
use Rattle.printing.proofs.Texts.{rows_step, rows_end}
use Rattle.printing.proofs.Printer.rows.Goals as goal

pub loop-k-preserved : goal.loop-k-preserved
loop-k-preserved c =
    let a = c.args in record {
      lent = search rules;
      kept = omega arith;
      short = omega arith;
      rest = λ end after p. c.loop-k.invariant.rest end after (rows_step a.width a.samples.now c.loop-k.k _ (omega arith) c.from.ensures c.decimal.ensures.put c.separator.ensures c.byte.ensures.put p);
    }

pub returns-clause-put : goal.returns-clause-put
returns-clause-put c =
    let a = c.args in
    c.loop-k.invariant.rest _ _ (rows_end a.width a.samples.now c.loop-k.k c.loop-k.self.end c.loop-k.self.out.now (omega arith))
