-- `printing::Printer::decimal` meets its contract.
use native.Mathlib.Omega.{arith}
use lib.ListN.{length-take, length-drop}
use Rattle.printing.proofs.Texts.{decimal-put}
use Rattle.printing.proofs.Printer.decimal.Goals as goal

pub returns-clause-put : goal.returns-clause-put
returns-clause-put c =
    let a = c.args in
    let few = c.digit_count.ensures.few in
    decimal-put a.self.now.end a.n c.digit_count.result _ _ a.self.now.out.now c.digit_count.ensures.count c.put_digits.ensures
    (simp (length-take, length-drop) (omega (arith, few, c.requires)))
    (omega arith)
    (omega (arith, few, c.requires))
