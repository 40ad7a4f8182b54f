-- `printing::Printer::bytes` meets its contract.
use native.Mathlib.Omega.{arith}
use Rattle.printing.proofs.Putting.{put_part}
use Rattle.printing.proofs.Printer.bytes.Goals as goal

pub returns-clause-put : goal.returns-clause-put
returns-clause-put c =
    let a = c.args in
    put_part a.self.now.end _ a.self.now.out.now a.bytes.now (omega arith) c.requires c.copy_from_slice.ensures.after
