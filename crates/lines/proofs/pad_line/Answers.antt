-- `lines::pad_line` meets its contract: the one side and then the other.
use Rattle.lines.proofs.Lines.{padded_by}
use Rattle.lines.proofs.pad_line.Goals as goal

pub returns : goal.returns
returns c =
    let a = c.args in
    padded_by a.n a.pad c.requires.0 a.line.now c.requires.3 c.pad_side.ensures c.pad_side-2.ensures
