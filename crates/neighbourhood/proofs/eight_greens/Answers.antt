-- `neighbourhood::eight_greens` meets its contract: the smaller of H and V chooses.
use Rattle.std.proofs.Common.{rules}
use mir.Syntax.{w32}
use Rattle.integers.proofs.Bounds.{read_is}
use Rattle.neighbourhood.specs.Inner.{line_of}
use Rattle.neighbourhood.proofs.Choosing.{eight_is}
use Rattle.neighbourhood.proofs.eight_greens.Goals as goal

pub returns : goal.returns
returns c =
    let h = c.gradient-h in
    let v = c.gradient-v in
    let x = c.along_line-across in
    let y = c.along_line-down in
    eight_is (line_of c.args.row) (line_of c.args.column) c.requires
    (read_is w32 h.type_inv h.ensures.is) (read_is w32 v.type_inv v.ensures.is) (read_is w32 x.type_inv x.ensures.is) (read_is w32 y.type_inv y.ensures.is)
    c.chosen.ensures c.chosen-2.ensures (search rules)
