-- `details::crossed_at` meets its contract: five reads, and the filter.
use mathlib.Core.Path.{◌∙◌}
use lib.Dec.{lit<}
use mir.Syntax.{w32}
use Rattle.integers.proofs.Bounds.{read_is}
use Rattle.details.proofs.Details.{crossing_read}
use Rattle.details.proofs.crossed_at.Goals as goal

pub returns : goal.returns
returns c = read_is w32 c.high_join.type_inv c.high_join.ensures ∙ crossing_read c.requires.0 c.args.k c.requires.1 (lit< tt)
