-- `merging::low_at` meets its contract: five reads, and the filter.
use mathlib.Core.Path.{◌∙◌}
use mir.Syntax.{w32}
use borrow.Author.Rules.{rules}
use Rattle.integers.proofs.Bounds.{read_is}
use Rattle.merging.proofs.Merging.{five_places_small, five_places_read}
use Rattle.merging.proofs.low_at.Goals as goal

pub low_join-requires : goal.low_join-requires
low_join-requires c =
    let small = five_places_small c.requires.0 c.args.k c.requires.1 in
    search rules

pub returns : goal.returns
returns c = read_is w32 c.low_join.type_inv c.low_join.ensures ∙ five_places_read c.requires.0 c.args.k c.requires.1
