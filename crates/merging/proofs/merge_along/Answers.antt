-- `merging::merge_along` meets its contract: both lines are padded; the one is merged, the other goes through the filter.
use mathlib.Core.Path.{refl}
use borrow.Author.Rules.{rules}
use Rattle.lines.proofs.Lines.{five_runs}
use Rattle.merging.proofs.Merging.{away_laid, added_laid, low_laid}
use Rattle.merging.proofs.merge_along.Goals as goal

pub add_low-requires : goal.add_low-requires
add_low-requires c =
    let runs = five_runs 1 c.requires.le_n.0 refl c.args.whole.now c.requires.le_n.2 c.pad_line.ensures c.requires.le_n.4 in
    search rules

pub join_low-requires : goal.join_low-requires
join_low-requires c =
    let runs = five_runs 1 c.requires.le_n.0 refl c.args.whole.now c.requires.le_n.2 c.pad_line.ensures c.requires.le_n.4 in
    let rests = five_runs 1 c.requires.le_n.0 refl c.args.rest.now c.requires.le_n.3 c.pad_line-2.ensures c.requires.le_n.5 in
    search rules

pub returns : goal.returns
returns c =
    let a = c.args in
    let e = c.pad_line.ensures in
    record { whole_after = (e, c.pad_line-2.ensures); apart_after = away_laid c.requires.le_n.0 a.whole.now c.requires.le_n.2 e a.apart1.now a.from a.apart.now a.at c.add_low.ensures.apart_after; together_after = added_laid c.requires.le_n.0 a.whole.now c.requires.le_n.2 e a.together1.now a.from a.together.now a.at c.add_low.ensures.together_after; out_after = low_laid c.requires.le_n.0 a.rest.now c.requires.le_n.3 c.pad_line-2.ensures c.spaced.ensures a.out.now a.at c.join_low.ensures }
