-- `lines::join_lines` meets its contract: the low filter's sums are laid down, and the high filter's added.
use Rattle.lines.proofs.Lines.{run_first, joined_laid}
use Rattle.lines.proofs.join_lines.Goals as goal

pub add_high-requires : goal.add_high-requires
add_high-requires c = record { runs = c.requires.runs.1; run = run_first c.requires.runs.0 c.args.out.now c.args.at c.requires.n_in_bounds c.join_low.ensures }

pub returns : goal.returns
returns c = joined_laid c.requires.runs.0 c.args.out.now c.args.at c.requires.n_in_bounds c.join_low.ensures c.args.high.now c.add_high.ensures
