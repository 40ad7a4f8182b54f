-- `program::program_refusal` meets its contract.
use Rattle.std.proofs.Common.{◌∙◌}
use Rattle.program.proofs.program_refusal.Goals as goal

pub returns : goal.returns
returns c = c.number.ensures ∙ c.read_input.ensures.number
