-- `little_endian::two` meets its contract.
use mathlib.Core.Path.{◌∙◌}
use native.Mathlib.Omega.{arith}
use Rattle.little_endian.specs.Bytes.{number_at}
use Rattle.little_endian.proofs.Bytes.{number_found}
use Rattle.little_endian.proofs.two.Goals as goal

pub returns : goal.returns
unfolding number_at
returns c = c.from_le_bytes.ensures ∙ omega arith ∙ number_found 2 c.args.bytes.now c.args.at c.first_chunk.ensures.cases c.unwrap.ensures
