-- `demosaic_c::demosaic_split` meets its contract: the split call's.
use Rattle.questions.proofs.Answering.{to_number}
use Rattle.demosaic_c.proofs.demosaic_split.Goals as goal

pub returns : goal.returns
returns c = to_number c.split.ensures c.number.ensures
