-- `demosaic_c::demosaic_join` meets its contract: the join call's.
use Rattle.questions.proofs.Answering.{to_number}
use Rattle.demosaic_c.proofs.demosaic_join.Goals as goal

pub returns : goal.returns
returns c = to_number c.join.ensures c.number.ensures
