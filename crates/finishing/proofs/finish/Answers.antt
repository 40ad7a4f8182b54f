-- `finishing::finish` meets its contract: the call without a tally, and the next tally.
use Rattle.std.proofs.Common.{◌∙◌, ap, ℕ}
use Rattle.questions.specs.Settings.{framed}
use Rattle.questions.specs.Lent.{lent}
use Rattle.tally.specs.Tally.{next_tally}
use Rattle.finishing.specs.Calls.{finish_given}
use Rattle.finishing.proofs.Calls.{counted}
use Rattle.finishing.proofs.finish.Goals as goal

pub returns : goal.returns
returns c =
    let a = c.args in
    counted (finish_given (framed a.shape a.mosaic.now) a.settings (lent a.red.now a.green.now a.blue.now a.work.now a.wide_work.now) a.tally)
    c.finish_frame-answer.result c.finish_frame-answer.ensures (c.from-rounds.ensures ∙ c.rounds_to_run.ensures)
    (c.next-next.ensures ∙ ap (λ (n : ℕ). next_tally n c.from-rounds.result a.tally) c.number.ensures)
