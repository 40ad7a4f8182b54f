-- `packet::ask_packet` meets its contract: the questions before the samples, then 9.
use mathlib.Core.Path.{◌∙◌}
use Rattle.questions.proofs.Answering.{refused-first}
use borrow.Author.Rules.{rules}
use Rattle.packet.proofs.Stores.{read-rest}
use Rattle.packet.proofs.ask_packet.Goals as goal

pub returns-in_err-packet-clause-number : goal.returns-in_err-packet-clause-number
returns-in_err-packet-clause-number c = refused-first _ _ _ _ (search rules) c.in_err-packet.ensures.number

pub returns-in_err-ask_samples-clause-number : goal.returns-in_err-ask_samples-clause-number
returns-in_err-ask_samples-clause-number c = search rules ∙ read-rest _ _ c.in_ok-packet.ensures.of_store c.in_ok-packet.ensures.number _ c.in_err-ask_samples.ensures

pub returns-clause-number : goal.returns-clause-number
returns-clause-number c = read-rest _ _ c.in_ok-packet.ensures.of_store c.in_ok-packet.ensures.number _ c.in_ok-ask_samples.ensures
