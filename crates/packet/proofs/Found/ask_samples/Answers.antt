-- `Found::ask_samples` meets its contract.
use mathlib.Core.Path.{◌≡◌, sym, ap, ◌∙◌}
use Rattle.questions.specs.Settings.{ceiling_of}
use Rattle.questions.specs.Questions.{all_at_most}
use Rattle.questions.proofs.Asking.{ask_no, ask_yes, ask_end}
use Rattle.little_endian.specs.Bytes.{samples_in}
use Rattle.packet.specs.Packet.{fields_of, samples_of}
use Rattle.packet.specs.declared.Fields.{Fields}
use Rattle.packet.proofs.Found.ask_samples.Goals as goal
use Rattle.packet.proofs.Found.ask_samples.Goals.{After-samples_within}

-- what the scan says of the store
scanned : (c : goal.After-samples_within) → let s = c.args.self.now.trailer.store.now in
    c.samples_within.result ≡ all_at_most (ceiling_of (fields_of s).settings) (samples_of s)
scanned c =
    let top = c.ceiling-top.ensures ∙ ap (λ (f : Fields). ceiling_of f.settings) c.fields-f.ensures in
    c.samples_within.ensures ∙ λ j. all_at_most (top j) (samples_in (c.samples.ensures j))

pub returns-then-samples_within : goal.returns-then-samples_within
returns-then-samples_within c = ask_yes _ _ _ _ (sym (scanned (goal.at.returns-then-samples_within c).After-samples_within) ∙ c.if-samples_within.true) ask_end

pub returns-else-samples_within : goal.returns-else-samples_within
returns-else-samples_within c = ask_no _ _ _ (sym (scanned (goal.at.returns-else-samples_within c).After-samples_within) ∙ c.if-samples_within.false)
