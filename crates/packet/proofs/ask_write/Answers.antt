-- `packet::ask_write` meets its contract: the fields' questions, then 6, 9 and 14.
use mathlib.Core.Path.{◌≡◌, sym, ap, ◌∙◌, refl}
use mathlib.Core.Bool.{true}
use Prim.Native.Nat.{ℕ}
use native.Mathlib.Omega.{arith}
use Rattle.questions.specs.Settings.{ceiling_of}
use Rattle.questions.specs.Questions.{all_at_most}
use Rattle.questions.proofs.Asking.{asking, ask_then, all_yes}
use Rattle.packet.specs.Calls.{fields_questions}
use Rattle.questions.proofs.Answering.{refused-first}
use borrow.Author.Rules.{rules}
use Rattle.packet.proofs.Stores.{allowed}
use Rattle.packet.proofs.ask_write.Goals as goal
use Rattle.packet.proofs.ask_write.Goals.{After-samples_within-within}

pub returns-in_err-ask_frame : goal.returns-in_err-ask_frame
returns-in_err-ask_frame c = refused-first _ _ _ _ (search rules) c.in_err-ask_frame.ensures

pub overflow_mul-count : goal.overflow_mul-count
overflow_mul-count c =
    let f = c.args.f in
    record { fits = omega (arith, (allowed f (all_yes (fields_questions f) tt _ c.in_ok-ask_frame.ensures refl)).shape.sizes.area) }

pub returns-then-samples-count : goal.returns-then-samples-count
returns-then-samples-count c = ask_then _ _ _ _ c.in_ok-ask_frame.ensures tt refl (search asking)

-- what the scan says of the samples
scanned : (c : goal.After-samples_within-within)
    → let a = c.args in c.samples_within-within.result ≡ all_at_most (ceiling_of a.f.settings) a.samples.now
scanned c =
    let a = c.args in
    c.samples_within-within.ensures ∙ ap (λ (top : ℕ). all_at_most top a.samples.now) c.ceiling-top.ensures

pub returns-then-not-within : goal.returns-then-not-within
returns-then-not-within c =
    let above = sym (scanned (goal.at.returns-then-not-within c).After-samples_within-within) ∙ c.if-not-within.true in
    ask_then _ _ _ _ c.in_ok-ask_frame.ensures tt refl (search asking)

pub returns-then-room-length : goal.returns-then-room-length
returns-then-room-length c =
    let scan = scanned (goal.at.returns-then-room-length c).After-samples_within-within in
    let within : all_at_most (ceiling_of c.args.f.settings) c.args.samples.now ≡ true = cc in
    ask_then _ _ _ _ c.in_ok-ask_frame.ensures tt refl (search asking)

pub returns : goal.returns
returns c =
    let within = sym (scanned (goal.at.returns c).After-samples_within-within) ∙ c.if-not-within.false in
    ask_then _ _ _ _ c.in_ok-ask_frame.ensures tt refl (search asking)
