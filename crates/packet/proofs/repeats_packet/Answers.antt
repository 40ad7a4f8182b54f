-- `packet::repeats_packet` meets its contract.
use Rattle.std.proofs.Common.{rules, ◌≡◌, refl, ap, ◌∙◌, Bool, not, true, false, length, sym, Ok}
use Rattle.questions.specs.Questions.{ask}
use Rattle.questions.proofs.Asking.{ask_then}
use Rattle.questions.proofs.Answering.{refused-first, answer_no, answer_yes}
use Rattle.packet.specs.Packet.{fields_of, sample_part, same_fields}
use Rattle.packet.specs.Calls.{repeat_questions}
use Rattle.packet.proofs.Stores.{sound}
use Rattle.packet.proofs.Repeating.{fields_compared, other-fields, parts_alike, samples_decide}
use Rattle.packet.proofs.repeats_packet.Goals as goal
use Rattle.packet.proofs.repeats_packet.Goals.{In_ok-second, After-ne, After-samples-2}

pub returns-in_err-first : goal.returns-in_err-first
returns-in_err-first c = answer_no _ (search rules) (refused-first _ _ _ _ refl c.in_err-first.ensures.number)

pub returns-in_err-second : goal.returns-in_err-second
returns-in_err-second c = answer_no _ (search rules) (ask_then _ _ _ _ c.in_ok-first.ensures.number tt refl c.in_err-second.ensures.number)

yes : (c : goal.In_ok-second) → 0 ≡ ask (repeat_questions c.args.a.now c.args.b.now)
yes c = ask_then _ _ _ _ c.in_ok-first.ensures.number tt refl c.in_ok-second.ensures.number

-- what the comparison says of the stores' fields
compared : (c : goal.After-ne) (v : Bool) → c.ne.result ≡ v → let a = c.args in same_fields (fields_of a.a.now) (fields_of a.b.now) ≡ not v
compared c v e = fields_compared _ _ _ _ (c.fields-f.ensures ∙ ap fields_of c.in_ok-first.ensures.of_store) (c.fields-g.ensures ∙ ap fields_of c.in_ok-second.ensures.of_store) _ c.ne.ensures v e

pub returns-then-ne : goal.returns-then-ne
returns-then-ne c = answer_yes (yes (goal.at.returns-then-ne c).In_ok-second) (ap (λ (b : Bool). Ok b) (other-fields _ _ (compared (goal.at.returns-then-ne c).After-ne true c.if-ne.true)))

-- the two parts
part_a : (c : goal.After-samples-2) → c.samples.result.now ≡ sample_part c.args.a.now
part_a c = c.samples.ensures ∙ ap sample_part c.in_ok-first.ensures.of_store

part_b : (c : goal.After-samples-2) → c.samples-2.result.now ≡ sample_part c.args.b.now
part_b c = c.samples-2.ensures ∙ ap sample_part c.in_ok-second.ensures.of_store

pub same_samples-requires : goal.same_samples-requires
same_samples-requires c =
    let at = goal.at.same_samples-requires c in
    ap length (part_a at.After-samples-2) ∙ parts_alike _ _ (compared at.After-ne false c.if-ne.false) (sound _ c.in_ok-first.ensures.number) (sound _ c.in_ok-second.ensures.number) ∙ sym (ap length (part_b at.After-samples-2))

pub returns : goal.returns
returns c =
    let at = goal.at.returns c in
    answer_yes (yes at.In_ok-second)
    (ap (λ (b : Bool). Ok b) (c.same_samples.ensures ∙ samples_decide _ _ (compared at.After-ne false c.if-ne.false) _ _ (part_a at.After-samples-2) (part_b at.After-samples-2)))
