-- `packet::ask_mosaic` meets its contract: the questions before the samples, then 7 and 9.
use mathlib.Core.Path.{◌≡◌, sym, ap, ◌∙◌, subst}
use mathlib.Core.List.{[], ◌∷◌}
use Prim.Native.Nat.{ℕ}
use native.Mathlib.Omega.{arith}
use borrow.Author.Tests.{eq-eqb}
use borrow.Author.Rules.{rules}
use Rattle.questions.specs.Questions.{ask}
use Rattle.questions.proofs.Asking.{asking, ask_yes}
use Rattle.questions.proofs.Answering.{refused-first}
use Rattle.packet.specs.Packet.{fields_of, samples_of}
use Rattle.packet.specs.Calls.{ceiling_question, mosaic_questions}
use Rattle.packet.specs.declared.Fields.{Fields}
use Rattle.packet.proofs.Stores.{Allowed, located, mosaic-rest}
use Rattle.packet.proofs.ask_mosaic.Goals as goal
use Rattle.packet.proofs.ask_mosaic.Goals.{Else-room-count}

pub returns-in_err-packet-clause-number : goal.returns-in_err-packet-clause-number
returns-in_err-packet-clause-number c = refused-first _ _ _ _ (search rules) c.in_err-packet.ensures.number

pub overflow_mul-count : goal.overflow_mul-count
overflow_mul-count c =
    let k = subst (λ (g : Fields). Allowed g) (sym c.fields-f.ensures) (located _ (sym c.in_ok-packet.packet.asked)).fields in
    record { fits = omega (arith, k.shape.sizes.area) }

pub returns-then-room-count-clause-number : goal.returns-then-room-count-clause-number
returns-then-room-count-clause-number c = mosaic-rest _ _ c.in_ok-packet.ensures.of_store c.in_ok-packet.ensures.number _ _ c.fields-f.ensures _ (search asking)

-- where 7 is answered yes, 9 decides
nine : (c : goal.Else-room-count) (m : ℕ)
    → let t = c.in_ok-packet.packet.trailer.store.now in
    m ≡ ask (ceiling_question (fields_of t) (samples_of t) ∷ []) → m ≡ ask (mosaic_questions c.args.store.now c.args.room)
nine c m r =
    let t = c.in_ok-packet.packet.trailer.store.now in
    let nine_of_f = r ∙ ap (λ (f : Fields). ask (ceiling_question f (samples_of t) ∷ [])) (sym c.fields-f.ensures) in
    mosaic-rest _ _ c.in_ok-packet.ensures.of_store c.in_ok-packet.ensures.number _ _ c.fields-f.ensures _ (ask_yes _ _ _ _ (eq-eqb _ _ c.if-room-count.false) nine_of_f)

pub returns-in_err-ask_samples-clause-number : goal.returns-in_err-ask_samples-clause-number
returns-in_err-ask_samples-clause-number c =
    search rules ∙ nine (goal.at.returns-in_err-ask_samples-clause-number c).Else-room-count _ c.in_err-ask_samples.ensures

pub returns-clause-number : goal.returns-clause-number
returns-clause-number c = nine (goal.at.returns-clause-number c).Else-room-count _ c.in_ok-ask_samples.ensures
