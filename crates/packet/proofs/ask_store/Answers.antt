-- `packet::ask_store` meets its contract: 11, the fields' questions, then 12 and 13.
use mathlib.Core.Path.{◌≡◌, refl, sym}
use borrow.Author.Rules.{rules}
use Prim.Native.Nat.{ℕ}
use native.Mathlib.Omega.{arith}
use lib.ListN.{length}
use Rattle.questions.specs.Questions.{ask}
use Rattle.questions.proofs.Asking.{asking, all_yes}
use Rattle.packet.specs.Calls.{fields_questions, distance_questions, store_questions}
use Rattle.packet.proofs.Stores.{Allowed, allowed, store_first, store_rest}
use Rattle.packet.proofs.ask_store.Goals as goal
use Rattle.packet.proofs.ask_store.Goals.{After-distance-back, In_ok-ask_frame}

pub returns-then-store-lt12-clause-number : goal.returns-then-store-lt12-clause-number
returns-then-store-lt12-clause-number c = search asking

pub returns-in_err-ask_frame-clause-number : goal.returns-in_err-ask_frame-clause-number
returns-in_err-ask_frame-clause-number c = store_first c.args.store.now c.fields-f.result c.fields-f.ensures (omega arith) _ _ (search rules) c.in_err-ask_frame.ensures

known : (c : goal.In_ok-ask_frame) → Allowed c.fields-f.result
known c =
    let f = c.fields-f.result in
    allowed f (all_yes (fields_questions f) tt _ c.in_ok-ask_frame.ensures refl)

pub overflow_mul-length : goal.overflow_mul-length
overflow_mul-length c = let k = known (goal.at.overflow_mul-length c).In_ok-ask_frame in record { fits = omega (arith, k.shape.sizes.area) }

pub overflow_mul-length-2 : goal.overflow_mul-length-2
overflow_mul-length-2 c = let k = known (goal.at.overflow_mul-length-2 c).In_ok-ask_frame in record { fits = omega (arith, k.shape.sizes.area) }

pub overflow_add-length : goal.overflow_add-length
overflow_add-length c = let k = known (goal.at.overflow_add-length c).In_ok-ask_frame in record { fits = omega (arith, k.shape.sizes.area) }

-- 12 and 13, of what was read and compared
rest : (c : goal.After-distance-back) (m : ℕ)
    → let s = c.args.store.now in
    m ≡ ask (distance_questions c.distance-back.result c.fields-f.result (length s)) → m ≡ ask (store_questions s)
rest c m r = store_rest c.args.store.now c.fields-f.result c.fields-f.ensures (omega arith) c.in_ok-ask_frame.ensures m _ c.distance-back.ensures r

pub returns-then-back-length-clause-number : goal.returns-then-back-length-clause-number
returns-then-back-length-clause-number c = rest (goal.at.returns-then-back-length-clause-number c).After-distance-back _ (search asking)

pub returns-then-store-back-clause-number : goal.returns-then-store-back-clause-number
returns-then-store-back-clause-number c = rest (goal.at.returns-then-store-back-clause-number c).After-distance-back _ (search asking)

pub invariant_of-result : goal.invariant_of-result
invariant_of-result c = record { asked = sym (rest (goal.at.invariant_of-result c).After-distance-back 0 (search asking)) }

pub returns-clause-number : goal.returns-clause-number
returns-clause-number c = rest (goal.at.returns-clause-number c).After-distance-back _ (search asking)
