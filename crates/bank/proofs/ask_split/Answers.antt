-- `bank::ask_split` meets its contract: 1 and 2, then 6, 7 and 15.
use mathlib.Core.Path.{◌≡◌, sym, ◌∙◌, refl}
use Prim.Native.Nat.{◌*◌}
use native.Mathlib.Omega.{arith}
use borrow.Author.Tests.{eq-eqb, ne_eqb}
use Rattle.questions.proofs.Asking.{asking, AllYes, all_yes, ask_yes, ask-first, ask_then, sizes_known}
use Rattle.questions.proofs.Answering.{refused-first}
use borrow.Author.Rules.{rules}
use Rattle.questions.specs.Questions.{ask}
use Rattle.bank.specs.Calls.{bands, band_questions, split_questions}
use Rattle.bank.proofs.Calls.{is_count, each_no, each_yes, each_end, splittable}
use Rattle.bank.proofs.ask_split.Goals as goal
use Rattle.bank.proofs.ask_split.Goals.{After-loop-room, Else-not-values_within}

pub returns-in_err-ask_sizes-clause-number : goal.returns-in_err-ask_sizes-clause-number
returns-in_err-ask_sizes-clause-number c = refused-first _ _ _ _ (search rules) c.in_err-ask_sizes.ensures

pub overflow_mul-count : goal.overflow_mul-count
overflow_mul-count c = record { fits = omega (arith, (sizes_known _ _ _ _ _ c.in_ok-ask_sizes.ensures tt refl).area) }

pub returns-then-values-count-clause-number : goal.returns-then-values-count-clause-number
returns-then-values-count-clause-number c = ask_then _ _ _ _ c.in_ok-ask_sizes.ensures tt refl (search asking depth 24)

pub returns-then-room-count-clause-number : goal.returns-then-room-count-clause-number
returns-then-room-count-clause-number c =
    let given = eq-eqb _ _ c.if-values-count.false in
    let short = each_no 7 (is_count (c.args.width * c.args.height)) _ c.loop-room.room-index _ (omega arith) (ne_eqb _ _ c.if-room-count.true) ∙ c.loop-room.invariant in
    ask_then _ _ _ _ c.in_ok-ask_sizes.ensures tt refl (ask_yes _ _ _ _ given (ask-first _ _ _ short (λ e. let z : 7 ≡ 0 = e in omega arith)))

pub loop-room-preserved : goal.loop-room-preserved
loop-room-preserved c =
    each_yes 7 (is_count (c.args.width * c.args.height)) _ c.loop-room.room-index _ (omega arith) (eq-eqb _ _ c.if-room-count.false) ∙ c.loop-room.invariant

-- every band has room
rooms : (c : goal.After-loop-room) → let a = c.args in AllYes (band_questions 7 (a.width * a.height) (bands a.room1 a.room2 a.room3 a.room4))
rooms c =
    let a = c.args in
    let none = each_end 7 (is_count (a.width * a.height)) _ c.loop-room.room-index (omega arith) ∙ c.loop-room.invariant in
    all_yes (band_questions 7 (a.width * a.height) (bands a.room1 a.room2 a.room3 a.room4)) tt 0 none refl

pub returns-then-not-values_within-clause-number : goal.returns-then-not-values_within-clause-number
returns-then-not-values_within-clause-number c =
    let room = rooms (goal.at.returns-then-not-values_within-clause-number c).After-loop-room in
    let above = sym c.values_within.ensures ∙ c.if-not-values_within.true in
    ask_then _ _ _ _ c.in_ok-ask_sizes.ensures tt refl (search asking depth 24)

-- every question is answered yes
accepted : (c : goal.Else-not-values_within)
    → let a = c.args in 0 ≡ ask (split_questions a.width a.height a.values.now (bands a.room1 a.room2 a.room3 a.room4))
accepted c =
    let room = rooms c.before.before in
    let within = sym c.values_within.ensures ∙ c.if-not-values_within.false in
    ask_then _ _ _ _ c.in_ok-ask_sizes.ensures tt refl (search asking depth 24)

pub invariant_of-result : goal.invariant_of-result
invariant_of-result c = let k = splittable _ _ _ _ (accepted (goal.at.invariant_of-result c).Else-not-values_within) in record { fits = (k.sizes, k.plane) }

pub returns-clause-number : goal.returns-clause-number
returns-clause-number c = accepted (goal.at.returns-clause-number c).Else-not-values_within
