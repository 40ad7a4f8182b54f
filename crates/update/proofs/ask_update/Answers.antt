-- `update::ask_update` meets its contract: 1, 2 and 3, then 6, 8, 9 and 10.
use mathlib.Core.Path.{sym, ◌∙◌, refl}
use Prim.Native.Nat.{◌*◌, ◌≤◌, ◌<◌}
use native.Mathlib.Omega.{arith}
use Rattle.questions.proofs.Asking.{asking, ask_then, sizes_known}
use Rattle.questions.proofs.Answering.{refused-first}
use borrow.Author.Rules.{rules}
use Rattle.update.proofs.ask_update.Goals as goal
use Rattle.update.proofs.ask_update.Goals.{Else-room-count}

pub returns-in_err-ask_shape : goal.returns-in_err-ask_shape
returns-in_err-ask_shape c = refused-first _ _ _ _ (search rules) c.in_err-ask_shape.ensures

pub overflow_mul-count : goal.overflow_mul-count
overflow_mul-count c = record { fits = omega (arith, (sizes_known _ _ _ _ _ c.in_ok-ask_shape.ensures tt refl).area) }

pub returns-then-mosaic-count : goal.returns-then-mosaic-count
returns-then-mosaic-count c = ask_then _ _ _ _ c.in_ok-ask_shape.ensures tt refl (search asking depth 24)

pub returns-then-green-count : goal.returns-then-green-count
returns-then-green-count c = ask_then _ _ _ _ c.in_ok-ask_shape.ensures tt refl (search asking depth 24)

pub overflow_mul-count-2 : goal.overflow_mul-count-2
overflow_mul-count-2 c = record { fits = omega (arith, (sizes_known _ _ _ _ _ c.in_ok-ask_shape.ensures tt refl).area) }

pub returns-then-room-count : goal.returns-then-room-count
returns-then-room-count c =
    let a = c.args in
    let short : a.room < 8 * (a.shape.width * a.shape.height) = omega (arith, c.if-room-count.true) in
    ask_then _ _ _ _ c.in_ok-ask_shape.ensures tt refl (search asking depth 24)

-- the work buffer is long enough
long : (c : goal.Else-room-count)
    → let a = c.args in 8 * (a.shape.width * a.shape.height) ≤ a.room
long c = omega (arith, c.if-room-count.false)

pub returns-then-not-samples_within : goal.returns-then-not-samples_within
returns-then-not-samples_within c =
    let room = long (goal.at.returns-then-not-samples_within c).Else-room-count in
    let above = sym c.samples_within.ensures ∙ c.if-not-samples_within.true in
    ask_then _ _ _ _ c.in_ok-ask_shape.ensures tt refl (search asking depth 24)

pub returns-then-not-samples_within-2 : goal.returns-then-not-samples_within-2
returns-then-not-samples_within-2 c =
    let room = long (goal.at.returns-then-not-samples_within-2 c).Else-room-count in
    let within = sym c.samples_within.ensures ∙ c.if-not-samples_within.false in
    let above = sym c.samples_within-2.ensures ∙ c.if-not-samples_within-2.true in
    ask_then _ _ _ _ c.in_ok-ask_shape.ensures tt refl (search asking depth 24)

pub returns : goal.returns
returns c =
    let room = long (goal.at.returns c).Else-room-count in
    let within = sym c.samples_within.ensures ∙ c.if-not-samples_within.false in
    let within2 = sym c.samples_within-2.ensures ∙ c.if-not-samples_within-2.false in
    ask_then _ _ _ _ c.in_ok-ask_shape.ensures tt refl (search asking depth 24)
