-- `estimate::ask_estimate` meets its contract: the shape's questions, then 6, 7 and 9.
use mathlib.Core.Path.{sym, ◌∙◌, refl}
use native.Mathlib.Omega.{arith}
use Rattle.questions.proofs.Asking.{asking, ask_then, sizes_known}
use Rattle.questions.proofs.Answering.{refused-first}
use borrow.Author.Rules.{rules}
use Rattle.estimate.proofs.ask_estimate.Goals as goal

pub returns-in_err-ask_shape : goal.returns-in_err-ask_shape
returns-in_err-ask_shape c = refused-first _ _ _ _ (search rules) c.in_err-ask_shape.ensures

pub overflow_mul-count : goal.overflow_mul-count
overflow_mul-count c = record { fits = omega (arith, (sizes_known _ _ _ _ _ c.in_ok-ask_shape.ensures tt refl).area) }

pub returns-then-given-count : goal.returns-then-given-count
returns-then-given-count c = ask_then _ _ _ _ c.in_ok-ask_shape.ensures tt refl (search asking depth 24)

pub returns-then-red_room-count : goal.returns-then-red_room-count
returns-then-red_room-count c = ask_then _ _ _ _ c.in_ok-ask_shape.ensures tt refl (search asking depth 24)

pub returns-then-green_room-count : goal.returns-then-green_room-count
returns-then-green_room-count c = ask_then _ _ _ _ c.in_ok-ask_shape.ensures tt refl (search asking depth 24)

pub returns-then-blue_room-count : goal.returns-then-blue_room-count
returns-then-blue_room-count c = ask_then _ _ _ _ c.in_ok-ask_shape.ensures tt refl (search asking depth 24)

pub returns-then-not-samples_within : goal.returns-then-not-samples_within
returns-then-not-samples_within c =
    let above = sym c.samples_within.ensures ∙ c.if-not-samples_within.true in
    ask_then _ _ _ _ c.in_ok-ask_shape.ensures tt refl (search asking depth 24)

pub returns : goal.returns
returns c =
    let within = sym c.samples_within.ensures ∙ c.if-not-samples_within.false in
    ask_then _ _ _ _ c.in_ok-ask_shape.ensures tt refl (search asking depth 24)
