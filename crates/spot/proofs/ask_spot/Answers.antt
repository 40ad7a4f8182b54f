-- `spot::ask_spot` meets its contract: 1 and 2, then 6 and 19.
use Rattle.std.proofs.Common.{rules, refl, sym, ◌∙◌}
use Rattle.questions.proofs.Answering.{refused-first}
use native.Mathlib.Omega.{arith}
use Rattle.questions.proofs.Asking.{asking, ask_then, sizes_known}
use Rattle.spot.proofs.ask_spot.Goals as goal

pub returns-in_err-ask_sizes : goal.returns-in_err-ask_sizes
returns-in_err-ask_sizes c = refused-first _ _ _ _ (search rules) c.in_err-ask_sizes.ensures

pub overflow_mul-count : goal.overflow_mul-count
overflow_mul-count c = record { fits = omega (arith, (sizes_known _ _ _ _ _ c.in_ok-ask_sizes.ensures tt refl).area) }

pub returns-then-lengths-count : goal.returns-then-lengths-count
returns-then-lengths-count c = ask_then _ _ _ _ c.in_ok-ask_sizes.ensures tt refl (search asking depth 24)

pub returns-then-lengths-count-2 : goal.returns-then-lengths-count-2
returns-then-lengths-count-2 c = ask_then _ _ _ _ c.in_ok-ask_sizes.ensures tt refl (search asking depth 24)

pub returns-then-lengths-count-3 : goal.returns-then-lengths-count-3
returns-then-lengths-count-3 c = ask_then _ _ _ _ c.in_ok-ask_sizes.ensures tt refl (search asking depth 24)

pub returns-then-not-inside : goal.returns-then-not-inside
returns-then-not-inside c =
    let outside = sym c.inside.ensures ∙ c.if-not-inside.true in
    ask_then _ _ _ _ c.in_ok-ask_sizes.ensures tt refl (search asking depth 24)

pub returns : goal.returns
returns c =
    let within = sym c.inside.ensures ∙ c.if-not-inside.false in
    ask_then _ _ _ _ c.in_ok-ask_sizes.ensures tt refl (search asking depth 24)
