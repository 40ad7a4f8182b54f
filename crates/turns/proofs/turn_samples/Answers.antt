-- `turns::turn_samples` meets its contract: one check, and then the turned samples.
use Rattle.std.proofs.Common.{rules, ap, ◌∙◌, arith, length, Ok}
use Rattle.questions.specs.Settings.{framed}
use Rattle.questions.proofs.Answering.{refuses, accepts}
use Rattle.turns.proofs.Calls.{Fillable, fillable, turned_answer}
use Rattle.turns.proofs.turn_samples.Goals as goal
use Rattle.turns.proofs.turn_samples.Goals.{In_ok-ask_turn}

pub returns-in_err-ask_turn : goal.returns-in_err-ask_turn
returns-in_err-ask_turn c = refuses _ (search rules) c.in_err-ask_turn.ensures

known : (c : goal.In_ok-ask_turn)
    → let a = c.args in Fillable a.shape.width a.shape.height a.shape.layout (length a.samples.now) (length a.out.now)
known c =
    let a = c.args in
    fillable a.turn.number a.shape.width a.shape.height a.shape.layout (length a.samples.now) (length a.out.now) c.in_ok-ask_turn.ensures

pub fill-requires : goal.fill-requires
fill-requires c = let k = known (goal.at.fill-requires c).In_ok-ask_turn in (omega (arith, k.shape.sizes.width_from), omega (arith, k.shape.sizes.height_from), k.samples, k.buffer)

pub returns : goal.returns
returns c =
    let a = c.args in
    accepts c.in_ok-ask_turn.ensures
    (ap (λ s. Ok s) (c.shape_after-turned.ensures ∙ turned_answer a.turn.number (framed a.shape a.samples.now)))
    c.fill.ensures
