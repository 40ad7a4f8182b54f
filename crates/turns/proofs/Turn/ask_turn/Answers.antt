-- `Turn::ask_turn` meets its contract: the shape's questions, then 6 and 7.
use Rattle.std.proofs.Common.{rules, refl, arith}
use Rattle.questions.proofs.Asking.{asking, ask_then}
use Rattle.questions.proofs.Answering.{refused-first}
use Rattle.turns.proofs.Calls.{shape_known}
use Rattle.turns.proofs.Turn.ask_turn.Goals as goal

pub returns-in_err-ask_shape : goal.returns-in_err-ask_shape
returns-in_err-ask_shape c = refused-first _ _ _ _ (search rules) c.in_err-ask_shape.ensures

pub overflow_mul-count : goal.overflow_mul-count
overflow_mul-count c =
    let a = c.args in
    record { fits = omega (arith, (shape_known a.self.number a.shape.width a.shape.height a.shape.layout c.in_ok-ask_shape.ensures).sizes.area) }

pub returns-then-given-count : goal.returns-then-given-count
returns-then-given-count c = ask_then _ _ _ _ c.in_ok-ask_shape.ensures tt refl (search asking)

pub returns-then-room-count : goal.returns-then-room-count
returns-then-room-count c = ask_then _ _ _ _ c.in_ok-ask_shape.ensures tt refl (search asking)

pub returns : goal.returns
returns c = ask_then _ _ _ _ c.in_ok-ask_shape.ensures tt refl (search asking)
