-- `questions::ask_lent` meets its contract: 1 to 5, and then 6 to 9, with 18 after 8.
use Rattle.std.proofs.Common.{rules, refl, ◌∙◌, ◌*◌, arith}
use Rattle.questions.specs.Questions.{ask}
use Rattle.questions.specs.Lent.{rooms_in, buffer_questions}
use Rattle.questions.proofs.Asking.{ask_then, sizes_known}
use Rattle.questions.proofs.Answering.{refused-first}
use Rattle.questions.proofs.ask_lent.Goals as goal

pub returns-in_err-ask_frame : goal.returns-in_err-ask_frame
returns-in_err-ask_frame c = refused-first _ _ _ _ (search rules) c.in_err-ask_frame.ensures

pub overflow_mul-count : goal.overflow_mul-count
overflow_mul-count c = record { fits = omega (arith, (sizes_known _ _ _ _ _ c.in_ok-ask_frame.ensures tt refl).area) }

pub ask_buffers-requires : goal.ask_buffers-requires
ask_buffers-requires c = (sizes_known _ _ _ _ _ c.in_ok-ask_frame.ensures tt refl).area

pub returns : goal.returns
returns c =
    let a = c.args in
    ask_then _ _ _ _ c.in_ok-ask_frame.ensures tt refl
    (c.ask_buffers.ensures
    ∙ (λ i. ask (buffer_questions (c.ceiling-top.ensures i) (c.two_levels-two.ensures i) (a.shape.width * a.shape.height) a.mosaic.now (rooms_in a.room))))
