-- `printing::put_frame` meets its contract: the text is the seven parts, one after another.
use native.Mathlib.Omega.{arith}
use borrow.Author.Rules.{rules}
use Rattle.planes.specs.Planes.{planes}
use Rattle.printing.specs.Text.{frame_text}
use Rattle.printing.proofs.Putting.{put_then, put_front}
use Rattle.printing.proofs.Texts.{length_text}
use Rattle.printing.proofs.put_frame.Goals as goal

pub returns : goal.returns
unfolding frame_text
returns c =
    let a = c.args in
    let three = planes a.red.now a.green.now a.blue.now in
    put_front
    (frame_text a.width a.height three)
    (omega (arith, length_text a.width a.height three, c.requires.blue_in_bounds))
    (put_then c.decimal.ensures.put
    (put_then c.byte.ensures.put
    (put_then c.decimal-2.ensures.put
    (put_then c.byte-2.ensures.put
    (put_then c.rows.ensures.put
    (put_then c.rows-2.ensures.put c.rows-3.ensures.put))))))
    (search rules)
