-- `Kept::next` meets its contract: steady, dark, starting.
use Rattle.std.proofs.Common.{true, false}
use borrow.Author.Tests.{lt-ltb, le-ltb}
use Rattle.spot.proofs.Steps.{lit_kept, lit_reading, unlit_kept, unlit_reading}
use Rattle.spot.proofs.Kept.next.Goals as goal

pub returns-then-sums-gt0 : goal.returns-then-sums-gt0
returns-then-sums-gt0 c =
    let lit = lt-ltb 0 _ c.if-sums-gt0.true in
    record { reading = lit_reading _ _ lit c.lit_spot-spot.ensures; kept = lit_kept _ _ lit c.lit_spot-spot.ensures }

pub returns-then-self : goal.returns-then-self
returns-then-self c =
    let unlit = le-ltb 0 _ c.if-sums-gt0.false in
    record { reading = unlit_reading _ _ unlit true c.if-self.true; kept = unlit_kept _ _ unlit }

pub returns : goal.returns
returns c =
    let unlit = le-ltb 0 _ c.if-sums-gt0.false in
    record { reading = unlit_reading _ _ unlit false c.if-self.false; kept = unlit_kept _ _ unlit }
