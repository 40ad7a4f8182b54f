-- `Turn::shape_after` meets its contract: the exchange or none, and then each mirror or none.
use Rattle.std.proofs.Common.{true, false, ◌∙◌}
use Rattle.turns.proofs.Calls.{mirrored_is, exchanged_is, shape_after}
use Rattle.turns.proofs.Turn.shape_after.Goals as goal
use Rattle.turns.proofs.Turn.shape_after.Goals.{then-exchanges, else-exchanges}

pub returns : goal.returns
returns c =
    let s = c.args.shape in
    let lr = c.mirrors_left_right-left_right.result in
    let tb = c.mirrors_top_bottom-top_bottom.result in
    shape_after c.args.self.number s c.exchanges-exchanges.ensures c.mirrors_left_right-left_right.ensures c.mirrors_top_bottom-top_bottom.ensures
    (elim c.if-exchanges.branch [
      | then-exchanges w ↦ exchanged_is true lr tb s w.if-exchanges.true (w.width-is ∙ (λ i. (s.height, s.width, mirrored_is tb s.width w.mirrored_parity.ensures.0 w.red_column.ensures.0 i, mirrored_is lr s.height w.mirrored_parity-then-exchanges.ensures.0 w.red_row.ensures.0 i)))
      | else-exchanges w ↦ exchanged_is false lr tb s w.if-exchanges.false (w.width-is ∙ (λ i. (s.width, s.height, mirrored_is tb s.height w.mirrored_parity-else-exchanges.ensures.0 w.red_row-else-exchanges.ensures.0 i, mirrored_is lr s.width w.mirrored_parity-else-exchanges-2.ensures.0 w.red_column-else-exchanges.ensures.0 i)))
    ])
