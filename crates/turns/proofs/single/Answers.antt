-- `turns::single` meets its contract: an exchange in the second turn swaps the mirrors of the first.
use Rattle.std.proofs.Common.{true, false, ◌∙◌}
use Rattle.turns.proofs.Calls.{swapped_is, single_is}
use Rattle.turns.proofs.single.Goals as goal
use Rattle.turns.proofs.single.Goals.{then-exchanges, else-exchanges}

pub returns : goal.returns
returns c =
    let s = c.args.first.number in
    λ i. record {
      number = single_is s c.args.second.number c.exchanges.ensures c.exchanges-2.ensures c.exchanges-3.ensures c.mirrors_left_right-2.ensures c.mirrors_top_bottom-2.ensures
          (elim c.if-exchanges.branch [
            | then-exchanges w ↦ swapped_is true s w.if-exchanges.true (w.left_right-is ∙ (λ i. (w.mirrors_top_bottom.ensures i, w.mirrors_left_right.ensures i)))
            | else-exchanges w ↦ swapped_is false s w.if-exchanges.false (w.left_right-is ∙ (λ i. (w.mirrors_left_right-else-exchanges.ensures i, w.mirrors_top_bottom-else-exchanges.ensures i)))
          ]) c.from-exchange.ensures c.from-rows.ensures c.from-columns.ensures i;
    }
