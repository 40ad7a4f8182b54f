-- `demand_3::finish_standing` meets its contract.
use Rattle.std.proofs.Common.{◌≡◌, sym, ◌∙◌, cond}
use Rattle.demand_3.proofs.Moving.{finished_standing}
use Rattle.demand_3.proofs.finish_standing.Goals as goal
use Rattle.demand_3.proofs.finish_standing.Goals.{then-at, else-at}

pub returns : goal.returns
returns c =
    let a = c.args in
    let held : c.if-at.mosaic.now ≡ cond a.at.swapped a.second.now a.first.now = elim c.if-at.branch [
      | then-at w ↦ (λ i. (w.mosaic-is i).now) ∙ (λ i. cond (sym w.if-at.true i) a.second.now a.first.now)
      | else-at w ↦ (λ i. (w.mosaic-is i).now) ∙ (λ i. cond (sym w.if-at.false i) a.second.now a.first.now)
    ] in
    finished_standing a.at a.first.now a.second.now a.settings _ held c.finish_frame.ensures
