-- `Found::samples` meets its contract.
use mathlib.Core.Path.{sym}
use native.Mathlib.Omega.{arith}
use Rattle.packet.proofs.Stores.{Located, located, part_is}
use Rattle.packet.proofs.Found.samples.Goals as goal
use Rattle.packet.proofs.Found.samples.Goals.{Start}

known : (c : goal.Start) → Located c.args.self.now.trailer.store.now
known c = located _ (sym c.args.self.now.asked)

pub overflow_sub-first : goal.overflow_sub-first
overflow_sub-first c = omega (arith, c.distance.ensures, (known (goal.at.overflow_sub-first c).Start).within)

pub slice_bounds-result-count : goal.slice_bounds-result-count
slice_bounds-result-count c = let k = known (goal.at.slice_bounds-result-count c).Start in omega (arith, c.distance.ensures, c.place-end.ensures, k.within, k.back)

pub slice_bounds-result-start : goal.slice_bounds-result-start
slice_bounds-result-start c = let k = known (goal.at.slice_bounds-result-start c).Start in omega (arith, c.distance.ensures, c.place-end.ensures, k.within, k.back)

pub returns : goal.returns
returns c = part_is _ _ c.place-end.ensures _ c.distance.ensures
