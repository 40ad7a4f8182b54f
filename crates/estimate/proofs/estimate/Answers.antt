-- `estimate::estimate` meets its contract: one check, and then the planes.
use mathlib.Core.List.{List}
use Prim.Native.Nat.{ℕ}
use borrow.Author.Rules.{rules}
use Rattle.planes.specs.Planes.{Frame, Planes, planes, lengths, frame}
use Rattle.questions.proofs.Answering.{refuses, plain_accepts}
use Rattle.estimate.specs.Calls.{estimate_lists}
use mathlib.Core.Path.{refl}
use Rattle.estimate.proofs.Calls.{Estimable, estimable}
use Rattle.estimate.proofs.estimate.Goals as goal
use Rattle.estimate.proofs.estimate.Goals.{Start}

abbrev Given : goal.Start → Frame
Given s = let a = s.args in frame a.shape.width a.shape.height a.shape.layout a.mosaic.now

abbrev Before : goal.Start → Planes (List ℕ)
Before s = let a = s.args in planes a.red.now a.green.now a.blue.now

pub returns-in_err-ask_estimate : goal.returns-in_err-ask_estimate
returns-in_err-ask_estimate c = refuses _ (search rules) c.in_err-ask_estimate.ensures

pub invariant_of-frame : goal.invariant_of-frame
invariant_of-frame c =
    let s = (goal.at.invariant_of-frame c).Start in
    let k : Estimable (Given s) (lengths (Before s)) = estimable _ (Given s) (lengths (Before s)) c.in_ok-ask_estimate.ensures in
    search rules

pub estimate_rows-requires : goal.estimate_rows-requires
estimate_rows-requires c =
    let s = (goal.at.estimate_rows-requires c).Start in
    let k : Estimable (Given s) (lengths (Before s)) = estimable _ (Given s) (lengths (Before s)) c.in_ok-ask_estimate.ensures in
    search rules

pub returns : goal.returns
unfolding estimate_lists
returns c = plain_accepts c.in_ok-ask_estimate.ensures refl (λ m. planes (c.estimate_rows.ensures.red_after m) (c.estimate_rows.ensures.green_after m) (c.estimate_rows.ensures.blue_after m))
