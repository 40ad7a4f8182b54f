-- `bank::join` meets its contract: one check, and then the sums.
use native.Mathlib.Omega.{arith}
use Prim.Native.Nat.{◌*◌}
use lib.ListN.{length}
use Rattle.questions.proofs.Answering.{refuses, plain_accepts}
use Rattle.bank.specs.Calls.{bands, join_list}
use borrow.Author.Rules.{rules}
use mathlib.Core.Path.{refl, sym, ◌∙◌}
use Rattle.bank.proofs.Calls.{joinable}
use Rattle.bank.proofs.join.Goals as goal

pub returns-in_err-given : goal.returns-in_err-given
returns-in_err-given c = refuses _ (search rules) c.in_err-given.ensures.number

pub join_rows-requires : goal.join_rows-requires
join_rows-requires c =
    let a = c.args in
    let g = c.in_ok-given in
    let k = joinable a.width a.height (bands a.band1.now a.band2.now a.band3.now a.band4.now) (length a.sums.now) g.ensures.number in
    let most = g.given.fits.0.width_to in
    (omega arith, omega arith, k.buffer ∙ sym (λ m. g.ensures.of_bands.0 m * g.ensures.of_bands.1 m))

pub returns : goal.returns
returns c =
    let known = c.in_ok-given.ensures in
    let same = known.of_bands in
    plain_accepts known.number refl (c.join_rows.ensures ∙ (λ m. join_list (same.0 m) (same.1 m) (same.2 m)))
