-- `bank::split` meets its contract: one check, and then the bands.
use native.Mathlib.Omega.{arith}
use Prim.Native.Nat.{◌*◌}
use Rattle.questions.proofs.Answering.{refuses, plain_accepts}
use Rattle.bank.specs.Calls.{split_lists}
use borrow.Author.Rules.{rules}
use mathlib.Core.Path.{refl, sym, ◌∙◌}
use Rattle.bank.proofs.Calls.{splittable}
use Rattle.bank.proofs.split.Goals as goal

pub returns-in_err-given : goal.returns-in_err-given
returns-in_err-given c = refuses _ (search rules) c.in_err-given.ensures.number

pub split_rows-requires : goal.split_rows-requires
split_rows-requires c =
    let a = c.args in
    let g = c.in_ok-given in
    let k = splittable a.width a.height a.plane.now _ g.ensures.number in
    let most = g.given.fits.0.width_to in
    let count = sym (λ m. g.ensures.of_plane.0 m * g.ensures.of_plane.1 m) in
    record { width_in_bounds = (omega arith, omega arith); band1_len = (k.room1 ∙ count, k.room2 ∙ count, k.room3 ∙ count, k.room4 ∙ count) }

pub returns : goal.returns
returns c =
    let known = c.in_ok-given.ensures in
    let same = known.of_plane in
    plain_accepts known.number refl (c.split_rows.ensures ∙ (λ m. split_lists (same.0 m) (same.1 m) (same.2 m)))
