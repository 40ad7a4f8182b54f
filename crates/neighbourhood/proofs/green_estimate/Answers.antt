-- `neighbourhood::green_estimate` meets its contract.
use mathlib.Core.Path.{sym, ◌∙◌, ap}
use mathlib.Core.List.{List, []}
use Prim.Native.Nat.{ℕ}
use lib.IntN.{ℤ, pos, nat_abs}
use lib.ListN.{get_or}
use mir.Syntax.{w32}
use Rattle.integers.specs.Numbers.{rounded, clamp}
use Rattle.integers.specs.Lists.{tabulate}
use Rattle.integers.proofs.Bounds.{read_is}
use Rattle.neighbourhood.specs.Inner.{line_of}
use Rattle.neighbourhood.specs.Place.{eight_greens, hamilton_adams}
use Rattle.neighbourhood.proofs.Places.{lines_of}
use Rattle.neighbourhood.proofs.green_estimate.Goals as goal

pub eight_greens-requires : goal.eight_greens-requires
unfolding line_of tabulate
eight_greens-requires c = sym (ap (λ (l : List ℕ). line_of l (pos 0)) c.middle_column.ensures)

pub returns : goal.returns
unfolding hamilton_adams
returns c =
    let e = c.eight_greens in
    let m = c.middle_column in
    let a = c.args in
    c.clipped_eighth.ensures ∙ ap (λ (z : ℤ). nat_abs (clamp (pos 0) (pos a.top) (rounded 8 z))) (read_is w32 e.type_inv e.ensures.is ∙ ap (λ (l : List ℕ). eight_greens (line_of (get_or a.n 2 [])) (line_of l)) m.ensures ∙ lines_of a.n)
