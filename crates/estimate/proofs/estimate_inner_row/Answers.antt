-- `estimate::estimate_inner_row` meets its contract: the three parts of the row lie one after another.
use Rattle.std.proofs.Common.{rules, arith}
use mathlib.Core.Path.{◌≡◌, refl, ◌∙◌, ap}
use mathlib.Core.Bool.{not}
use Prim.Native.Nat.{ℕ, ◌+◌, ◌*◌}
use Rattle.planes.specs.Layout.{by_parity, on_red_column}
use Rattle.planes.specs.Planes.{plane_of}
use Rattle.planes.proofs.Planes.{row_room}
use Rattle.neighbourhood.specs.Place.{neighbourhood, around, bilinear, green_at}
use Rattle.turns.specs.Operations.{Around}
use Rattle.estimate.specs.Estimates.{estimate_at, estimates}
use Rattle.neighbourhood.specs.declared.Frame.{Frame}
use Rattle.estimate.proofs.Parts.{three_parts}
use Rattle.estimate.proofs.Places.{placed}
use Rattle.estimate.proofs.estimate_inner_row.Goals as goal

-- what stands around a place that lies inside
abbrev Near : Frame → ℕ → ℕ → Around ℕ
Near f r k = around (neighbourhood f.shape.width f.shape.height (plane_of 0 f.shape.width f.samples.now) r (2 + k))

pub returns-clause-red_after : goal.returns-clause-red_after
unfolding estimate_at
returns-clause-red_after c =
    let a = c.args in
    let f = a.frame.now in
    let room = row_room f.shape.width f.shape.height a.r (omega arith) in
    three_parts a.red.now (a.r * f.shape.width) (λ j. (estimates a.top f a.r j).red) f.shape.width (omega arith) (omega (arith, room)) c.estimate_part.ensures.red_after
    (c.estimate_inside.ensures (λ k. (estimates a.top f a.r (2 + k)).red) (λ k x b e.
    let own : x ≡ bilinear c.has_red_row-row.result (on_red_column f.shape.layout (2 + k)) (Near f a.r k) = search rules in
    own ∙ ap (λ q. q.red) (placed f.shape.width f.shape.height (plane_of 0 f.shape.width f.samples.now) a.r (2 + k) a.top f.shape.layout c.has_red_row-row.ensures refl refl)))
    c.estimate_part-2.ensures.red_after

pub returns-clause-green_after : goal.returns-clause-green_after
unfolding estimate_at
returns-clause-green_after c =
    let a = c.args in
    let f = a.frame.now in
    let room = row_room f.shape.width f.shape.height a.r (omega arith) in
    three_parts a.green.now (a.r * f.shape.width) (λ j. (estimates a.top f a.r j).green) f.shape.width (omega arith) (omega (arith, room)) c.estimate_part.ensures.green_after
    (c.estimate_inside-2.ensures (λ k. (estimates a.top f a.r (2 + k)).green) (λ k x b e.
    let own : x ≡ green_at a.top (by_parity c.has_red_row-row.result (on_red_column f.shape.layout (2 + k))) (Near f a.r k) = search rules in
    own ∙ ap (λ q. q.green) (placed f.shape.width f.shape.height (plane_of 0 f.shape.width f.samples.now) a.r (2 + k) a.top f.shape.layout c.has_red_row-row.ensures refl refl)))
    c.estimate_part-2.ensures.green_after

pub returns-clause-blue_after : goal.returns-clause-blue_after
unfolding estimate_at
returns-clause-blue_after c =
    let a = c.args in
    let f = a.frame.now in
    let room = row_room f.shape.width f.shape.height a.r (omega arith) in
    three_parts a.blue.now (a.r * f.shape.width) (λ j. (estimates a.top f a.r j).blue) f.shape.width (omega arith) (omega (arith, room)) c.estimate_part.ensures.blue_after
    (c.estimate_inside-3.ensures (λ k. (estimates a.top f a.r (2 + k)).blue) (λ k x b e.
    let own : x ≡ bilinear (not c.has_red_row-row.result) (not (on_red_column f.shape.layout (2 + k))) (Near f a.r k) = search rules in
    own ∙ ap (λ q. q.blue) (placed f.shape.width f.shape.height (plane_of 0 f.shape.width f.samples.now) a.r (2 + k) a.top f.shape.layout c.has_red_row-row.ensures refl refl)))
    c.estimate_part-2.ensures.blue_after
