-- `Turn::fill` meets its contract: after an exchange, columns of the given samples are rows.
use mathlib.Core.Path.{sym, ◌∙◌}
use Prim.Native.Nat.{◌+◌, ◌*◌, ◌<◌}
use native.Mathlib.Nat.{mul_comm}
use native.Mathlib.Omega.{arith}
use Rattle.std.proofs.lemmas.Nat.{mul-add-lt}
use Rattle.questions.specs.Settings.{framed}
use Rattle.turns.proofs.Calls.{samples_high, samples_low}
use Rattle.turns.proofs.Turn.fill.Goals as goal

pub fill_rows-requires : goal.fill_rows-requires
fill_rows-requires c =
    let s = c.args.shape in
    record { in_plane = record { some = c.requires.1; inside = λ i j hi hj. let b : j * s.width + i < s.width * s.height = mul-add-lt _ _ _ _ hj hi in omega (arith, c.requires.2) }; out_len = c.requires.3 ∙ mul_comm s.width s.height }

pub returns-then-exchanges : goal.returns-then-exchanges
returns-then-exchanges c =
    let a = c.args in
    samples_high a.self.number (framed a.shape a.samples.now) (sym c.exchanges.ensures ∙ c.if-exchanges.true) c.mirrors_left_right-lr.ensures c.mirrors_top_bottom-tb.ensures c.fill_rows.ensures

pub fill_rows-requires-2 : goal.fill_rows-requires-2
fill_rows-requires-2 c =
    let s = c.args.shape in
    record { in_plane = record { some = c.requires.0; inside = λ i j hi hj. let b : i * s.width + j < s.width * s.height = mul-add-lt _ _ _ _ hi hj in omega (arith, c.requires.2) }; out_len = c.requires.3 }

pub returns : goal.returns
returns c =
    let a = c.args in
    samples_low a.self.number (framed a.shape a.samples.now) (sym c.exchanges.ensures ∙ c.if-exchanges.false) c.mirrors_left_right-lr.ensures c.mirrors_top_bottom-tb.ensures c.fill_rows-2.ensures
