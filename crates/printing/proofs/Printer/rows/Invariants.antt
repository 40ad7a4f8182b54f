-- `printing::Printer::rows` meets its contract: what puts the rows that are left puts them all.
use mathlib.Core.Path.{◌≡◌}
use mathlib.Core.List.{List}
use Prim.Native.Nat.{ℕ, ◌+◌, ◌*◌, ◌≤◌}
use lib.ListN.{length, drop}
use Rattle.printing.specs.Text.{rows_after, rows, Put}
use Rattle.printing.proofs.Printer.rows.Given as goal

abbrev pub invariant-loop-k : goal.invariant-loop-k
invariant-loop-k l = record {
  lent : l.self.out.ghost_name ≡ l.initial.self.out.ghost_name;
  kept : length l.self.out.now ≡ length l.initial.self.out.now;
  short : l.self.end ≤ l.initial.self.end + 6 * l.k;
  rest : (end : ℕ) (after : List ℕ) → Put l.self.end (rows_after l.width l.k (drop l.k l.samples)) l.self.out.now end after → Put l.initial.self.end (rows l.width l.samples) l.initial.self.out.now end after;
}
