-- `GivenBands::join_row` meets its contract: the columns' filters lay down two lines, and the rows' filters along them the sums.
use mathlib.Core.Path.{ap}
use mathlib.Core.List.{List}
use Prim.Native.Nat.{ℕ, ◌+◌, ◌*◌, ◌≤◌}
use native.Mathlib.Omega.{arith}
use lib.IntN.{ℤ}
use lib.ListN.{length}
use borrow.Author.Rules.{rules}
use Rattle.planes.proofs.Planes.{row_room}
use Rattle.lines.specs.Lines.{Runs}
use Rattle.bank.specs.Calls.{bands, to_join}
use Rattle.bank.proofs.Rows.{row_small, NearFive, starts, five-rows, joined_run, sums_laid}
use Rattle.bank.proofs.GivenBands.join_row.Goals as goal
use Rattle.bank.proofs.GivenBands.join_row.Goals.{After-reflected-2, Start}

pub overflow_mul-a : goal.overflow_mul-a
overflow_mul-a c = record { fits = omega (arith, row_small c.args.self.now.fits.0 c.reflected_before.result c.reflected_before.ensures.1) }

pub overflow_mul-b : goal.overflow_mul-b
overflow_mul-b c = record { fits = omega (arith, row_small c.args.self.now.fits.0 c.reflected_before-2.result c.reflected_before-2.ensures.1) }

pub overflow_mul-here : goal.overflow_mul-here
overflow_mul-here c = record { fits = omega (arith, row_small c.args.self.now.fits.0 c.args.r c.requires.row) }

pub overflow_mul-d : goal.overflow_mul-d
overflow_mul-d c = record { fits = omega (arith, row_small c.args.self.now.fits.0 c.reflected.result c.reflected.ensures.1) }

pub overflow_mul-e : goal.overflow_mul-e
overflow_mul-e c = record { fits = omega (arith, row_small c.args.self.now.fits.0 c.reflected-2.result c.reflected-2.ensures.1) }

-- the five rows
near : (c : goal.After-reflected-2)
    → let g = c.args.self.now in
    NearFive g.width g.height c.args.r (c.reflected_before.result * g.width) (c.reflected_before-2.result * g.width) (c.reflected.result * g.width) (c.reflected-2.result * g.width)
near c =
    record {
      inside = c.requires.row;
      is_a = ap (λ (i : ℕ). i * c.args.self.now.width) c.reflected_before.ensures.0;
      is_b = ap (λ (i : ℕ). i * c.args.self.now.width) c.reflected_before-2.ensures.0;
      is_d = ap (λ (i : ℕ). i * c.args.self.now.width) c.reflected.ensures.0;
      is_e = ap (λ (i : ℕ). i * c.args.self.now.width) c.reflected-2.ensures.0;
    }

-- row r has its place in the sums, and its lines theirs
room : (s : goal.Start) → s.args.r * s.args.self.now.width + s.args.self.now.width ≤ s.args.self.now.width * s.args.self.now.height
room s = row_room s.args.self.now.width s.args.self.now.height s.args.r s.requires.row

low_room : (s : goal.Start) → 2 + s.args.self.now.width ≤ length s.args.low.now
low_room s = omega arith

high_room : (s : goal.Start) → 2 + s.args.self.now.width ≤ length s.args.high.now
high_room s = omega arith

-- five rows of each band
abbrev FiveRows : goal.Start → ℕ → ℕ → ℕ → ℕ → List ℤ → Type 0
FiveRows s a b d e l = Runs 67108864 l (starts s.args.self.now.width s.args.r a b d e) s.args.self.now.width

rows : (s : goal.Start) {a b d e : ℕ} → NearFive s.args.self.now.width s.args.self.now.height s.args.r a b d e
    → FiveRows s a b d e s.args.self.now.band1.now × FiveRows s a b d e s.args.self.now.band2.now × FiveRows s a b d e s.args.self.now.band3.now × FiveRows s a b d e s.args.self.now.band4.now
rows s n =
    let z = s.args.self.now.fits in
    (five-rows n z.1 67108864 (omega arith), five-rows n z.2 67108864 (omega arith), five-rows n z.3 67108864 (omega arith), five-rows n z.4 67108864 (omega arith))

pub join_lines-requires : goal.join_lines-requires
join_lines-requires c =
    let r = rows (goal.at.join_lines-requires c).Start (near (goal.at.join_lines-requires c).After-reflected-2) in
    search rules

pub join_lines-requires-2 : goal.join_lines-requires-2
join_lines-requires-2 c =
    let r = rows (goal.at.join_lines-requires-2 c).Start (near (goal.at.join_lines-requires-2 c).After-reflected-2) in
    search rules

pub join_along-requires : goal.join_along-requires
join_along-requires c =
    let a = c.args in
    let z = c.args.self.now.fits in
    let n = near (goal.at.join_along-requires c).After-reflected-2 in
    record {
      le_n = (
        z.0.width_from,
        z.0.width_to,
        omega (arith, c.join_lines.auto.out),
        joined_run n _ _ a.low.now (low_room (goal.at.join_along-requires c).Start) c.join_lines.ensures {m = to_join} (search rules) (search rules) 67108864 (omega arith),
        omega (arith, c.join_lines-2.auto.out),
        joined_run n _ _ a.high.now (high_room (goal.at.join_along-requires c).Start) c.join_lines-2.ensures {m = to_join} (search rules) (search rules) 67108864 (omega arith),
      );
      n_in_bounds = omega (arith, room (goal.at.join_along-requires c).Start);
    }

pub returns : goal.returns
returns c =
    let a = c.args in
    let given = bands a.self.now.band1.now a.self.now.band2.now a.self.now.band3.now a.self.now.band4.now in
    sums_laid (near (goal.at.returns c).After-reflected-2) given a.low.now a.high.now (low_room (goal.at.returns c).Start) (high_room (goal.at.returns c).Start) c.join_lines.ensures c.join_lines-2.ensures a.sums.now (a.r * a.self.now.width) c.join_along.ensures.out_after
