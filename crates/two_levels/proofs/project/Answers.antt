-- `two_levels::project` meets its contract: the sweep's, with room for it.
use mathlib.Core.Path.{sym, ◌∙◌, subst}
use native.Mathlib.Omega.{arith}
use mir.Facts.{to_z-of_z as back}
use Rattle.filters.specs.Bank.{Distance}
use Rattle.two_level_rows.specs.TwoLevels.{with_projected}
use Rattle.two_levels.proofs.project.Goals as goal

pub project_rows-requires : goal.project_rows-requires
project_rows-requires c =
    let p = c.requires.0 in
    let w = p.sizes.width_to in
    let k = c.args.kept.now in
    let v = k.levels_room in
    let m = k.merged_room in
    let o = k.outside_room in
    let l = k.lines_room in
    record {
      projectable = (p, subst Distance (sym (back c.ranges.second_limit)) c.requires.1);
      width_in_bounds = (omega (arith, w, k.differences_room), omega (arith, w, k.band_room), omega (arith, w, v.0), omega (arith, w, v.1), omega (arith, w, v.2), omega (arith, w, v.3));
      width_in_bounds_2 = (omega (arith, w, m.0), omega (arith, w, m.1), omega (arith, w, m.2));
      width_in_bounds_3 = (omega (arith, w, l.1), omega (arith, w, l.0), omega (arith, w, o.2), omega (arith, w, o.1), omega (arith, w, o.0));
    }

pub returns : goal.returns
returns c =
    let a = c.args in
    c.project_rows.ensures.own_after ∙ (λ j. with_projected a.given (back c.ranges.second_limit j) (back c.ranges.least j) (back c.ranges.most j) a.own.now a.guide.now)
