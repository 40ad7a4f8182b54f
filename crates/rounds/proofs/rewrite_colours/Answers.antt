-- `rounds::rewrite_colours` meets its contract, at either level.
use mathlib.Core.Path.{◌≡◌, sym, ◌∙◌}
use Prim.Native.Nat.{ℕ}
use Rattle.questions.specs.declared.Settings.{Settings}
use Rattle.questions.specs.declared.Shape.{Shape}
use Rattle.working_plane.specs.Colours.{other, rewritten_list}
use Rattle.working_plane.specs.declared.Colour.{Colour}
use Rattle.rounds.specs.Colours.{red_of}
use Rattle.rounds.proofs.rewrite_colours.Goals as goal

-- red's places, by the parities of its rows and columns
abbrev placed : Shape → Settings → ℕ → ℕ → Colour
placed s t r q = record { width = s.width; height = s.height; row = r; column = q; threshold = t.threshold }

pub returns-then-two_levels : goal.returns-then-two_levels
returns-then-two_levels c =
    let a = c.args in
    let level = sym c.if-two_levels.true ∙ c.two_levels.ensures in
    let top = c.ceiling-top.ensures in
    let n = c.rounds_to_run-rounds.ensures in
    let red : placed a.shape a.settings c.from.result c.from-2.result ≡ red_of a.shape.width a.shape.height a.shape.layout a.settings = λ i. placed a.shape a.settings ((c.from.ensures ∙ c.red_row.ensures.0) i) ((c.from-2.ensures ∙ c.red_column.ensures.0) i) in
    let e = c.rewrite_both.ensures in
    record { red_after = e.red_after ∙ (λ i. rewritten_list (level i) (red i) (top i) (n i) a.mosaic.now a.green.now a.red.now); blue_after = e.blue_after ∙ (λ i. rewritten_list (level i) (other (red i)) (top i) (n i) a.mosaic.now a.green.now a.blue.now); work_unchanged = e.work_unchanged }

pub returns-else-two_levels : goal.returns-else-two_levels
returns-else-two_levels c =
    let a = c.args in
    let level = sym c.if-two_levels.false ∙ c.two_levels.ensures in
    let top = c.ceiling-top.ensures in
    let n = c.rounds_to_run-rounds.ensures in
    let red : placed a.shape a.settings c.from.result c.from-2.result ≡ red_of a.shape.width a.shape.height a.shape.layout a.settings = λ i. placed a.shape a.settings ((c.from.ensures ∙ c.red_row.ensures.0) i) ((c.from-2.ensures ∙ c.red_column.ensures.0) i) in
    let e = c.rewrite_both-else-two_levels.ensures in
    record { red_after = e.red_after ∙ (λ i. rewritten_list (level i) (red i) (top i) (n i) a.mosaic.now a.green.now a.red.now); blue_after = e.blue_after ∙ (λ i. rewritten_list (level i) (other (red i)) (top i) (n i) a.mosaic.now a.green.now a.blue.now); work_unchanged = e.work_unchanged }
