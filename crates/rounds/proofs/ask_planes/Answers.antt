-- `rounds::ask_planes` meets its contract: 10 of each plane.
use mathlib.Core.Path.{sym, ◌∙◌}
use Rattle.questions.proofs.Asking.{asking}
use Rattle.rounds.proofs.ask_planes.Goals as goal

pub returns-then-not-samples_within : goal.returns-then-not-samples_within
returns-then-not-samples_within c =
    let no = sym c.samples_within.ensures ∙ c.if-not-samples_within.true in
    search asking depth 24

pub returns-then-not-samples_within-2 : goal.returns-then-not-samples_within-2
returns-then-not-samples_within-2 c =
    let yes1 = sym c.samples_within.ensures ∙ c.if-not-samples_within.false in
    let no = sym c.samples_within-2.ensures ∙ c.if-not-samples_within-2.true in
    search asking depth 24

pub returns-then-not-samples_within-3 : goal.returns-then-not-samples_within-3
returns-then-not-samples_within-3 c =
    let yes1 = sym c.samples_within.ensures ∙ c.if-not-samples_within.false in
    let yes2 = sym c.samples_within-2.ensures ∙ c.if-not-samples_within-2.false in
    let no = sym c.samples_within-3.ensures ∙ c.if-not-samples_within-3.true in
    search asking depth 24

pub returns : goal.returns
returns c =
    let yes1 = sym c.samples_within.ensures ∙ c.if-not-samples_within.false in
    let yes2 = sym c.samples_within-2.ensures ∙ c.if-not-samples_within-2.false in
    let yes3 = sym c.samples_within-3.ensures ∙ c.if-not-samples_within-3.false in
    search asking depth 24
