-- `questions::ask_buffers` meets its contract: 6, 7, 8, 18 and 9.
use mathlib.Core.Path.{sym, ◌∙◌, ◌≡◌}
use mathlib.Core.Bool.{true}
use Rattle.questions.proofs.Asking.{asking}
use Rattle.questions.specs.Lent.{wide_enough}
use Rattle.questions.proofs.ask_buffers.Goals as goal
use Rattle.questions.proofs.ask_buffers.Goals.{Else-not-wide_enough}

pub returns-then-mosaic-count : goal.returns-then-mosaic-count
returns-then-mosaic-count c = search asking depth 24

pub returns-then-room-count : goal.returns-then-room-count
returns-then-room-count c = search asking depth 24

pub returns-then-room-count-2 : goal.returns-then-room-count-2
returns-then-room-count-2 c = search asking depth 24

pub returns-then-room-count-3 : goal.returns-then-room-count-3
returns-then-room-count-3 c = search asking depth 24

pub returns-then-room-needed : goal.returns-then-room-needed
returns-then-room-needed c = search asking depth 24

pub returns-then-not-wide_enough : goal.returns-then-not-wide_enough
returns-then-not-wide_enough c =
    let no = sym c.wide_enough.ensures ∙ c.if-not-wide_enough.true in
    search asking depth 24

-- the wide buffer will do
wide : (c : goal.Else-not-wide_enough) → let a = c.args in wide_enough a.two a.count a.room.wide ≡ true
wide c = sym c.wide_enough.ensures ∙ c.if-not-wide_enough.false

pub returns-then-not-samples_within : goal.returns-then-not-samples_within
returns-then-not-samples_within c =
    let enough = wide (goal.at.returns-then-not-samples_within c).Else-not-wide_enough in
    let no = sym c.samples_within.ensures ∙ c.if-not-samples_within.true in
    search asking depth 24

pub returns : goal.returns
returns c =
    let enough = wide (goal.at.returns c).Else-not-wide_enough in
    let yes = sym c.samples_within.ensures ∙ c.if-not-samples_within.false in
    search asking depth 24
