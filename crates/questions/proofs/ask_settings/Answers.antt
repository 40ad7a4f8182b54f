-- `questions::ask_settings` meets its contract: each return shows the questions answered so far.
use mathlib.Core.Path.{subst}
use Prim.Native.Nat.{ℕ, ◌≤◌, ◌<◌}
use native.Mathlib.Omega.{arith}
use Rattle.questions.specs.Settings.{ceiling_of}
use Rattle.questions.proofs.Asking.{asking}
use Rattle.questions.proofs.ask_settings.Goals as goal

pub returns-then-settings-gt64 : goal.returns-then-settings-gt64
returns-then-settings-gt64 c = search asking depth 12

pub returns-then-top-settings : goal.returns-then-top-settings
returns-then-top-settings c =
    let s = c.args.settings in
    let above : ceiling_of s < s.threshold = subst (λ (top : ℕ). top < s.threshold) c.ceiling-top.ensures (omega (arith, c.if-top-settings.true)) in
    search asking depth 12

pub returns : goal.returns
returns c =
    let s = c.args.settings in
    let within : s.threshold ≤ ceiling_of s = subst (λ (top : ℕ). s.threshold ≤ top) c.ceiling-top.ensures (omega (arith, c.if-top-settings.false)) in
    search asking depth 12
