-- `bank::ask_join` meets its contract: 1 and 2, then 6, 7 and 15.
use Prim.Native.Nat.{◌*◌}
use native.Mathlib.Omega.{arith}
use borrow.Author.Tests.{eq-eqb, ne_eqb}
use Rattle.questions.proofs.Asking.{asking, AllYes, all_yes, ask-first, ask_then, sizes_known}
use Rattle.questions.proofs.Answering.{refused-first}
use borrow.Author.Rules.{rules}
use mathlib.Core.Path.{◌≡◌, ◌∙◌, refl}
use Rattle.questions.specs.Questions.{ask}
use Rattle.questions.specs.Refusals.{refusal_number, number_of}
use Rattle.bank.specs.Calls.{bands, band_lengths, band_questions, join_questions}
use Rattle.bank.proofs.Calls.{have_count, each_no, each_yes, each_end, joinable}
use Rattle.bank.proofs.ask_join.Goals as goal
use Rattle.bank.proofs.ask_join.Goals.{After-loop-band, In_ok-ask_bands}

pub returns-in_err-ask_sizes-clause-number : goal.returns-in_err-ask_sizes-clause-number
returns-in_err-ask_sizes-clause-number c = refused-first _ _ _ _ (search rules) c.in_err-ask_sizes.ensures

pub overflow_mul-count : goal.overflow_mul-count
overflow_mul-count c = record { fits = omega (arith, (sizes_known _ _ _ _ _ c.in_ok-ask_sizes.ensures tt refl).area) }

pub returns-then-band-count-clause-number : goal.returns-then-band-count-clause-number
returns-then-band-count-clause-number c =
    let short = each_no 6 (have_count (c.args.width * c.args.height)) _ c.loop-band.band-index _ (omega arith) (ne_eqb _ _ c.if-band-count.true) ∙ c.loop-band.invariant in
    ask_then _ _ _ _ c.in_ok-ask_sizes.ensures tt refl (ask-first _ _ _ short (λ e. let z : 6 ≡ 0 = e in omega arith))

pub loop-band-preserved : goal.loop-band-preserved
loop-band-preserved c =
    each_yes 6 (have_count (c.args.width * c.args.height)) _ c.loop-band.band-index _ (omega arith) (eq-eqb _ _ c.if-band-count.false) ∙ c.loop-band.invariant

-- every band is as long as it has to be
lengths : (c : goal.After-loop-band) → let a = c.args in AllYes (band_questions 6 (a.width * a.height) (band_lengths (bands a.band1.now a.band2.now a.band3.now a.band4.now)))
lengths c =
    let a = c.args in
    let none = each_end 6 (have_count (a.width * a.height)) _ c.loop-band.band-index (omega arith) ∙ c.loop-band.invariant in
    all_yes (band_questions 6 (a.width * a.height) (band_lengths (bands a.band1.now a.band2.now a.band3.now a.band4.now))) tt 0 none refl

pub returns-then-room-count-clause-number : goal.returns-then-room-count-clause-number
returns-then-room-count-clause-number c =
    let long = lengths (goal.at.returns-then-room-count-clause-number c).After-loop-band in
    ask_then _ _ _ _ c.in_ok-ask_sizes.ensures tt refl (search asking depth 24)

pub returns-in_err-ask_bands-clause-number : goal.returns-in_err-ask_bands-clause-number
returns-in_err-ask_bands-clause-number c =
    let long = lengths (goal.at.returns-in_err-ask_bands-clause-number c).After-loop-band in
    let last = c.in_err-ask_bands.ensures in
    let same : number_of c.from_residual-in_err-ask_bands.result ≡ refusal_number c.in_err-ask_bands.field-0.0 = search rules in
    same ∙ ask_then _ _ _ _ c.in_ok-ask_sizes.ensures tt refl (search asking depth 24)

-- every question is answered yes
accepted : (c : goal.In_ok-ask_bands)
    → let a = c.args in 0 ≡ ask (join_questions a.width a.height (bands a.band1.now a.band2.now a.band3.now a.band4.now) a.room)
accepted c =
    let long = lengths c.before.before.before.before in
    let last = c.in_ok-ask_bands.ensures in
    ask_then _ _ _ _ c.in_ok-ask_sizes.ensures tt refl (search asking depth 24)

pub invariant_of-result : goal.invariant_of-result
invariant_of-result c =
    let k = joinable _ _ _ _ (accepted (goal.at.invariant_of-result c).In_ok-ask_bands) in
    record { fits = (k.sizes, k.plane1, k.plane2, k.plane3, k.plane4) }

pub returns-clause-number : goal.returns-clause-number
returns-clause-number c = accepted (goal.at.returns-clause-number c).In_ok-ask_bands
