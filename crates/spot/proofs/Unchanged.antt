-- Over every list of calls from the start in which every lit frame has the same sums, the spot stays unchanged to the bit from the first lit one
-- on. The premises are the calls' contracts. Assumes nothing.
use mathlib.Core.Path.{◌≡◌, refl, sym, ap, ◌∙◌}
use mathlib.Core.Bool.{Bool, true, false, ◌||◌, or-false, or_assoc}
use mathlib.Core.List.{List, [], ◌∷◌, ◌++◌}
use Prim.Native.Nat.{ℕ, zero, suc, ◌^◌, ◌≤◌}
use native.Mathlib.Nat.{le_trans}
use lib.Dec.{lit≤}
use Rattle.std.proofs.Common.{Ok}
use Rattle.questions.specs.Questions.{ask}
use Rattle.questions.specs.Calls.{if_accepted}
use Rattle.questions.proofs.Answering.{left_yes}
use Rattle.window.specs.Window.{largest_sum}
use Rattle.smoothing.proofs.Same.{smooth-sum}
use Rattle.spot.specs.Spot.{Sums, start, spot, spot_of, smooth_spot, is_lit, lit_spot, next_kept, reading}
use Rattle.spot.specs.Calls.{questions_of, sums_of, Small, SpotResult}
use Rattle.spot.specs.Histories.{SpotRun, SpotHistory, last_kept, lit_frame, lit_seen, SameSums, AllSameSums, standing, steady_reading}
use Rattle.spot.specs.declared.Kept.{Kept}
use Rattle.spot.proofs.Steps.{lit_kept, lit_reading, unlit_kept, unlit_reading}

-- A window's sums, smoothed towards themselves, stay as they are.
pub same_spot : (s : Sums) → Small s → smooth_spot (spot_of s) (spot_of s) ≡ spot_of s
same_spot s h = λ i. spot (smooth-sum s.red (le_trans h.red far) i) (smooth-sum s.green (le_trans h.green far) i) (smooth-sum s.blue (le_trans h.blue far) i)
  where
    far : largest_sum ≤ 2 ^ 53
    far = lit≤ tt

-- a list of calls and then another
history_parts : (k : Kept) (runs later : List SpotRun) → SpotHistory k (runs ++ later) → SpotHistory k runs × SpotHistory (last_kept k runs) later
history_parts k [] later h = (tt, h)
history_parts k (run ∷ runs) later h = let p = history_parts run.after runs later h.2 in ((h.0, h.1, p.0), p.1)

last_parts : (k : Kept) (runs later : List SpotRun) → last_kept k (runs ++ later) ≡ last_kept (last_kept k runs) later
last_parts k [] later = refl
last_parts k (run ∷ runs) later = last_parts run.after runs later

same_parts : (s : Sums) (runs later : List SpotRun) → AllSameSums s (runs ++ later) → AllSameSums s runs × AllSameSums s later
same_parts s [] later a = (tt, a)
same_parts s (run ∷ runs) later a = let p = same_parts s runs later a.1 in ((a.0, p.0), p.1)

module _ (s : Sums) where
  -- ---- one frame, with sums t
  same_lit : (seen : Bool) (t : Sums) → Small t → t ≡ s → spot_of s ≡ lit_spot (standing s seen) t
  same_lit false t h e = ap spot_of (sym e)
  same_lit true t h e = ap spot_of (sym e) ∙ sym (same_spot t h) ∙ ap (λ (u : Sums). smooth_spot (spot_of u) (spot_of t)) e

  answered : (seen : Bool) (t : Sums) → Small t → (b : Bool) → is_lit t ≡ b → (b ≡ true → t ≡ s)
      → (next_kept (standing s seen) t ≡ standing s (seen || b)) × (reading (standing s seen) t ≡ steady_reading s seen b)
  answered false t h true e f = let p = same_lit false t h (f refl) in (sym (lit_kept (standing s false) t e p), sym (lit_reading (standing s false) t e p))
  answered true t h true e f = let p = same_lit true t h (f refl) in (sym (lit_kept (standing s true) t e p), sym (lit_reading (standing s true) t e p))
  answered false t h false e f = (sym (unlit_kept (standing s false) t e), sym (unlit_reading (standing s false) t e false refl))
  answered true t h false e f = (sym (unlit_kept (standing s true) t e), sym (unlit_reading (standing s true) t e true refl))

  -- ---- one call, given what stands
  module _ (seen : Bool) (run : SpotRun) (e : run.given.kept ≡ standing s seen) (r : SpotResult run.given run.answer run.after) (same : SameSums s run) where
    kept_step : run.after ≡ standing s (seen || lit_frame run)
    unfolding if_accepted
    kept_step = r.result.leaves ∙ go (ask (questions_of run.given)) r.small same
      where
        lit_if : ℕ → Bool
        lit_if n = elim n [ zero ↦ is_lit (sums_of run.given) | suc m ↦ false ]

        go : (n : ℕ) → (n ≡ 0 → Small (sums_of run.given)) → (lit_if n ≡ true → sums_of run.given ≡ s)
            → elim n as (λ k. Kept) [ zero ↦ next_kept run.given.kept (sums_of run.given) | suc m ↦ run.given.kept ] ≡ standing s (seen || lit_if n)
        go zero h f =
            let t = sums_of run.given in
            ap (λ (k : Kept). next_kept k t) e ∙ (answered seen t (h refl) (is_lit t) refl f).0
        go (suc n) h f = e ∙ ap (standing s) (sym (or-false seen))

    -- where it is accepted
    module _ (z : ask (questions_of run.given) ≡ 0) where
      was_lit : is_lit (sums_of run.given) ≡ lit_frame run
      was_lit = left_yes (questions_of run.given) (is_lit (sums_of run.given)) false (sym z)

      reading_step : run.answer ≡ Ok (steady_reading s seen (is_lit (sums_of run.given)))
      reading_step =
          let t = sums_of run.given in
          r.result.answer.accepted z ∙ ap (λ (k : Kept). Ok (reading k t)) e ∙ ap (λ x. Ok x) (answered seen t (r.small z) (is_lit t) refl (λ y. same (sym was_lit ∙ y))).1

      accepted_step : run.after ≡ standing s (seen || is_lit (sums_of run.given))
      accepted_step = kept_step ∙ ap (λ (b : Bool). standing s (seen || b)) (sym was_lit)

  -- ---- a list of calls
  kept_from : (seen : Bool) (k : Kept) → k ≡ standing s seen → (runs : List SpotRun) → SpotHistory k runs → AllSameSums s runs → last_kept k runs ≡ standing s (seen || lit_seen runs)
  kept_from seen k e [] h same = e ∙ ap (standing s) (sym (or-false seen))
  kept_from seen k e (run ∷ runs) h same =
      kept_from (seen || lit_frame run) run.after (kept_step seen run (h.0 ∙ e) h.1 same.0) runs h.2 same.1
      ∙ ap (standing s) (or_assoc seen (lit_frame run) (lit_seen runs))

  -- What is kept after every list of calls from the start: three zeros until a lit frame has come, and the floats of s from then on.
  pub spot_unchanged : (runs : List SpotRun) → SpotHistory start runs → AllSameSums s runs → last_kept start runs ≡ standing s (lit_seen runs)
  spot_unchanged = kept_from false start refl

  -- What every accepted call of such a list answers, where `runs` came before it: starting until a lit frame has come, this one included; from
  -- then on dark, or steady with the floats of s, which are kept.
  pub reading_unchanged : (runs : List SpotRun) (run : SpotRun) (later : List SpotRun) → SpotHistory start (runs ++ (run ∷ later)) → AllSameSums s (runs ++ (run ∷ later))
      → ask (questions_of run.given) ≡ 0 → let lit = is_lit (sums_of run.given) in
      (run.answer ≡ Ok (steady_reading s (lit_seen runs) lit)) × (run.after ≡ standing s (lit_seen runs || lit))
  reading_unchanged runs run later h same z =
      let p = history_parts start runs (run ∷ later) h in
      let q = same_parts s runs (run ∷ later) same in
      let stands = p.1.0 ∙ spot_unchanged runs p.0 q.0 in
      (reading_step (lit_seen runs) run stands p.1.1 q.1.0 z, accepted_step (lit_seen runs) run stands p.1.1 q.1.0 z)

  -- So what is kept after a list with a lit frame in it is kept after every longer one.
  pub spot_stays : (runs later : List SpotRun) → SpotHistory start (runs ++ later) → AllSameSums s (runs ++ later) → lit_seen runs ≡ true → last_kept start (runs ++ later) ≡ last_kept start runs
  spot_stays runs later h same e =
      let p = history_parts start runs later h in
      let q = same_parts s runs later same in
      let k : last_kept start runs ≡ standing s true = spot_unchanged runs p.0 q.0 ∙ ap (standing s) e in
      last_parts start runs later ∙ kept_from true (last_kept start runs) k later p.1 q.1 ∙ sym k
