-- What C's calls on planes show where they return: the engine's promise on cut numbers, carried to C's numbers. Assumes nothing.
use Rattle.std.proofs.Common.{◌≡◌, refl, subst, Ok, Err}
use mathlib.Core.List.{List, [], ◌∷◌, ◌++◌}
use Prim.Native.Nat.{ℕ, ◌+◌, ◌*◌, min}
use lib.Dec.{leb, eqb}
use lib.IntN.{ℤ}
use lib.ListN.{length}
use Rattle.planes.specs.Planes.{frame, Planes}
use Rattle.questions.specs.Settings.{framed, ceiling, settings}
use Rattle.questions.specs.Questions.{question, samples_question}
use Rattle.questions.specs.Lent.{Lent, rooms_of, buffer_questions}
use Rattle.questions.specs.Refusals.{Answer, number_of, refusal_number}
use Rattle.questions.specs.Calls.{Outcome, Numbered}
use Rattle.questions.specs.declared.Settings.{Settings}
use Rattle.questions.specs.declared.Shape.{Shape}
use Rattle.questions.specs.declared.Refusal.{Refusal}
use Rattle.questions.proofs.Answering.{to_number}
use Rattle.estimate.specs.Calls.{estimate_call}
use Rattle.update.specs.Calls.{update_call}
use Rattle.rounds.specs.Calls.{planes_questions, rounds_call}
use Rattle.finishing.specs.Calls.{finish_call}
use Rattle.packet.specs.Packet.{distance}
use Rattle.packet.specs.Calls.{write_call}
use Rattle.packet.specs.declared.Fields.{Fields}
use Rattle.demosaic_c.specs.Pointers.{fields, length_call}
use Rattle.demosaic_c.proofs.Returns.{both_no, both_yes}
use Rattle.demosaic_c.proofs.Cuts.{cut, shape_carried, frame_carried}

module _ (w h layout : ℕ) (samples : List ℕ) {k : Shape} (pk : k ≡ cut w h layout) where
  abbrev l : ℕ
  l = min layout 255

  -- ---- calls without settings
  pub estimate_returned : (before : Planes (List ℕ)) {r : Answer} {after : Planes (List ℕ)} {n : ℕ} → Outcome (estimate_call ceiling (framed k samples) before) r after → n ≡ number_of r
      → Numbered (estimate_call ceiling (frame w h layout samples) before) n after
  estimate_returned before {r} {after} e p =
      shape_carried w h layout refl (λ x. estimate_call ceiling (frame w h x samples) before) _ tt (λ x. refl) refl
      (to_number (subst (λ (x : Shape). Outcome (estimate_call ceiling (framed x samples) before) r after) pk e) p)

  pub update_returned : (green : List ℕ) (work : List ℤ) {r : Answer} {after : List ℕ × List ℤ} {n : ℕ} → Outcome (update_call ceiling (framed k samples) green work) r after → n ≡ number_of r
      → Numbered (update_call ceiling (frame w h layout samples) green work) n after
  update_returned green work {r} {after} e p =
      shape_carried w h layout refl (λ x. update_call ceiling (frame w h x samples) green work) _ tt (λ x. refl) refl
      (to_number (subst (λ (x : Shape). Outcome (update_call ceiling (framed x samples) green work) r after) pk e) p)

  -- ---- calls with settings
  module _ (rounds threshold : ℕ) {s : Settings} (ps : s ≡ settings (min rounds 255) (min threshold 65535)) where
    pub rounds_returned : (before : Lent) {r : Answer} {after : Lent} {n : ℕ} → Outcome (rounds_call (framed k samples) s before) r after → n ≡ number_of r
        → Numbered (rounds_call (frame w h layout samples) (settings rounds threshold) before) n after
    rounds_returned before {r} {after} e p =
        frame_carried w h layout refl rounds threshold ps (λ x g. rounds_call (frame w h x samples) g before)
        (λ two top. buffer_questions top two (w * h) samples (rooms_of before) ++ planes_questions top before.three) tt (λ x g. refl) refl
        (to_number (subst (λ (x : Shape). Outcome (rounds_call (framed x samples) s before) r after) pk e) p)

    pub finish_returned : (before : Lent) {r : Answer} {after : Lent} {n : ℕ} → Outcome (finish_call (framed k samples) s before) r after → n ≡ number_of r
        → Numbered (finish_call (frame w h layout samples) (settings rounds threshold) before) n after
    finish_returned before {r} {after} e p =
        frame_carried w h layout refl rounds threshold ps (λ x g. finish_call (frame w h x samples) g before) (λ two top. buffer_questions top two (w * h) samples (rooms_of before)) tt (λ x g. refl) refl
        (to_number (subst (λ (x : Shape). Outcome (finish_call (framed x samples) s before) r after) pk e) p)

    -- the writer, and how many bytes it wrote
    abbrev given : Shape → Fields
    given x = record { shape = x; settings = s }

    module _ (out : List ℕ) (before : ℕ) {after : List ℕ} where
      write_carried : {n m : ℕ} → Numbered (length_call (given (cut w h layout)) samples out before) n (after, m) → Numbered (length_call (fields w h layout (settings rounds threshold)) samples out before) n (after, m)
      write_carried =
          frame_carried w h layout refl rounds threshold ps (λ x g. length_call (fields w h x g) samples out before)
          (λ two top. question 6 (eqb (length samples) (w * h)) ∷ samples_question top samples ∷ question 14 (leb (2 * (w * h) + 12) (length out)) ∷ []) tt (λ x g. refl) refl

      pub write_no : {why : Refusal} → Outcome (write_call (given k) samples out) (Err why) after → {n : ℕ} → n ≡ refusal_number why
          → Numbered (length_call (fields w h layout (settings rounds threshold)) samples out before) n (after, before)
      write_no {why} e q = write_carried (both_no (subst (λ (x : Shape). Outcome (write_call (given x) samples out) (Err why) after) pk e) (distance (given (cut w h layout))) before q)

      pub write_yes : {m : ℕ} → Outcome (write_call (given k) samples out) (Ok m) after → Numbered (length_call (fields w h layout (settings rounds threshold)) samples out before) 0 (after, m)
      write_yes {m} e = write_carried (both_yes (subst (λ (x : Shape). Outcome (write_call (given x) samples out) (Ok m) after) pk e) (λ n. n) (distance (given (cut w h layout))) before refl)
