-- What is printed is the program's text: of an accepted input the mosaic is read, the frame is finished, and its planes make the text.
-- Assumes nothing.
use Prim.Native.Nat.{ℕ, ◌*◌, ◌≤◌}
use mathlib.Core.Path.{◌≡◌, sym, ap, ◌∙◌, subst}
use mathlib.Core.List.{List}
use native.Mathlib.Omega.{arith}
use lib.ListN.{length}
use lib.Seq.{length-sets}
use borrow.Author.Tests.{eq-eqb, le-leb}
use Rattle.planes.specs.Layout.{two_levels}
use Rattle.questions.specs.Settings.{ceiling_of}
use Rattle.questions.specs.Questions.{ask}
use Rattle.questions.specs.Lent.{Lent, rooms_of, buffer_questions}
use Rattle.std.specs.Prelude.{IsOk}
use Rattle.std.proofs.Common.{Result, Ok, Err}
use Rattle.questions.specs.Refusals.{Answer, refusal_number}
use Rattle.questions.specs.declared.Refusal.{Refusal}
use Rattle.questions.specs.Calls.{Outcome}
use Rattle.questions.proofs.Asking.{all_yes_both, ask_zero, wide_suffices}
use Rattle.questions.proofs.Answering.{refusal_positive, answered_ok, left_no, left_yes, new_left}
use Rattle.packet.specs.Packet.{fields_of, samples_of}
use Rattle.packet.specs.Calls.{fields_questions, store_questions, filling_questions, mosaic_questions, mosaic_call}
use Rattle.packet.specs.declared.Fields.{Fields}
use Rattle.packet.proofs.Stores.{SoundPacket}
use Rattle.finishing.specs.Finishing.{finish_lists}
use Rattle.finishing.specs.Calls.{finish_questions, finish_call}
use Rattle.printing.specs.Text.{frame_text, refusal, Written}
use Rattle.program.specs.Program.{program_questions, packet_frame, finished_text, program_text, InputResult, Buffers}
use Rattle.program.proofs.Inputs.{refused_number, sound_fields, sound_input, Finishable, finishable}

-- ---- the program's text, by what reading the input answered
module _ (s : List ℕ) {r : Result Fields Refusal} (e : InputResult s r) {out after : List ℕ} {count : ℕ} where
  pub text_no : (why : Refusal) → r ≡ Err why → {n : ℕ} → n ≡ refusal_number why → Written (refusal n) out count after → Written (program_text s) out count after
  text_no why p q w = subst (λ (text : List ℕ). Written text out count after) (ap refusal q ∙ same) w
    where
      k : refusal_number why ≡ ask (program_questions s)
      k = refused_number e why p

      same : refusal (refusal_number why) ≡ program_text s
      same = unfold program_text in
          ap refusal k ∙ left_no (program_questions s) (finished_text (fields_of s) (samples_of s)) (refusal (ask (program_questions s))) (refusal_number why) k (refusal_positive why)

  pub text_yes : (f : Fields) → r ≡ Ok f → Written (finished_text f (samples_of s)) out count after → Written (program_text s) out count after
  text_yes f p w = subst (λ (text : List ℕ). Written text out count after) same w
    where
      k : (ask (program_questions s) ≡ 0) × (f ≡ fields_of s)
      k = sound_fields e f p

      same : finished_text f (samples_of s) ≡ program_text s
      same = unfold program_text in
          ap (λ (g : Fields). finished_text g (samples_of s)) k.1
          ∙ left_yes (program_questions s) (finished_text (fields_of s) (samples_of s)) (refusal (ask (program_questions s))) (sym k.0)

-- the bytes written lie within the buffer
pub written_within : {text before after : List ℕ} {count : ℕ} → Written text before count after → count ≤ length after
written_within {text} {before} w = omega (arith, w.fit, ap length w.buffer, length-sets before 0 text)

-- ---- an accepted input
-- its mosaic is filled
module _ (s : List ℕ) (k : SoundPacket s) {mosaic filled : List ℕ} {r : Result Fields Refusal} (fit : length mosaic ≡ (fields_of s).shape.width * (fields_of s).shape.height)
    (m : Outcome (mosaic_call s mosaic) r filled) where
  mosaic_asked : ask (mosaic_questions s (length mosaic)) ≡ 0
  mosaic_asked =
      ask_zero (mosaic_questions s (length mosaic))
      (all_yes_both (store_questions s) (filling_questions (fields_of s) (samples_of s) (length mosaic)) k.at.answers (eq-eqb _ _ fit, (k.small, tt)))

  mosaic_accepts : IsOk r
  mosaic_accepts = answered_ok m.answer (sym mosaic_asked)

  mosaic_filled : filled ≡ samples_of s
  mosaic_filled = new_left (mosaic_call s mosaic) m.leaves mosaic_asked

-- its planes are finished
module _ (f : Fields) (samples : List ℕ) (k : Finishable f samples) {mosaic out : List ℕ} (before : Lent) {after : Lent} {r : Answer} (room : Buffers (f.shape.width * f.shape.height) mosaic before out)
    (m : Outcome (finish_call (packet_frame f samples) f.settings before) r after) where
  finish_asked : ask (finish_questions (packet_frame f samples) f.settings (rooms_of before)) ≡ 0
  finish_asked =
      ask_zero (finish_questions (packet_frame f samples) f.settings (rooms_of before))
      (all_yes_both (fields_questions f) (buffer_questions (ceiling_of f.settings) (two_levels f.shape.layout) (f.shape.width * f.shape.height) samples (rooms_of before)) k.fields.answers
      (eq-eqb _ _ k.long, (eq-eqb _ _ room.red_room, (eq-eqb _ _ room.green_room, (eq-eqb _ _ room.blue_room, (le-leb _ _ room.work_room, (wide_suffices _ _ _ room.wide_room, (k.small, tt))))))))

  finish_accepts : IsOk r
  finish_accepts = answered_ok m.answer (sym finish_asked)

  planes_finished : after.three ≡ finish_lists (packet_frame f samples) f.settings
  planes_finished = ap (λ (l : Lent). l.three) (new_left (finish_call (packet_frame f samples) f.settings before) m.leaves finish_asked)

-- and they are printed
module _ (s : List ℕ) (a : ask (program_questions s) ≡ 0) (f : Fields) (e : f ≡ fields_of s) {mosaic filled out : List ℕ} (before : Lent) {r : Result Fields Refusal}
    (room : Buffers (f.shape.width * f.shape.height) mosaic before out) (m : Outcome (mosaic_call s mosaic) r filled) where
  fit : length mosaic ≡ (fields_of s).shape.width * (fields_of s).shape.height
  fit = room.mosaic_room ∙ ap (λ (g : Fields). g.shape.width * g.shape.height) e

  pub reading_accepts : IsOk r
  reading_accepts = mosaic_accepts s (sound_input s a) fit m

  same : filled ≡ samples_of s
  same = mosaic_filled s (sound_input s a) fit m

  module _ {after : Lent} {q : Answer} (n : Outcome (finish_call (packet_frame f filled) f.settings before) q after) where
    finished : Outcome (finish_call (packet_frame f (samples_of s)) f.settings before) q after
    finished = subst (λ (x : List ℕ). Outcome (finish_call (packet_frame f x) f.settings before) q after) same n

    pub finishing_accepts : IsOk q
    finishing_accepts = finish_accepts f (samples_of s) (finishable s a f e) before room finished

    pub text_printed : {out_after : List ℕ} {count : ℕ} → Written (frame_text f.shape.width f.shape.height after.three) out count out_after → Written (finished_text f (samples_of s)) out count out_after
    text_printed {out_after} {count} w =
        let text : frame_text f.shape.width f.shape.height after.three ≡ finished_text f (samples_of s) = unfold finished_text in ap (frame_text f.shape.width f.shape.height) (planes_finished f (samples_of s) (finishable s a f e) before room finished) in
        subst (λ (text : List ℕ). Written text out count out_after) text w
