-- What the program's questions say of its input, and what reading it shows at its returns. Assumes nothing.
use Prim.Native.Nat.{ℕ, ◌*◌, ◌≤◌, ◌<◌}
use mathlib.Core.Path.{◌≡◌, refl, sym, ap, ◌∙◌, subst}
use mathlib.Core.Bool.{true}
use mathlib.Core.List.{List, [], ◌∷◌}
use lib.Dec.{leb}
use lib.ListN.{length}
use borrow.Author.Tests.{le-leb, lt-leb, leb-true}
use Rattle.questions.specs.Settings.{ceiling_of}
use Rattle.questions.specs.Questions.{Question, ask, all_at_most}
use Rattle.std.proofs.Common.{Result, Ok, Err}
use Rattle.questions.specs.Refusals.{refusal_number, number_of}
use Rattle.questions.specs.declared.Refusal.{Refusal}
use Rattle.questions.specs.declared.Refusal.TheVariants.{ProgramInput}
use Rattle.questions.specs.Calls.{Answered}
use Rattle.questions.proofs.Asking.{AllYes, all_yes, all_yes_split, ask_end, ask_no, ask_yes, ask_later}
use Rattle.questions.proofs.Answering.{refused-first, answer_no, answer_yes}
use Rattle.little_endian.proofs.Samples.{length-samples_in}
use Rattle.packet.specs.Packet.{fields_of, sample_part, samples_of}
use Rattle.packet.specs.Calls.{read_questions, ReadResult}
use Rattle.packet.specs.declared.Fields.{Fields}
use Rattle.packet.proofs.Stores.{Allowed, SoundPacket, sound, sound_by, length_part}
use Rattle.program.specs.Program.{count_question, program_questions, InputResult}

-- ---- what an answer says
module _ {qs : List Question} {f : Fields} {r : Result Fields Refusal} (e : Answered qs f r) where
  pub refused_number : (why : Refusal) → r ≡ Err why → refusal_number why ≡ ask qs
  refused_number why p = ap number_of (sym p) ∙ e.number

  pub sound_fields : (g : Fields) → r ≡ Ok g → (ask qs ≡ 0) × (g ≡ f)
  sound_fields g p = (none, let a = e.accepted none in cc)
    where
      none : ask qs ≡ 0
      none = sym e.number ∙ ap number_of p

-- ---- at the returns
pub input_long : (s : List ℕ) → 4096 < length s → InputResult s (Err ProgramInput)
input_long s h = answer_no ProgramInput refl (ask_no (leb (length s) 4096) 17 _ (lt-leb (length s) 4096 h))

module _ (s : List ℕ) (short : length s ≤ 4096) where
  -- the reader refused
  pub input_refused : (why : Refusal) {r : Result Fields Refusal} → number_of r ≡ refusal_number why → refusal_number why ≡ ask (read_questions s) → InputResult s r
  input_refused why e p = answer_no why e (ask_yes _ (refusal_number why) 17 _ (le-leb (length s) 4096 short) (refused-first (read_questions s) _ why _ refl p))

  -- the reader accepted
  module _ (f : Fields) {r : Result Fields Refusal} (e : ReadResult s r) (p : r ≡ Ok f) where
    abbrev count : ℕ
    count = f.shape.width * f.shape.height

    fields : f ≡ fields_of s
    fields = (sound_fields e f p).1

    none : 0 ≡ ask (read_questions s)
    none = sym (sound_fields e f p).0

    pub input_allowed : Allowed f
    input_allowed = subst (λ (g : Fields). Allowed g) (sym fields) (sound s none).at.fields

    -- 17 of the samples is left
    rest : (n : ℕ) → n ≡ ask (count_question f ∷ []) → n ≡ ask (program_questions s)
    rest n q =
        ask_yes _ n 17 _ (le-leb (length s) 4096 short)
        (ask_later (read_questions s) _ n (all_yes (read_questions s) tt 0 none refl) (q ∙ ap (λ (g : Fields). ask (count_question g ∷ [])) fields))

    pub input_many : 1024 < count → InputResult s (Err ProgramInput)
    input_many h = answer_no ProgramInput refl (rest 17 (ask_no (leb count 1024) 17 [] (lt-leb count 1024 h)))

    pub input_sound : count ≤ 1024 → InputResult s (Ok f)
    input_sound h = answer_yes (rest 0 (ask_yes (leb count 1024) 0 17 [] (le-leb count 1024 h) ask_end)) (ap (λ (g : Fields). Ok g) fields)

-- ---- an accepted input
known : (s : List ℕ) → ask (program_questions s) ≡ 0 → AllYes (read_questions s) × AllYes (count_question (fields_of s) ∷ [])
known s a = all_yes_split (read_questions s) (count_question (fields_of s) ∷ []) (all_yes (program_questions s) tt 0 (sym a) refl).1

pub sound_input : (s : List ℕ) → ask (program_questions s) ≡ 0 → SoundPacket s
sound_input s a = sound_by s (known s a).0

-- what is known of its fields f and its samples
pub record Finishable (f : Fields) (samples : List ℕ) : Type 0 where
  pub fields : Allowed f
  pub long : length samples ≡ f.shape.width * f.shape.height
  pub small : all_at_most (ceiling_of f.settings) samples ≡ true
  pub few : f.shape.width * f.shape.height ≤ 1024

pub finishable : (s : List ℕ) → ask (program_questions s) ≡ 0 → (f : Fields) → f ≡ fields_of s → Finishable f (samples_of s)
finishable s a f e =
    let k = sound_input s a in
    let g = fields_of s in
    subst (λ (f : Fields). Finishable f (samples_of s)) (sym e)
    record {
      fields = k.at.fields;
      long = length-samples_in (sample_part s) (g.shape.width * g.shape.height) (length_part s k.at);
      small = k.small;
      few = leb-true (g.shape.width * g.shape.height) 1024 (known s a).1.0;
    }
