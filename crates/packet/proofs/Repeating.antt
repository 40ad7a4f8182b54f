-- What "packet A repeats packet B" says, both ways, and what the repeat call shows at its returns. Assumes nothing.
use Prim.Native.Nat.{ℕ, ◌*◌}
use mathlib.Core.Path.{◌≡◌, refl, sym, ap, ◌∙◌}
use mathlib.Core.Bool.{Bool, true, false, not, ◌&&◌, and_assoc}
use mathlib.Core.List.{List}
use lib.Dec.{eqb, eqb→eq}
use lib.ListN.{length}
use borrow.Author.Tests.{eq-eqb, eqb-true}
use Rattle.integers.specs.Lists.{same_list}
use Rattle.integers.proofs.Lists.{same_list_yes, same_list_is}
use Rattle.integers.proofs.Tests.{is_true, true_is, not_is, and_left, and_right}
use Rattle.questions.specs.Questions.{ask}
use Rattle.questions.proofs.Asking.{all_yes, all_yes_split}
use Rattle.little_endian.specs.Bytes.{samples_in}
use Rattle.packet.specs.Packet.{fields_of, sample_part, samples_of, same_fields, repeats}
use Rattle.packet.specs.Calls.{read_questions, repeat_questions}
use Rattle.packet.specs.declared.Fields.{Fields}
use Rattle.packet.proofs.Stores.{SoundPacket, sound_by, length_part}

-- ---- the fields
-- the first of several tests, and the rest
first_agrees : (x y : ℕ) (rest : Bool) → eqb x y && rest ≡ true → (x ≡ y) × (rest ≡ true)
first_agrees x y rest e =
    (eqb→eq x y (and_left (eqb x y) rest (true_is e)), is_true rest (and_right (eqb x y) rest (true_is e)))

pub same_fields_is : (f g : Fields) → same_fields f g ≡ true → f ≡ g
unfolding same_fields
same_fields_is f g e =
    let w = first_agrees f.shape.width g.shape.width _ e in
    let h = first_agrees f.shape.height g.shape.height _ w.1 in
    let l = first_agrees f.shape.layout g.shape.layout _ h.1 in
    let r = first_agrees f.settings.rounds g.settings.rounds _ l.1 in
    let t = eqb-true f.settings.threshold g.settings.threshold r.1 in
    λ j. record { shape = record { width = w.0 j; height = h.0 j; layout = l.0 j }; settings = record { rounds = r.0 j; threshold = t j } }

pub differ : (f g : Fields) → (f ≡ g → ⊥) → false ≡ same_fields f g
differ f g n = decided (same_fields f g) refl
  where
    decided : (v : Bool) → same_fields f g ≡ v → false ≡ same_fields f g
    decided true e = absurd (n (same_fields_is f g e))
    decided false e = sym e

-- where the four before it agree
pub threshold_decides : (f g : Fields) → f.shape.width ≡ g.shape.width → f.shape.height ≡ g.shape.height → f.shape.layout ≡ g.shape.layout → f.settings.rounds ≡ g.settings.rounds
    → eqb f.settings.threshold g.settings.threshold ≡ same_fields f g
unfolding same_fields
threshold_decides f g w h l r =
    λ j. sym (eq-eqb _ _ w) j && (sym (eq-eqb _ _ h) j && (sym (eq-eqb _ _ l) j && (sym (eq-eqb _ _ r) j && eqb f.settings.threshold g.settings.threshold)))

pub same_fields_yes : (f g : Fields) → f ≡ g → same_fields f g ≡ true
same_fields_yes f g e = sym (threshold_decides f g (cc) (cc) (cc) (cc)) ∙ eq-eqb f.settings.threshold g.settings.threshold cc

-- as the code compares them: width, height and layout, and then the settings
abbrev compared : Fields → Fields → Bool
compared f g =
    (eqb f.shape.width g.shape.width && (eqb f.shape.height g.shape.height && eqb f.shape.layout g.shape.layout))
    && (eqb f.settings.rounds g.settings.rounds && eqb f.settings.threshold g.settings.threshold)

compared_is : (f g : Fields) → compared f g ≡ same_fields f g
unfolding same_fields
compared_is f g =
    let w = eqb f.shape.width g.shape.width in
    let h = eqb f.shape.height g.shape.height in
    let l = eqb f.shape.layout g.shape.layout in
    let s = eqb f.settings.rounds g.settings.rounds && eqb f.settings.threshold g.settings.threshold in
    and_assoc w (h && l) s ∙ ap (λ (b : Bool). w && b) (and_assoc h l s)

-- what the comparison x says of two stores' fields
pub fields_compared : (a b : List ℕ) (f g : Fields) → f ≡ fields_of a → g ≡ fields_of b → (x : Bool) → x ≡ not (compared f g) → (v : Bool) → x ≡ v → same_fields (fields_of a) (fields_of b) ≡ not v
fields_compared a b f g p q x e v z = (λ j. same_fields (sym p j) (sym q j)) ∙ sym (compared_is f g) ∙ not_is (compared f g) v (sym e ∙ z)

-- ---- both ways
pub repeats_agree : (a b : List ℕ) → repeats a b ≡ true → (fields_of a ≡ fields_of b) × (samples_of a ≡ samples_of b)
unfolding repeats
repeats_agree a b e =
    let F = same_fields (fields_of a) (fields_of b) in
    let S = same_list (samples_of a) (samples_of b) in
    (same_fields_is (fields_of a) (fields_of b) (is_true F (and_left F S (true_is e))), same_list_is (samples_of a) (samples_of b) (is_true S (and_right F S (true_is e))))

pub agree_repeats : (a b : List ℕ) → fields_of a ≡ fields_of b → samples_of a ≡ samples_of b → repeats a b ≡ true
unfolding repeats
agree_repeats a b f s = λ j. same_fields_yes (fields_of a) (fields_of b) f j && same_list_yes (samples_of a) (samples_of b) s j

-- ---- the call
pub sound_both : (a b : List ℕ) → 0 ≡ ask (repeat_questions a b) → SoundPacket a × SoundPacket b
sound_both a b e =
    let y = all_yes_split (read_questions a) (read_questions b) (all_yes (repeat_questions a b) tt 0 e refl) in
    (sound_by a y.0, sound_by b y.1)

module _ (a b : List ℕ) where
  pub other-fields : same_fields (fields_of a) (fields_of b) ≡ false → false ≡ repeats a b
  unfolding repeats
  other-fields e = λ j. sym e j && same_list (samples_of a) (samples_of b)

  module _ (e : same_fields (fields_of a) (fields_of b) ≡ true) where
    -- then there are as many samples
    pub parts_alike : SoundPacket a → SoundPacket b → length (sample_part a) ≡ length (sample_part b)
    parts_alike k l =
        let f = same_fields_is (fields_of a) (fields_of b) e in
        length_part a k.at ∙ (λ j. 2 * ((f j).shape.width * (f j).shape.height)) ∙ sym (length_part b l.at)

    -- and they decide, which stand in the parts s and t
    pub samples_decide : (s t : List ℕ) → s ≡ sample_part a → t ≡ sample_part b → same_list (samples_in s) (samples_in t) ≡ repeats a b
    unfolding repeats
    samples_decide s t p q = λ j. sym e j && same_list (samples_in (p j)) (samples_in (q j))
