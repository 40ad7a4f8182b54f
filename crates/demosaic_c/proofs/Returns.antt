-- What the calls that fill single numbers show where they return. Assumes nothing.
use Rattle.std.proofs.Common.{◌≡◌, refl, sym, ap, ◌∙◌, subst, ℕ, ◌*◌, min, Bool, true, false, cond, List, [], ◌∷◌, ◌++◌, length, Result, Ok, Err, arith}
use lib.Dec.{leb, ltb, eqb}
use Rattle.planes.specs.Planes.{Frame, Planes}
use Rattle.questions.specs.Settings.{framed}
use Rattle.questions.specs.Questions.{Question, question, ask, size_questions}
use Rattle.questions.specs.Refusals.{refusal_number, number_of}
use Rattle.questions.specs.Calls.{Answered, Call, Outcome, Numbered, plain_call}
use Rattle.questions.specs.declared.Refusal.{Refusal}
use Rattle.questions.specs.declared.Shape.{Shape}
use Rattle.questions.proofs.Asking.{all_yes}
use Rattle.questions.proofs.Answering.{refusal_positive, left_no, left_yes, new_left, old_left}
use Rattle.spot.specs.Spot.{is_lit, kept, lit_spot, next_kept, reading}
use Rattle.spot.specs.Calls.{SpotGiven, sums_of, SpotResult}
use Rattle.spot.specs.declared.Kept.{Kept}
use Rattle.spot.specs.declared.Reading.{Reading}
use Rattle.spot.specs.declared.Reading.TheVariants as spot_reading
use Rattle.turns.specs.Pictures.{Picture, then_another}
use Rattle.turns.specs.Frames.{turn_frame}
use Rattle.turns.specs.Turning.{then_questions, shape_turn_questions, turn_questions, shape_turned, turned_shape, turn_call}
use Rattle.turns.specs.declared.Turn.{Turn}
use Rattle.demosaic_c.specs.Pointers.{single_call, shape, shape_of, shape_call, turned_call, SpotNumbers, number_of_reading, kept_given, reading_call}
use Rattle.demosaic_c.proofs.Cuts.{cut, cut_asked, cut_kept, carried}

-- ---- What is put into numbers is told by the answer: of a refused one the old, of the one promised its `value`.
module _ {A B : Type 0} {qs : List Question} {promised : A} where
  pub told_no : {why : Refusal} → Answered qs promised (Err why) → (new old : B) {n : ℕ} → n ≡ refusal_number why → Numbered (plain_call qs new old) n old
  told_no {why} e new old q = record { number = q ∙ e.number; leaves = left_no qs new old (refusal_number why) e.number (refusal_positive why) }

  pub told_yes : {a : A} → Answered qs promised (Ok a) → (value : A → B) (new old : B) → value promised ≡ new → Numbered (plain_call qs new old) 0 (value a)
  told_yes {a} e value new old p =
      let same : a ≡ promised = let x = e.accepted (sym e.number) in cc in
      record { number = e.number; leaves = ap value same ∙ p ∙ left_yes qs new old e.number }

-- numbers that equal what was told
pub put : {A B : Type 0} {c : Call A B} {n : ℕ} {x y : B} → x ≡ y → Numbered c n y → Numbered c n x
put p e = record { number = e.number; leaves = p ∙ e.leaves }

-- Both in one, over every answer: what is put into numbers is told by the answer, `value` of the one promised is the new, of a refused one the old.
module _ {A B : Type 0} {qs : List Question} {promised : A} (r : Result A Refusal) (e : Answered qs promised r) where
  pub told : (value : Result A Refusal → B) (new old : B) → (ask qs ≡ 0 → value (Ok promised) ≡ new) → ((number_of r ≡ 0 → ⊥) → value r ≡ old) → (a : Result A Refusal) → r ≡ a
      → Numbered (plain_call qs new old) (number_of a) (value a)
  told value new old y n a p = subst (λ (x : Result A Refusal). Numbered (plain_call qs new old) (number_of x) (value x)) p (go r e n)
    where
      go : (x : Result A Refusal) → Answered qs promised x → ((number_of x ≡ 0 → ⊥) → value x ≡ old) → Numbered (plain_call qs new old) (number_of x) (value x)
      go (Ok b) f m = told_yes f (λ (c : A). value (Ok c)) new old (y (sym f.number))
      go (Err why) f m = put (m (refusal_positive why)) (told_no f new old refl)

-- and a buffer beside them
module _ {A B D : Type 0} {c : Call A B} {after : B} where
  pub both_no : {why : Refusal} → Outcome c (Err why) after → (x y : D) {n : ℕ} → n ≡ refusal_number why → Numbered {B = B × D} (plain_call c.questions (c.new, x) (c.old, y)) n (after, y)
  both_no {why} e x y q =
      let k = e.answer.number in
      let other = refusal_positive why in
      record { number = q ∙ k; leaves = (λ i. (old_left c e.leaves (λ z. other (k ∙ z)) i, y)) ∙ left_no c.questions (c.new, x) (c.old, y) (refusal_number why) k other }

  pub both_yes : {a : A} → Outcome c (Ok a) after → (value : A → D) (x y : D) → value c.answer ≡ x → Numbered {B = B × D} (plain_call c.questions (c.new, x) (c.old, y)) 0 (after, value a)
  both_yes {a} e value x y p =
      let k = e.answer.number in
      let same : a ≡ c.answer = let z = e.answer.accepted (sym k) in cc in
      record { number = k; leaves = (λ i. (new_left c e.leaves (sym k) i, (ap value same ∙ p) i)) ∙ left_yes c.questions (c.new, x) (c.old, y) k }

-- ---- turns
module _ (turn next : ℕ) {t n : ℕ} (pt : t ≡ min turn 255) (pn : n ≡ min next 255) (before : ℕ) where
  then_kept : ask (then_questions turn next) ≡ 0 → then_another t n ≡ then_another turn next
  then_kept z =
      let y = all_yes (then_questions turn next) tt 0 (sym z) refl in
      λ i. then_another (cut_kept 255 7 turn pt (omega arith) y.0 i) (cut_kept 255 7 next pn (omega arith) y.1.0 i)

  single_carried : {k : ℕ} {after : ℕ} → Numbered (single_call t n before) k after → Numbered (single_call turn next before) k after
  single_carried =
      carried (single_call t n before) (single_call turn next before)
      (λ i. question 16 (cut_asked 255 7 turn pt (omega arith) i) ∷ question 16 (cut_asked 255 7 next pn (omega arith) i) ∷ []) refl then_kept

  abbrev single : Turn
  single = record { number = then_another t n }

  pub single_no : {why : Refusal} → Answered (then_questions t n) single (Err why) → {k : ℕ} → k ≡ refusal_number why → Numbered (single_call turn next before) k before
  single_no e q = single_carried (told_no e (then_another t n) before q)

  pub single_yes : {s : Turn} → Answered (then_questions t n) single (Ok s) → Numbered (single_call turn next before) 0 s.number
  single_yes e = single_carried (told_yes e (λ s. s.number) (then_another t n) before refl)

module _ (turn width height layout : ℕ) {t : ℕ} (pt : t ≡ min turn 255) where
  abbrev l : ℕ
  l = min layout 255

  shape_asked : shape_turn_questions t width height l ≡ shape_turn_questions turn width height layout
  shape_asked = λ i. question 16 (cut_asked 255 7 turn pt (omega arith) i) ∷ size_questions 2 width height ++ (question 3 (cut_asked 255 7 layout refl (omega arith) i) ∷ [])

  same_turn : leb turn 7 ≡ true → t ≡ turn
  same_turn = cut_kept 255 7 turn pt (omega arith)

  same_layout : leb layout 7 ≡ true → l ≡ layout
  same_layout = cut_kept 255 7 layout refl (omega arith)

  shape-kept : ask (shape_turn_questions turn width height layout) ≡ 0 → shape_turned t width height l ≡ shape_turned turn width height layout
  shape-kept z =
      let y = all_yes (shape_turn_questions turn width height layout) tt 0 (sym z) refl in
      λ i. shape_turned (same_turn y.0 i) width height (same_layout y.1.1.1.0 i)

  module _ (before : Picture Unit) where
    shape_carried : {k : ℕ} {after : Picture Unit} → Numbered (shape_call t width height l before) k after → Numbered (shape_call turn width height layout before) k after
    shape_carried = carried (shape_call t width height l before) (shape_call turn width height layout before) shape_asked refl shape-kept

    abbrev cut_turned : Picture Unit
    cut_turned = shape_turned t width height l

    -- what the turn answered, of a shape
    abbrev Told : Shape → Result Shape Refusal → Type 0
    Told s r = Answered (shape_turn_questions t s.width s.height s.layout) (turned_shape t s) r

    module _ {s : Shape} (ps : s ≡ cut width height layout) where
      abbrev told_cut : {r : Result Shape Refusal} → Told s r → Told (cut width height layout) r
      told_cut {r} e = subst (λ (x : Shape). Told x r) ps e

      pub shape_no : {why : Refusal} → Told s (Err why) → {k : ℕ} → k ≡ refusal_number why → Numbered (shape_call turn width height layout before) k before
      shape_no e q = shape_carried (told_no (told_cut e) cut_turned before q)

      pub shape_yes : {turned : Shape} → Told s (Ok turned) → Numbered (shape_call turn width height layout before) 0 (shape turned.width turned.height turned.layout)
      shape_yes e = shape_carried (told_yes (told_cut e) (λ x. shape x.width x.height x.layout) cut_turned before refl)

  module _ (samples out : List ℕ) (before : Picture Unit) where
    abbrev given : Frame
    given = record { width = width; height = height; layout = layout; samples = samples }

    abbrev cut_frame : Frame
    cut_frame = framed (cut width height layout) samples

    frame-kept : ask (turn_questions turn given (length out)) ≡ 0 → turn_frame t cut_frame ≡ turn_frame turn given
    frame-kept z =
        let y = all_yes (turn_questions turn given (length out)) tt 0 (sym z) refl in
        λ i. turn_frame (same_turn y.0 i) (record { width = width; height = height; layout = same_layout y.1.1.1.0 i; samples = samples })

    frame_carried : {k : ℕ} {after : List ℕ × Picture Unit} → Numbered (turned_call t cut_frame out before) k after → Numbered (turned_call turn given out before) k after
    frame_carried =
        carried (turned_call t cut_frame out before) (turned_call turn given out before)
        (ap (λ (qs : List Question). qs ++ (question 6 (eqb (length samples) (width * height)) ∷ question 7 (eqb (length out) (width * height)) ∷ [])) shape_asked) refl
        (λ z. λ i. ((frame-kept z i).samples, shape_of (frame-kept z i)))

    module _ {s : Shape} (ps : s ≡ cut width height layout) {after : List ℕ} where
      abbrev frame_cut : {r : Result Shape Refusal} → Outcome (turn_call t (framed s samples) out) r after → Outcome (turn_call t cut_frame out) r after
      frame_cut {r} e = subst (λ (x : Shape). Outcome (turn_call t (framed x samples) out) r after) ps e

      pub frame_no : {why : Refusal} → Outcome (turn_call t (framed s samples) out) (Err why) after → {k : ℕ} → k ≡ refusal_number why → Numbered (turned_call turn given out before) k (after, before)
      frame_no e q = frame_carried (both_no (frame_cut e) (shape_of (turn_frame t cut_frame)) before q)

      pub frame_yes : {turned : Shape} → Outcome (turn_call t (framed s samples) out) (Ok turned) after → Numbered (turned_call turn given out before) 0 (after, shape turned.width turned.height turned.layout)
      frame_yes e = frame_carried (both_yes (frame_cut e) (λ x. shape x.width x.height x.layout) (shape_of (turn_frame t cut_frame)) before refl)

-- ---- the spot
-- what a reading puts into C's numbers
abbrev pub spot_put : SpotNumbers → Reading → SpotNumbers
spot_put before spot_reading.Starting = record { spot = before.spot; lit = 0; reading = 0 }
spot_put before spot_reading.Dark = record { spot = before.spot; lit = 1; reading = 1 }
spot_put before (spot_reading.Steady s) = record { spot = s; lit = 1; reading = 2 }

module _ (width height : ℕ) (three : Planes (List ℕ)) (row column : ℕ) (before : SpotNumbers) where
  abbrev g : SpotGiven
  g = kept_given width height three row column before

  -- lit, dark or starting
  put_is : spot_put before (reading g.kept (sums_of g)) ≡ (reading_call width height three row column before).new
  unfolding next_kept reading
  put_is = go (ltb 0 before.lit) (is_lit (sums_of g))
    where
      go : (lit b : Bool) → let k = kept before.spot lit in
          let next : Kept = cond b (kept (lit_spot k (sums_of g)) true) k in
          let found : Reading = cond b (spot_reading.Steady (lit_spot k (sums_of g))) (cond lit spot_reading.Dark spot_reading.Starting) in
          spot_put before found ≡ record { spot = next.spot; lit = cond next.lit 1 0; reading = number_of_reading found }
      go lit true = refl
      go true false = refl
      go false false = refl

  pub spot_no : {why : Refusal} {after : Kept} → SpotResult g (Err why) after → {k : ℕ} → k ≡ refusal_number why → Numbered (reading_call width height three row column before) k before
  spot_no e q = told_no e.result.answer (reading_call width height three row column before).new before q

  pub spot_yes : {r : Reading} {after : Kept} → SpotResult g (Ok r) after → Numbered (reading_call width height three row column before) 0 (spot_put before r)
  spot_yes e = told_yes e.result.answer (spot_put before) (reading_call width height three row column before).new before put_is
