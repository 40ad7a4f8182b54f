-- C's numbers have 32 bits, and the engine's fewer: each reaches the engine cut at the largest that fits. What the engine answers and leaves
-- is what the questions on C's numbers say. Assumes nothing.
use mathlib.Core.Path.{◌≡◌, refl, sym, ap, ◌∙◌}
use mathlib.Core.Bool.{Bool, true, false}
use mathlib.Core.List.{List, [], ◌∷◌, ◌++◌}
use Prim.Native.Nat.{ℕ, zero, suc, ◌<◌, min}
use native.Mathlib.Omega.{arith}
use lib.Dec.{T, leb, leb→le}
use borrow.Author.Tests.{le-leb, lt-leb, leb-true, leb-false}
use Rattle.integers.proofs.Tests.{same_test, true_is}
use Rattle.planes.specs.Layout.{two_levels}
use Rattle.questions.specs.Settings.{settings, ceiling, ceiling_of}
use Rattle.questions.specs.Questions.{Question, question, ask, size_questions, shape_questions, settings_questions, frame_questions}
use Rattle.questions.specs.Calls.{if_accepted, Call, Numbered}
use Rattle.questions.specs.declared.Settings.{Settings}
use Rattle.questions.specs.declared.Shape.{Shape}
use Rattle.questions.proofs.Asking.{AllYes, numbered, all_yes, all_yes_split}

-- ---- a number n, cut at `most` to b
-- the question whether it is at most k, below `most`, is answered alike
pub cut_asked : (most k n : ℕ) {b : ℕ} → b ≡ min n most → k < most → leb b k ≡ leb n k
cut_asked most k n {b} e h = go (leb n k) refl
  where
    go : (x : Bool) → leb n k ≡ x → leb b k ≡ leb n k
    go true p = let l = leb-true n k p in le-leb b k (omega arith) ∙ sym p
    go false p = let l = leb-false n k p in lt-leb b k (omega arith) ∙ sym p

-- and where that is a yes, b is n
pub cut_kept : (most k n : ℕ) {b : ℕ} → b ≡ min n most → k < most → leb n k ≡ true → b ≡ n
cut_kept most k n e h p = let l = leb-true n k p in omega arith

-- a frame's width, height and layout, so cut
abbrev pub cut : ℕ → ℕ → ℕ → Shape
cut width height layout = record { width = width; height = height; layout = min layout 255 }

-- ---- what holds of call c, on cut numbers, holds of call d, the same on C's numbers
module _ {A D B : Type 0} (c : Call A B) (d : Call D B) (p : c.questions ≡ d.questions) (old : c.old ≡ d.old) (new : ask d.questions ≡ 0 → c.new ≡ d.new) where
  pub carried : {n : ℕ} {after : B} → Numbered c n after → Numbered d n after
  unfolding if_accepted
  carried e = record {
    number = e.number ∙ ap ask p;
    leaves = e.leaves ∙ (λ i. if_accepted (p i) c.new (old i)) ∙ go (ask d.questions) new;
  }
    where
      go : (n : ℕ) → (n ≡ 0 → c.new ≡ d.new) → ◌≡◌ {A = B} (elim n [ zero ↦ c.new | suc k ↦ d.old ]) (elim n [ zero ↦ d.new | suc k ↦ d.old ])
      go zero same = same refl
      go (suc n) same = refl

-- ---- a frame's layout l
module _ (w h layout : ℕ) {l : ℕ} (pl : l ≡ min layout 255) where
  layout_asked : shape_questions w h l ≡ shape_questions w h layout
  layout_asked = λ i. size_questions 2 w h ++ (question 3 (cut_asked 255 7 layout pl (omega arith) i) ∷ [])

  layout_kept : AllYes (shape_questions w h layout) → l ≡ layout
  layout_kept y = cut_kept 255 7 layout pl (omega arith) y.1.1.0

  level_same : two_levels l ≡ two_levels layout
  unfolding two_levels
  level_same =
      same_test (leb 4 l) (leb 4 layout)
      (λ t. let k = leb→le 4 l t in true_is (le-leb 4 layout (omega (arith, pl, k))))
      (λ t. let k = leb→le 4 layout t in true_is (le-leb 4 l (omega (arith, pl, k))))

  -- a call, by the layout, that asks 1, 2, 3 and then `rest`
  module _ {A B : Type 0} (call : ℕ → Call A B) (rest : List Question) (t : T (numbered rest)) (asks : (x : ℕ) → (call x).questions ≡ shape_questions w h x ++ rest) (old : (call l).old ≡ (call layout).old) where
    pub shape_carried : {n : ℕ} {after : B} → Numbered (call l) n after → Numbered (call layout) n after
    shape_carried = carried (call l) (call layout) (asks l ∙ ap (λ (qs : List Question). qs ++ rest) layout_asked ∙ sym (asks layout)) old kept
      where
        kept : ask (call layout).questions ≡ 0 → (call l).new ≡ (call layout).new
        kept z =
            ap (λ (x : ℕ). (call x).new)
            (layout_kept (all_yes_split (shape_questions w h layout) rest (all_yes (shape_questions w h layout ++ rest) t 0 (sym z ∙ ap ask (asks layout)) refl)).0)

  -- ---- and its settings s
  module _ (rounds threshold : ℕ) {s : Settings} (ps : s ≡ settings (min rounds 255) (min threshold 65535)) where
    abbrev given : Settings
    given = settings rounds threshold

    -- the ceiling is the same
    ceiling_same : ceiling_of s ≡ ceiling_of given
    unfolding ceiling_of
    ceiling_same = refl

    settings_asked : settings_questions s ≡ settings_questions given
    unfolding ceiling_of
    settings_asked = λ i. question 4 (cut_asked 255 64 rounds (ap (λ (x : Settings). x.rounds) ps) (omega arith) i) ∷ question 5 (cut_asked 65535 ceiling threshold (ap (λ (x : Settings). x.threshold) ps) (omega arith) i) ∷ []

    settings-kept : AllYes (settings_questions given) → s ≡ given
    unfolding ceiling_of
    settings-kept y = ps ∙ (λ i. settings (cut_kept 255 64 rounds refl (omega arith) y.0 i) (cut_kept 65535 ceiling threshold refl (omega arith) y.1.0 i))

    -- a call, by layout and settings, that asks 1 to 5 and then `rest`, by the level and the ceiling
    module _ {A B : Type 0} (call : ℕ → Settings → Call A B) (rest : Bool → ℕ → List Question) (t : T (numbered (rest (two_levels layout) (ceiling_of given))))
        (asks : (x : ℕ) (g : Settings) → (call x g).questions ≡ frame_questions w h x g ++ rest (two_levels x) (ceiling_of g)) (old : (call l s).old ≡ (call layout given).old) where
      pub frame_carried : {n : ℕ} {after : B} → Numbered (call l s) n after → Numbered (call layout given) n after
      frame_carried = carried (call l s) (call layout given) (asks l s ∙ (λ i. (layout_asked i ++ settings_asked i) ++ rest (level_same i) (ceiling_same i)) ∙ sym (asks layout given)) old kept
        where
          kept : ask (call layout given).questions ≡ 0 → (call l s).new ≡ (call layout given).new
          kept z =
              let y = (all_yes_split (frame_questions w h layout given) (rest (two_levels layout) (ceiling_of given)) (all_yes (frame_questions w h layout given ++ rest (two_levels layout) (ceiling_of given)) t 0 (sym z ∙ ap ask (asks layout given)) refl)).0 in
              let p = all_yes_split (shape_questions w h layout) (settings_questions given) y in
              λ i. (call (layout_kept p.0 i) (settings-kept p.1 i)).new
