-- The laws of asking: what each return of a check shows (`search asking`), and what an accepted call knows. Assumes nothing.
use Prim.Native.Nat.{ℕ, zero, suc, ◌+◌, ◌*◌, ◌≤◌, ◌<◌, max}
use mathlib.Core.Path.{◌≡◌, refl, ap, ◌∙◌, sym}
use mathlib.Core.Bool.{Bool, true, false, cond, ◌&&◌, and_assoc}
use mathlib.Core.List.{List, [], ◌∷◌, ◌++◌}
use native.Mathlib.Numerals.{add-one}
use native.Mathlib.Omega.{arith}
use lib.Dec.{T, leb, eqb, le→leb, leb→le}
use lib.ListN.{length, get_or}
use borrow.Author.Tests.{le-leb, lt-leb, eq-eqb, ne_eqb, leb-true}
use Rattle.integers.specs.Lists.{tabulate}
use Rattle.integers.proofs.Tests.{never, and_left, and_right, both, same_test}
use Rattle.planes.specs.Planes.{Sizes}
use Rattle.planes.proofs.Planes.{sized}
use Rattle.questions.specs.Settings.{ceiling_of}
use Rattle.questions.specs.Questions.{Question, question, ask, between, all_at_most, size_questions, shape_questions}
use Rattle.questions.specs.Lent.{wide_enough}
use Rattle.questions.specs.declared.Settings.{Settings}

-- ---- at a return
pub ask_end : 0 ≡ ask []
unfolding ask
ask_end = refl

pub ask_no : (b : Bool) (k : ℕ) (qs : List Question) → b ≡ false → k ≡ ask (question k b ∷ qs)
unfolding ask
ask_no b k qs e = sym (ap (λ (x : Bool). cond x (ask qs) k) e)

pub ask_yes : (b : Bool) (n k : ℕ) (qs : List Question) → b ≡ true → n ≡ ask qs → n ≡ ask (question k b ∷ qs)
unfolding ask
ask_yes b n k qs e p = p ∙ sym (ap (λ (x : Bool). cond x (ask qs) k) e)

pub between_yes : (low high n : ℕ) → low ≤ n → n ≤ high → between low high n ≡ true
unfolding between
between_yes low high n a b = simp (le-leb low n a, le-leb n high b)

pub between_low : (low high n : ℕ) → n < low → between low high n ≡ false
unfolding between
between_low low high n a = simp (lt-leb low n a)

pub between_high : (low high n : ℕ) → high < n → between low high n ≡ false
unfolding between
between_high low high n a = either (leb low n)
  where
    either : (b : Bool) → (b && leb n high) ≡ false
    either true = lt-leb n high a
    either false = refl

pub ruleset asking = (ask_end, ask_no, ask_yes, between_yes, between_low, between_high, le-leb, lt-leb, eq-eqb, ne_eqb, arith)

-- ---- all answered yes
abbrev pub AllYes : List Question → Type 0
AllYes [] = Unit
AllYes (q ∷ qs) = (q.yes ≡ true) × AllYes qs

-- no question is numbered 0: at a call's own list, `tt`
abbrev pub numbered : List Question → Bool
numbered [] = true
numbered (q ∷ qs) = cond (eqb q.number 0) false (numbered qs)

zero_yes : (qs : List Question) → T (numbered qs) → ask qs ≡ 0 → AllYes qs
unfolding ask
zero_yes [] t e = tt
zero_yes (q ∷ qs) t e = let p = first q.yes (eqb q.number 0) refl t e in (p.0, zero_yes qs p.1 p.2)
  where
    first : (b z : Bool) → eqb q.number 0 ≡ z → T (cond z false (numbered qs)) → cond b (ask qs) q.number ≡ 0 → (b ≡ true) × T (numbered qs) × (ask qs ≡ 0)
    first b true f t e = absurd t
    first true false f t e = (refl, t, e)
    first false false f t e = never (sym (eq-eqb q.number 0 e) ∙ f)

-- where n is what a check of qs answered
pub all_yes : (qs : List Question) → T (numbered qs) → (n : ℕ) → n ≡ ask qs → n ≡ 0 → AllYes qs
all_yes qs t n e z = zero_yes qs t (sym e ∙ z)

pub all_yes_split : (ps qs : List Question) → AllYes (ps ++ qs) → AllYes ps × AllYes qs
all_yes_split [] qs y = (tt, y)
all_yes_split (p ∷ ps) qs y = let r = all_yes_split ps qs y.1 in ((y.0, r.0), r.1)

pub all_yes_both : (ps qs : List Question) → AllYes ps → AllYes qs → AllYes (ps ++ qs)
all_yes_both [] qs y z = z
all_yes_both (p ∷ ps) qs y z = (y.0, all_yes_both ps qs y.1 z)

pub ask_zero : (qs : List Question) → AllYes qs → ask qs ≡ 0
ask_zero [] y = sym ask_end
ask_zero (q ∷ qs) y = sym (ask_yes q.yes 0 q.number qs y.0 (sym (ask_zero qs y.1)))

-- ---- a list of questions and then another
-- a no among the first
pub ask-first : (ps qs : List Question) (n : ℕ) → n ≡ ask ps → (n ≡ 0 → ⊥) → n ≡ ask (ps ++ qs)
unfolding ask
ask-first [] qs n e h = absurd (h e)
ask-first (p ∷ ps) qs n e h = either p.yes e (λ f. ask-first ps qs n f h)
  where
    either : (b : Bool) → n ≡ cond b (ask ps) p.number → (n ≡ ask ps → n ≡ ask (ps ++ qs)) → n ≡ cond b (ask (ps ++ qs)) p.number
    either true e f = f e
    either false e f = e

pub ask_later : (ps qs : List Question) (n : ℕ) → AllYes ps → n ≡ ask qs → n ≡ ask (ps ++ qs)
ask_later [] qs n y e = e
ask_later (p ∷ ps) qs n y e = ask_yes p.yes n p.number (ps ++ qs) y.0 (ask_later ps qs n y.1 e)

-- where n is what a check of the first answered
pub ask_then : (ps qs : List Question) (n m : ℕ) → n ≡ ask ps → T (numbered ps) → n ≡ 0 → m ≡ ask qs → m ≡ ask (ps ++ qs)
ask_then ps qs n m e t z r = ask_later ps qs m (all_yes ps t n e z) r

-- ---- what a yes says
pub between_is : (low high n : ℕ) → between low high n ≡ true → (low ≤ n) × (n ≤ high)
unfolding between
between_is low high n e = go (leb low n) refl
  where
    go : (b : Bool) → leb low n ≡ b → (low ≤ n) × (n ≤ high)
    go true p = (leb-true low n p, leb-true n high (ap (λ (b : Bool). b && leb n high) (sym p) ∙ e))
    go false p = never (sym e ∙ ap (λ (b : Bool). b && leb n high) p)

-- 1 and 2 answered yes
pub sizes_is : (least w h : ℕ) → AllYes (size_questions least w h) → Sizes least w h
sizes_is least w h y =
    let p = between_is least 2048 w y.0 in
    let q = between_is least 2048 h y.1.0 in
    sized p.0 p.1 q.0 q.1

-- 1, 2 and 3 of a frame answered yes
pub record Shape (w h l : ℕ) : Type 0 where
  pub sizes : Sizes 2 w h
  pub layout_to : l ≤ 7

pub shape_is : (w h l : ℕ) → AllYes (shape_questions w h l) → Shape w h l
shape_is w h l y = record { sizes = sizes_is 2 w h (y.0, (y.1.0, tt)); layout_to = leb-true l 7 y.1.1.0 }

-- where n is what a check of 1, 2 and then qs answered
pub sizes_known : (least w h : ℕ) (qs : List Question) (n : ℕ) → n ≡ ask (size_questions least w h ++ qs) → T (numbered qs) → n ≡ 0 → Sizes least w h
sizes_known least w h qs n e t z = sizes_is least w h (all_yes_split (size_questions least w h) qs (all_yes (size_questions least w h ++ qs) t n e z)).0

-- 18 answered yes, of two levels; and a wide buffer that is long enough at either
pub wide_room : (two : Bool) (count room : ℕ) → wide_enough two count room ≡ true → two ≡ true → 8 * count ≤ room
unfolding wide_enough
wide_room two count room e t = leb-true (8 * count) room (sym (ap (λ (b : Bool). wide_enough b count room) t) ∙ e)

pub wide_suffices : (two : Bool) (count room : ℕ) → 8 * count ≤ room → wide_enough two count room ≡ true
unfolding wide_enough
wide_suffices true count room h = le-leb (8 * count) room h
wide_suffices false count room h = refl

-- every ceiling fits two bytes
pub ceiling_fits : (s : Settings) → ceiling_of s < 65536
unfolding ceiling_of
ceiling_fits s = omega arith

-- ---- the scan: `most` is the largest of the first k samples
leb-max : (a b m : ℕ) → leb (max a b) m ≡ (leb a m && leb b m)
leb-max a b m =
    same_test (leb (max a b) m) (leb a m && leb b m)
    (λ t. let l : max a b ≤ m = leb→le (max a b) m t in both (leb a m) (leb b m) (le→leb a m (omega arith)) (le→leb b m (omega arith)))
    (λ t. let p : a ≤ m = leb→le a m (and_left (leb a m) (leb b m) t) in let q : b ≤ m = leb→le b m (and_right (leb a m) (leb b m) t) in le→leb (max a b) m (omega arith))

and_true : (b : Bool) → (b && true) ≡ b
and_true true = refl
and_true false = refl

-- with one more at the end
all_at_most_snoc : (m : ℕ) (l : List ℕ) (x : ℕ) → all_at_most m (l ++ (x ∷ [])) ≡ (all_at_most m l && leb x m)
unfolding all_at_most
all_at_most_snoc m [] x = and_true (leb x m)
all_at_most_snoc m (y ∷ ys) x = ap (λ (b : Bool). leb y m && b) (all_at_most_snoc m ys x) ∙ sym (and_assoc (leb y m) (all_at_most m ys) (leb x m))

pub scan_none : (m : ℕ) (f : ℕ → ℕ) → leb 0 m ≡ all_at_most m (tabulate 0 f)
unfolding all_at_most tabulate
scan_none m f = le-leb 0 m (omega arith)

pub scan_more : (m most k : ℕ) (f : ℕ → ℕ) {x y : ℕ} → leb most m ≡ all_at_most m (tabulate k f) → x ≡ f k → y ≡ max most x → leb y m ≡ all_at_most m (tabulate (k + 1) f)
unfolding tabulate
scan_more m most k f {x} {y} e p q =
    ap (λ (n : ℕ). leb n m) q ∙ leb-max most x m ∙ (λ j. e j && leb (p j) m)
    ∙ sym (all_at_most_snoc m (tabulate k f) (f k)) ∙ ap (λ (n : ℕ). all_at_most m (tabulate n f)) (sym (add-one k))

-- ---- the scan that tests each number, also after one above m
pub within_none : (m : ℕ) (f : ℕ → ℕ) → true ≡ all_at_most m (tabulate 0 f)
unfolding all_at_most tabulate
within_none m f = refl

pub within_more : (m k : ℕ) (f : ℕ → ℕ) {b x : Bool} → b ≡ all_at_most m (tabulate k f) → x ≡ leb (f k) m → (b && x) ≡ all_at_most m (tabulate (k + 1) f)
unfolding tabulate
within_more m k f e q =
    (λ i. e i && q i) ∙ sym (all_at_most_snoc m (tabulate k f) (f k)) ∙ ap (λ (n : ℕ). all_at_most m (tabulate n f)) (sym (add-one k))

-- ---- question 9's test, place by place
pub all_at_most_at : (m : ℕ) (l : List ℕ) → T (all_at_most m l) → (k : ℕ) → k < length l → get_or l k 0 ≤ m
unfolding all_at_most
all_at_most_at m [] t k h = absurd (omega arith)
all_at_most_at m (x ∷ xs) t zero h = leb→le x m (and_left (leb x m) (all_at_most m xs) t)
all_at_most_at m (x ∷ xs) t (suc k) h = all_at_most_at m xs (and_right (leb x m) (all_at_most m xs) t) k (omega arith)

pub all_at_most_by : (m : ℕ) (l : List ℕ) → ((k : ℕ) → k < length l → get_or l k 0 ≤ m) → T (all_at_most m l)
unfolding all_at_most
all_at_most_by m [] f = tt
all_at_most_by m (x ∷ xs) f = both (leb x m) (all_at_most m xs) (le→leb x m (f 0 (omega arith))) (all_at_most_by m xs (λ k h. f (suc k) (omega arith)))
