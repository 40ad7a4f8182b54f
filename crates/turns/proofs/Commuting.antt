-- Operations that commute with every turn, and how they are put together. Assumes nothing.
use mathlib.Core.Path.{◌≡◌, refl, sym, ◌∙◌, ap, fun_ext, subst}
use mathlib.Core.Bool.{Bool, true, false, cond}
use mathlib.Core.List.{[], ◌∷◌}
use Prim.Native.Nat.{ℕ, ◌+◌, ◌-◌, ◌%◌, ◌<◌}
use native.Mathlib.Omega.{arith}
use lib.Dec.{eqb, eqb→eq}
use lib.IntN.{ℤ, pos, neg_ℤ, ◌+ℤ◌}
use borrow.Author.Tests.{eq-eqb}
use Rattle.integers.proofs.Tests.{same_test, true_is}
use Rattle.integers.proofs.Bounds.{minus_pos}
use Rattle.integers.proofs.Linear.{linear, x₀, x₁, x₂, neg, ◌⊕◌, ◌⊖◌}
use Rattle.border.specs.Border.{reflect}
use Rattle.border.proofs.Reflection.{reflect_lt, reflect_mirror}
use Rattle.planes.specs.Layout.{red_row, red_column, on_red_row, on_red_column, two_levels, with_parities}
use Rattle.planes.specs.Planes.{Agree}
use Rattle.planes.proofs.Layouts.{row_lt, column_lt, row_with, column_with, level_with}
use Rattle.turns.specs.Pictures.{Picture, exchanged, left_right, top_bottom, flip_if_even, steps_of, if_so, turned_by, turned, ◌≈◌}
use Rattle.turns.specs.Operations.{Operation, Around, nearby}
use Rattle.turns.proofs.Pictures.{flip_is, flip_lt, ≈_refl, ≈_sym, ≈_trans, exchanged_≈, left_right_≈, top_bottom_≈, top_bottom_is}

-- the layout after an exchange, and after a left-right mirror
abbrev pub exchange_layout : ℕ → ℕ
exchange_layout l = with_parities l (red_column l) (red_row l)

abbrev pub mirror_layout : ℕ → ℕ → ℕ
mirror_layout w l = with_parities l (red_row l) (flip_if_even w (red_column l))

-- F sees only what is inside, and commutes with the exchange and with the left-right mirror; a top-bottom mirror follows. At
-- an exchange the values themselves may change: those that F reads by τ, those that it makes by υ.
pub record Commutes {A B : Type 0} (τ : A → A) (υ : B → B) (F : Operation A B) : Type 0 where
  pub agrees : (w h l : ℕ) (p q : ℕ → ℕ → A) → Agree w h p q → Agree w h (F w h l p) (F w h l q)
  pub exchange : (w h l : ℕ) (p : ℕ → ℕ → A) → Agree h w (F h w (exchange_layout l) (λ r c. τ (p c r))) (λ r c. υ (F w h l p c r))
  pub mirror : (w h l : ℕ) (p : ℕ → ℕ → A) → Agree w h (F w h (mirror_layout w l) (λ r c. p r (w - 1 - c))) (λ r c. F w h l p r (w - 1 - c))

abbrev pub same : {A : Type 0} → A → A
same a = a

-- ---- combinators
-- one after the other
pub composed : {A B C : Type 0} {τ : A → A} {υ : B → B} {φ : C → C} {F : Operation A B} {G : Operation B C}
    → Commutes τ υ F → Commutes υ φ G → Commutes τ φ (λ w h l p. G w h l (F w h l p))
composed {F = F} {G = G} f g = record {
  agrees = λ w h l p q e. g.agrees w h l (F w h l p) (F w h l q) (f.agrees w h l p q e);
  exchange = λ w h l p r c hr hc. g.agrees h w (exchange_layout l) _ _ (f.exchange w h l p) r c hr hc ∙ g.exchange w h l (F w h l p) r c hr hc;
  mirror = λ w h l p r c hr hc. g.agrees w h (mirror_layout w l) _ _ (f.mirror w h l p) r c hr hc ∙ g.mirror w h l (F w h l p) r c hr hc;
}

-- side by side
pub paired : {A B C : Type 0} {τ : A → A} {υ : B → B} {φ : C → C} {F : Operation A B} {G : Operation A C}
    → Commutes τ υ F → Commutes τ φ G → Commutes {B = B × C} τ (λ x. (υ x.0, φ x.1)) (λ w h l p r c. (F w h l p r c, G w h l p r c))
paired f g = record {
  agrees = λ w h l p q e r c hr hc. λ i. (f.agrees w h l p q e r c hr hc i, g.agrees w h l p q e r c hr hc i);
  exchange = λ w h l p r c hr hc. λ i. (f.exchange w h l p r c hr hc i, g.exchange w h l p r c hr hc i);
  mirror = λ w h l p r c hr hc. λ i. (f.mirror w h l p r c hr hc i, g.mirror w h l p r c hr hc i);
}

-- place by place
pub pointwise : {A B : Type 0} (τ : A → A) (υ : B → B) (f : A → B) → ((a : A) → f (τ a) ≡ υ (f a)) → Commutes τ υ (λ w h l p r c. f (p r c))
pointwise τ υ f e = record {
  agrees = λ w h l p q a r c hr hc. ap f (a r c hr hc);
  exchange = λ w h l p r c hr hc. e (p c r);
  mirror = λ w h l p r c hr hc. refl;
}

-- an operation on each of two planes; a place has a value of both
pub of_both : {A B : Type 0} {τ : A → A} {υ : B → B} {F : Operation A B} → Commutes τ υ F
    → Commutes {A = A × A} {B = B × B} (λ x. (τ x.0, τ x.1)) (λ x. (υ x.0, υ x.1)) (λ w h l p r c. (F w h l (λ i j. (p i j).0) r c, F w h l (λ i j. (p i j).1) r c))
of_both {A} {τ = τ} f =
    paired (composed (pointwise {A = A × A} (λ x. (τ x.0, τ x.1)) τ (λ x. x.0) (λ x. refl)) f)
    (composed (pointwise {A = A × A} (λ x. (τ x.0, τ x.1)) τ (λ x. x.1) (λ x. refl)) f)

-- an operation that is equal at every place
pub commutes_by : {A B : Type 0} {τ : A → A} {υ : B → B} {F G : Operation A B}
    → ((w h l : ℕ) (p : ℕ → ℕ → A) (r c : ℕ) → F w h l p r c ≡ G w h l p r c) → Commutes τ υ F → Commutes τ υ G
commutes_by {τ = τ} {υ = υ} e f = subst (Commutes τ υ) (λ i w h l p r c. e w h l p r c i) f

-- ---- red's parities at a place, and at the place that is turned there
pub row_exchange : (l r : ℕ) → on_red_row (exchange_layout l) r ≡ on_red_column l r
unfolding on_red_row on_red_column
row_exchange l r = ap (eqb (r % 2)) (row_with l (red_column l) (red_row l) (column_lt l) (row_lt l))

pub column_exchange : (l c : ℕ) → on_red_column (exchange_layout l) c ≡ on_red_row l c
unfolding on_red_row on_red_column
column_exchange l c = ap (eqb (c % 2)) (column_with l (red_column l) (red_row l) (column_lt l) (row_lt l))

pub row_mirror : (w l r : ℕ) → on_red_row (mirror_layout w l) r ≡ on_red_row l r
unfolding on_red_row
row_mirror w l r = ap (eqb (r % 2)) (row_with l (red_row l) (flip_if_even w (red_column l)) (row_lt l) (flip_lt w (red_column l) (column_lt l)))

pub column_mirror : (w l c : ℕ) → c < w → on_red_column (mirror_layout w l) c ≡ on_red_column l (w - 1 - c)
unfolding on_red_column
column_mirror w l c h =
    ap (eqb (c % 2)) (column_with l (red_row l) (flip_if_even w (red_column l)) (row_lt l) (flip_lt w (red_column l) (column_lt l)) ∙ flip_is w (red_column l) (column_lt l))
    ∙ turned_parity (red_column l) (column_lt l)
  where
    turned_parity : (b : ℕ) → b < 2 → eqb (c % 2) ((b + w + 1) % 2) ≡ eqb ((w - 1 - c) % 2) b
    turned_parity b l =
        same_test (eqb (c % 2) ((b + w + 1) % 2)) (eqb ((w - 1 - c) % 2) b)
        (λ t. let e : c % 2 ≡ (b + w + 1) % 2 = eqb→eq (c % 2) ((b + w + 1) % 2) t in let f : (w - 1 - c) % 2 ≡ b = omega arith in true_is (eq-eqb ((w - 1 - c) % 2) b f))
        (λ t. let e : (w - 1 - c) % 2 ≡ b = eqb→eq ((w - 1 - c) % 2) b t in let f : c % 2 ≡ (b + w + 1) % 2 = omega arith in true_is (eq-eqb (c % 2) ((b + w + 1) % 2) f))

-- place by place, and by red's parities there
pub by_parities : {A B : Type 0} (τ : A → A) (υ : B → B) (g : Bool → Bool → A → B) → ((a b : Bool) (x : A) → g b a (τ x) ≡ υ (g a b x))
    → Commutes τ υ (λ w h l p r c. g (on_red_row l r) (on_red_column l c) (p r c))
by_parities τ υ g e = record {
  agrees = λ w h l p q a r c hr hc. ap (g (on_red_row l r) (on_red_column l c)) (a r c hr hc);
  exchange = λ w h l p r c hr hc. (λ i. g (row_exchange l r i) (column_exchange l c i) (τ (p c r))) ∙ e (on_red_row l c) (on_red_column l r) (p c r);
  mirror = λ w h l p r c hr hc. λ i. g (row_mirror w l r i) (column_mirror w l c hc i) (p r (w - 1 - c));
}

-- by the layout's level, which is kept
pub by_level : {A B : Type 0} {τ : A → A} {υ : B → B} {F G : Operation A B} → Commutes τ υ F → Commutes τ υ G
    → Commutes τ υ (λ w h l p r c. cond (two_levels l) (F w h l p r c) (G w h l p r c))
by_level {A} {B} {τ} {υ} {F} {G} f g = record {
  agrees = λ w h l p q e r c hr hc. either (two_levels l) same (f.agrees w h l p q e r c hr hc) (g.agrees w h l p q e r c hr hc);
  exchange = λ w h l p r c hr hc.
      ap (λ (b : Bool). cond b (F h w (exchange_layout l) (λ i j. τ (p j i)) r c) (G h w (exchange_layout l) (λ i j. τ (p j i)) r c)) (level_with l (red_column l) (red_row l) (column_lt l) (row_lt l))
      ∙ either (two_levels l) υ (f.exchange w h l p r c hr hc) (g.exchange w h l p r c hr hc);
  mirror = λ w h l p r c hr hc.
      ap (λ (b : Bool). cond b (F w h (mirror_layout w l) (λ i j. p i (w - 1 - j)) r c) (G w h (mirror_layout w l) (λ i j. p i (w - 1 - j)) r c))
      (level_with l (red_row l) (flip_if_even w (red_column l)) (row_lt l) (flip_lt w (red_column l) (column_lt l)))
      ∙ either (two_levels l) same (f.mirror w h l p r c hr hc) (g.mirror w h l p r c hr hc);
}
  where
    either : {x x' y y' : B} (b : Bool) (φ : B → B) → x ≡ φ x' → y ≡ φ y' → cond b x y ≡ φ (cond b x' y')
    either true φ e e' = e
    either false φ e e' = e'

-- what is read from the reflected neighbourhood: g commutes with the exchange and the mirror of a neighbourhood
module _ {A B : Type 0} (τ : A → A) (υ : B → B) (g : Bool → Bool → Around A → B)
    (g_exchange : (a b : Bool) (n : Around A) → g b a (λ i j. τ (n j i)) ≡ υ (g a b n))
    (g_mirror : (a b : Bool) (n : Around A) → g a b (λ i j. n i (neg_ℤ j)) ≡ g a b n) where
  -- the mirrored neighbour of a place is the neighbour of the mirrored place
  across : (w c : ℕ) → c < w → (j : ℤ) → w - 1 - reflect w (pos c +ℤ j) ≡ reflect w (pos (w - 1 - c) +ℤ neg_ℤ j)
  across w c hc j =
      sym (reflect_mirror w (omega arith) (pos c +ℤ j))
      ∙ ap (reflect w) (linear (pos (w - 1) ∷ pos c ∷ j ∷ []) (x₀ ⊖ (x₁ ⊕ x₂)) ((x₀ ⊖ x₁) ⊕ neg x₂) tt ∙ ap (λ z. z +ℤ neg_ℤ j) (minus_pos (w - 1) c (omega arith)))

  pub nearby_commutes : Commutes τ υ (nearby g)
  unfolding nearby
  nearby_commutes = record {
    agrees = λ w h l p q e r c hr hc. ap (g (on_red_row l r) (on_red_column l c))
        (fun_ext (λ i. fun_ext (λ j. e (reflect h (pos r +ℤ i)) (reflect w (pos c +ℤ j)) (reflect_lt h (omega arith) (pos r +ℤ i)) (reflect_lt w (omega arith) (pos c +ℤ j)))));
    exchange = λ w h l p r c hr hc.
        (λ m. g (row_exchange l r m) (column_exchange l c m) (λ i j. τ (p (reflect h (pos c +ℤ j)) (reflect w (pos r +ℤ i)))))
        ∙ g_exchange (on_red_row l c) (on_red_column l r) (λ i j. p (reflect h (pos c +ℤ i)) (reflect w (pos r +ℤ j)));
    mirror = λ w h l p r c hr hc.
        (λ m. g (row_mirror w l r m) (column_mirror w l c hc m) (λ i j. p (reflect h (pos r +ℤ i)) (across w c hc j m)))
        ∙ g_mirror (on_red_row l r) (on_red_column l (w - 1 - c)) (λ i j. p (reflect h (pos r +ℤ i)) (reflect w (pos (w - 1 - c) +ℤ j)));
  }

-- ---- every turn
unfoldable pub apply : {A B : Type 0} → Operation A B → Picture A → Picture B
apply F p = record { width = p.width; height = p.height; layout = p.layout; at = F p.width p.height p.layout p.at }

-- the values of a picture, each through g
abbrev pub each : {A : Type 0} → (A → A) → Picture A → Picture A
each g p = record { width = p.width; height = p.height; layout = p.layout; at = λ r c. g (p.at r c) }

each_≈ : {A : Type 0} (g : A → A) {p q : Picture A} → p ≈ q → each g p ≈ each g q
each_≈ g e = record { widths = e.widths; heights = e.heights; layouts = e.layouts; places = λ r c hr hc. ap g (e.places r c hr hc) }

-- a turned picture whose values change by g at an exchange
unfoldable pub turned_with : {A : Type 0} → (A → A) → ℕ → Picture A → Picture A
turned_with g t p = turned t (if_so (steps_of t).exchange (each g) p)

pub turned_same : {A : Type 0} (t : ℕ) (p : Picture A) → turned_with same t p ≡ turned t p
unfolding turned_with
turned_same t p = ap (turned t) (go (steps_of t).exchange)
  where
    go : (b : Bool) → if_so b (each same) p ≡ p
    go true = refl
    go false = refl

-- a top-bottom mirror by two exchanges, where g changes nothing if done twice
top_bottom_with : {A : Type 0} (g : A → A) → ((a : A) → g (g a) ≡ a) → (p : Picture A) → top_bottom p ≈ exchanged (each g (left_right (exchanged (each g p))))
top_bottom_with g twice p =
    ≈_trans (top_bottom_is p) (unfold exchanged left_right in (record { widths = refl; heights = refl; layouts = refl; places = λ r c hr hc. sym (twice _) }))

module _ {A B : Type 0} {τ : A → A} {υ : B → B} {F : Operation A B} (f : Commutes τ υ F) (τ_twice : (a : A) → τ (τ a) ≡ a) (υ_twice : (b : B) → υ (υ b) ≡ b) where
  pub apply_≈ : {p q : Picture A} → p ≈ q → apply F p ≈ apply F q
  unfolding apply
  apply_≈ {p} {q} e = record {
    widths = e.widths;
    heights = e.heights;
    layouts = e.layouts;
    places = λ r c hr hc. f.agrees p.width p.height p.layout p.at q.at e.places r c hr hc ∙ (λ i. F (e.widths i) (e.heights i) (e.layouts i) q.at r c);
  }

  apply_exchanged : (p : Picture A) → apply F (exchanged (each τ p)) ≈ exchanged (each υ (apply F p))
  unfolding apply exchanged
  apply_exchanged p = record { widths = refl; heights = refl; layouts = refl; places = λ r c hr hc. f.exchange p.width p.height p.layout p.at r c hr hc }

  apply_left_right : (p : Picture A) → apply F (left_right p) ≈ left_right (apply F p)
  unfolding apply left_right
  apply_left_right p = record { widths = refl; heights = refl; layouts = refl; places = λ r c hr hc. f.mirror p.width p.height p.layout p.at r c hr hc }

  apply_top_bottom : (p : Picture A) → apply F (top_bottom p) ≈ top_bottom (apply F p)
  apply_top_bottom p =
      ≈_trans (apply_≈ (top_bottom_with τ τ_twice p))
      (≈_trans (apply_exchanged (left_right (exchanged (each τ p))))
      (≈_trans (exchanged_≈ (each_≈ υ (≈_trans (apply_left_right (exchanged (each τ p))) (left_right_≈ (apply_exchanged p)))))
      (≈_sym (top_bottom_with υ υ_twice (apply F p)))))

  if_applied : (b : Bool) (S : Picture A → Picture A) (U : Picture B → Picture B) → ((p q : Picture B) → p ≈ q → U p ≈ U q) → ((p : Picture A) → apply F (S p) ≈ U (apply F p))
      → (p : Picture A) (q : Picture B) → apply F p ≈ q → apply F (if_so b S p) ≈ if_so b U q
  if_applied true S U u n p q e = ≈_trans (n p) (u (apply F p) q e)
  if_applied false S U u n p q e = e

  if_exchanged : (b : Bool) (p : Picture A) → apply F (if_so b exchanged (if_so b (each τ) p)) ≈ if_so b exchanged (if_so b (each υ) (apply F p))
  if_exchanged true p = apply_exchanged p
  if_exchanged false p = ≈_refl (apply F p)

  -- doing it to the turned picture is turning what it makes of the picture
  pub apply_turned_with : (t : ℕ) (p : Picture A) → apply F (turned_with τ t p) ≈ turned_with υ t (apply F p)
  unfolding turned_with turned turned_by
  apply_turned_with t p =
      if_applied (steps_of t).mirror_top_bottom top_bottom top_bottom (λ p q. top_bottom_≈) apply_top_bottom _ _
      (if_applied (steps_of t).mirror_left_right left_right left_right (λ p q. left_right_≈) apply_left_right _ _
      (if_exchanged (steps_of t).exchange p))

-- and where no value changes
pub apply_turned : {A B : Type 0} {F : Operation A B} → Commutes same same F → (t : ℕ) (p : Picture A) → apply F (turned t p) ≈ turned t (apply F p)
apply_turned {A} {B} {F} f t p =
    subst (λ (q : Picture A). apply F q ≈ turned t (apply F p)) (turned_same t p)
    (subst (λ (q : Picture B). apply F (turned_with same t p) ≈ q) (turned_same t (apply F p)) (apply_turned_with f (λ a. refl) (λ b. refl) t p))
