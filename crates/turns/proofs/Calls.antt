-- What the code of the calls computes is what their definitions say. Assumes nothing.
use mathlib.Core.Path.{◌≡◌, refl, sym, ◌∙◌, ap, subst}
use mathlib.Core.Bool.{Bool, true, false, cond, not, beq, xor}
use mathlib.Core.List.{List, ◌++◌}
use Prim.Native.Nat.{ℕ, ◌+◌, ◌*◌, ◌/◌, ◌<◌}
use native.Mathlib.Omega.{arith}
use lib.Dec.{leb}
use lib.ListN.{get_or}
use mir.Val.{bool_byte}
use borrow.Author.Tests.{eqb-true}
use Rattle.planes.specs.Layout.{red_row, red_column, with_parities}
use Rattle.planes.specs.Planes.{listing, plane_of, Frame, frame}
use Rattle.planes.proofs.Layouts.{row_lt, column_lt, row_with, column_with, parities_again, own_parities}
use Rattle.questions.specs.Questions.{ask}
use Rattle.questions.proofs.Asking.{all_yes, Shape, shape_is}
use Rattle.questions.specs.declared.Shape.{Shape as Turned}
use Rattle.turns.specs.Pictures.{Picture, exchanged, left_right, top_bottom, flip_if_even, steps_of, if_so, turned_by, turned, followed_by, bit, number_of_steps, then_another}
use Rattle.turns.specs.Frames.{picture_of, frame_of, turn_frame}
use Rattle.turns.specs.Turning.{shape_turned, turned_shape, shape_turn_questions, length_questions, shape_of}
use Rattle.turns.specs.Filling.{mirror_place, source_row, source_plane}
use Rattle.turns.proofs.Pictures.{flip_lt}

-- whether turn t exchanges rows and columns, mirrors left-right, and top-bottom
abbrev ex_of : ℕ → Bool
ex_of t = (steps_of t).exchange

abbrev lr_of : ℕ → Bool
lr_of t = (steps_of t).mirror_left_right

abbrev tb_of : ℕ → Bool
tb_of t = (steps_of t).mirror_top_bottom

-- ---- then-another
-- the mirrors of turn s, exchanged or not
pub record Swapped (e : Bool) (s : ℕ) (q : Bool × Bool) : Type 0 where
  left_right : q.0 ≡ cond e (tb_of s) (lr_of s)
  top_bottom : q.1 ≡ cond e (lr_of s) (tb_of s)

abbrev pub swapped_if : Bool → ℕ → Bool × Bool
swapped_if e s = cond e (tb_of s, lr_of s) (lr_of s, tb_of s)

pub swapped_is : (b : Bool) (s : ℕ) {e : Bool} {q : Bool × Bool} → e ≡ b → q ≡ swapped_if b s → Swapped e s q
swapped_is b s {e} {q} f p = subst (λ (e : Bool). Swapped e s q) (sym f) (go b p)
  where
    go : (b : Bool) → q ≡ swapped_if b s → Swapped b s q
    go true p = record { left_right = λ i. (p i).0; top_bottom = λ i. (p i).1 }
    go false p = record { left_right = λ i. (p i).0; top_bottom = λ i. (p i).1 }

-- whether two steps differ, as a digit
digit : (x y : Bool) → bool_byte (not (beq x y)) ≡ bit (xor x y)
unfolding xor
digit true true = refl
digit true false = refl
digit false true = refl
digit false false = refl

-- as the code has it: an exchange in the second turn swaps the mirrors of the first
pub single_is : (s t : ℕ) {e f g l m : Bool} → e ≡ ex_of t → f ≡ ex_of s → g ≡ ex_of t → l ≡ lr_of t → m ≡ tb_of t → {q : Bool × Bool} → Swapped e s q → {a b c : ℕ}
    → a ≡ bool_byte (not (beq f g)) → b ≡ bool_byte (not (beq q.1 m)) → c ≡ bool_byte (not (beq q.0 l))
    → 4 * a + 2 * b + c ≡ then_another s t
unfolding then_another number_of_steps followed_by
single_is s t p pf pg pl pm {q} x u v w =
    (λ i. 4 * u i + 2 * v i + w i)
    ∙ (λ i. 4 * bool_byte (not (beq (pf i) (pg i))) + 2 * bool_byte (not (beq (x.top_bottom i) (pm i))) + bool_byte (not (beq (x.left_right i) (pl i))))
    ∙ (λ i. 4 * digit (ex_of s) (ex_of t) i + 2 * digit (cond (p i) (lr_of s) (tb_of s)) (tb_of t) i + digit (cond (p i) (tb_of s) (lr_of s)) (lr_of t) i)

-- ---- a layout after a step
-- a step that changes red's row parity by F and its column parity by G
parities_by : (F G : ℕ → ℕ) (k l r c : ℕ) → r < 2 → c < 2 → k ≡ with_parities l r c → with_parities k (F (red_row k)) (G (red_column k)) ≡ with_parities l (F r) (G c)
parities_by F G k l r c hr hc e =
    ap (λ (x : ℕ). with_parities x (F (red_row x)) (G (red_column x))) e
    ∙ (λ i. with_parities (with_parities l r c) (F (row_with l r c hr hc i)) (G (column_with l r c hr hc i)))
    ∙ parities_again l r c (F r) (G c) hr hc

-- ---- the turned width, height and places, by the turn's steps
module _ {A : Type 0} where
  -- what turned picture q has of picture p
  record Seen (e lr tb : Bool) (p q : Picture A) : Type 0 where
    wide : q.width ≡ cond e p.height p.width
    high : q.height ≡ cond e p.width p.height
    from : (i j : ℕ) → q.at i j ≡ cond e (p.at (mirror_place lr p.height j) (mirror_place tb p.width i)) (p.at (mirror_place tb p.height i) (mirror_place lr p.width j))

  seen : (e lr tb : Bool) (p : Picture A) → Seen e lr tb p (if_so tb top_bottom (if_so lr left_right (if_so e exchanged p)))
  unfolding exchanged left_right top_bottom mirror_place
  seen true true true p = record { wide = refl; high = refl; from = λ i j. refl }
  seen true true false p = record { wide = refl; high = refl; from = λ i j. refl }
  seen true false true p = record { wide = refl; high = refl; from = λ i j. refl }
  seen true false false p = record { wide = refl; high = refl; from = λ i j. refl }
  seen false true true p = record { wide = refl; high = refl; from = λ i j. refl }
  seen false true false p = record { wide = refl; high = refl; from = λ i j. refl }
  seen false false true p = record { wide = refl; high = refl; from = λ i j. refl }
  seen false false false p = record { wide = refl; high = refl; from = λ i j. refl }

  turned_seen : (t : ℕ) (p : Picture A) → Seen (ex_of t) (lr_of t) (tb_of t) p (turned t p)
  unfolding turned turned_by
  turned_seen t p = seen (ex_of t) (lr_of t) (tb_of t) p

  pub turned_width : (t : ℕ) (p : Picture A) → (turned t p).width ≡ cond (leb 4 t) p.height p.width
  unfolding steps_of
  turned_width t p = (turned_seen t p).wide

  pub turned_height : (t : ℕ) (p : Picture A) → (turned t p).height ≡ cond (leb 4 t) p.width p.height
  unfolding steps_of
  turned_height t p = (turned_seen t p).high

  -- ---- the turned layout
  mirror_columns : (b : Bool) (q : Picture A) (l r c : ℕ) → r < 2 → c < 2 → q.layout ≡ with_parities l r c → (if_so b left_right q).layout ≡ with_parities l r (cond b (flip_if_even q.width c) c)
  mirror_columns false q l r c hr hc e = e
  mirror_columns true q l r c hr hc e = unfold left_right in parities_by (λ x. x) (flip_if_even q.width) q.layout l r c hr hc e

  mirror_rows : (b : Bool) (q : Picture A) (l r c : ℕ) → r < 2 → c < 2 → q.layout ≡ with_parities l r c → (if_so b top_bottom q).layout ≡ with_parities l (cond b (flip_if_even q.height r) r) c
  mirror_rows false q l r c hr hc e = e
  mirror_rows true q l r c hr hc e = unfold top_bottom in parities_by (flip_if_even q.height) (λ x. x) q.layout l r c hr hc e

  -- red's parities after the turn
  turned_layout : (e lr tb : Bool) (p : Picture A)
      → let r = cond e (red_column p.layout) (red_row p.layout) in
      let c = cond e (red_row p.layout) (red_column p.layout) in
      (if_so tb top_bottom (if_so lr left_right (if_so e exchanged p))).layout
      ≡ with_parities p.layout (cond tb (flip_if_even (cond e p.width p.height) r) r) (cond lr (flip_if_even (cond e p.height p.width) c) c)
  turned_layout e lr tb p =
      mirror_rows tb (if_so lr left_right (if_so e exchanged p)) l r c' row below (mirror_columns lr (if_so e exchanged p) l r c row column (first e))
      ∙ (λ i. with_parities l (cond tb (flip_if_even (tall e lr i) r) r) (cond lr (flip_if_even (broad e i) c) c))
    where
      l : ℕ
      l = p.layout

      r : ℕ
      r = cond e (red_column l) (red_row l)

      c : ℕ
      c = cond e (red_row l) (red_column l)

      c' : ℕ
      c' = cond lr (flip_if_even (if_so e exchanged p).width c) c

      either : (b : Bool) {x y : ℕ} → x < 2 → y < 2 → cond b x y < 2
      either true hx hy = hx
      either false hx hy = hy

      row : r < 2
      row = either e (column_lt l) (row_lt l)

      column : c < 2
      column = either e (row_lt l) (column_lt l)

      below : c' < 2
      below = either lr (flip_lt (if_so e exchanged p).width c column) column

      first : (e : Bool) → (if_so e exchanged p).layout ≡ with_parities l (cond e (red_column l) (red_row l)) (cond e (red_row l) (red_column l))
      first true = unfold exchanged in refl
      first false = sym (own_parities l)

      broad : (e : Bool) → (if_so e exchanged p).width ≡ cond e p.height p.width
      broad true = unfold exchanged in refl
      broad false = refl

      tall : (e lr : Bool) → (if_so lr left_right (if_so e exchanged p)).height ≡ cond e p.width p.height
      tall true true = unfold exchanged left_right in refl
      tall true false = unfold exchanged in refl
      tall false true = unfold left_right in refl
      tall false false = refl

-- a parity of red after the mirror of a line of n places, if there is one
abbrev pub mirrored_if : Bool → ℕ → ℕ → ℕ
mirrored_if b n p = cond b (flip_if_even n p) p

pub mirrored_is : (b : Bool) (n : ℕ) {p q r : ℕ} → r ≡ cond b (flip_if_even n p) p → p ≡ q → r ≡ mirrored_if b n q
mirrored_is b n e f = e ∙ ap (mirrored_if b n) f

-- what the code makes of a shape where the turn exchanges, and where it does not: a width, a height and red's parities, each mirrored or not
pub record Exchanged (e lr tb : Bool) (s : Turned) (q : ℕ × ℕ × ℕ × ℕ) : Type 0 where
  wide : q.0 ≡ cond e s.height s.width
  high : q.1 ≡ cond e s.width s.height
  row : q.2 ≡ cond e (mirrored_if tb s.width (red_column s.layout)) (mirrored_if tb s.height (red_row s.layout))
  column : q.3 ≡ cond e (mirrored_if lr s.height (red_row s.layout)) (mirrored_if lr s.width (red_column s.layout))

abbrev pub exchanged_if : (e lr tb : Bool) → Turned → ℕ × ℕ × ℕ × ℕ
exchanged_if e lr tb s =
    cond e (s.height, s.width, mirrored_if tb s.width (red_column s.layout), mirrored_if lr s.height (red_row s.layout))
    (s.width, s.height, mirrored_if tb s.height (red_row s.layout), mirrored_if lr s.width (red_column s.layout))

pub exchanged_is : (b lr tb : Bool) (s : Turned) {e : Bool} {q : ℕ × ℕ × ℕ × ℕ} → e ≡ b → q ≡ exchanged_if b lr tb s → Exchanged e lr tb s q
exchanged_is b lr tb s {e} {q} f p = subst (λ (e : Bool). Exchanged e lr tb s q) (sym f) (go b p)
  where
    go : (b : Bool) → q ≡ exchanged_if b lr tb s → Exchanged b lr tb s q
    go true p = record { wide = λ i. (p i).0; high = λ i. (p i).1; row = λ i. (p i).2; column = λ i. (p i).3 }
    go false p = record { wide = λ i. (p i).0; high = λ i. (p i).1; row = λ i. (p i).2; column = λ i. (p i).3 }

-- and then the layout
pub shape_after : (t : ℕ) (s : Turned) {e lr tb : Bool} → e ≡ ex_of t → lr ≡ lr_of t → tb ≡ tb_of t → {q : ℕ × ℕ × ℕ × ℕ} → Exchanged e lr tb s q
    → ◌≡◌ {A = Turned} (record { width = q.0; height = q.1; layout = 4 * (s.layout / 4) + (2 * q.2 + q.3) }) (turned_shape t s)
unfolding shape_turned turned turned_by with_parities
shape_after t s {e} {lr} {tb} ei li ti {q} x = λ i. record { width = wide i; height = high i; layout = layout i }
  where
    blank : Picture Unit
    blank = record { width = s.width; height = s.height; layout = s.layout; at = λ r c. tt }

    wide : q.0 ≡ (turned_by (steps_of t) blank).width
    wide = x.wide ∙ (λ i. cond (ei i) s.height s.width) ∙ sym (seen (ex_of t) (lr_of t) (tb_of t) blank).wide

    high : q.1 ≡ (turned_by (steps_of t) blank).height
    high = x.high ∙ (λ i. cond (ei i) s.width s.height) ∙ sym (seen (ex_of t) (lr_of t) (tb_of t) blank).high

    either : (e b : Bool) (m n p r : ℕ) → cond e (mirrored_if b m p) (mirrored_if b n r) ≡ mirrored_if b (cond e m n) (cond e p r)
    either true b m n p r = refl
    either false b m n p r = refl

    layout : 4 * (s.layout / 4) + (2 * q.2 + q.3) ≡ (turned_by (steps_of t) blank).layout
    layout =
        (λ i. with_parities s.layout (x.row i) (x.column i))
        ∙ (λ i. with_parities s.layout (either e tb s.width s.height (red_column s.layout) (red_row s.layout) i) (either e lr s.height s.width (red_row s.layout) (red_column s.layout) i))
        ∙ (λ i. let r = cond (ei i) (red_column s.layout) (red_row s.layout) in let c = cond (ei i) (red_row s.layout) (red_column s.layout) in
        with_parities s.layout (mirrored_if (ti i) (cond (ei i) s.width s.height) r) (mirrored_if (li i) (cond (ei i) s.height s.width) c))
        ∙ sym (turned_layout (ex_of t) (lr_of t) (tb_of t) blank)

-- ---- a frame's shape turns as a shape with nothing at its places
pub frame_width : (t : ℕ) (f : Frame) → (turn_frame t f).width ≡ cond (leb 4 t) f.height f.width
unfolding turn_frame frame_of
frame_width t f = unfold picture_of in turned_width t (picture_of f)

pub frame_height : (t : ℕ) (f : Frame) → (turn_frame t f).height ≡ cond (leb 4 t) f.width f.height
unfolding turn_frame frame_of
frame_height t f = unfold picture_of in turned_height t (picture_of f)

pub frame_layout : (t : ℕ) (f : Frame) → (turn_frame t f).layout ≡ (shape_turned t f.width f.height f.layout).layout
unfolding turn_frame frame_of shape_turned turned turned_by picture_of
frame_layout t f =
    turned_layout (ex_of t) (lr_of t) (tb_of t) (picture_of f)
    ∙ sym (turned_layout (ex_of t) (lr_of t) (tb_of t) (record { width = f.width; height = f.height; layout = f.layout; at = λ r c. tt }))

-- ---- the turned samples
-- as rows of the given ones: their columns where the turn exchanges, else their rows
abbrev source : Bool → ℕ → ℕ → ℕ → List ℕ → ℕ → ℕ → ℕ
source e t w h s i j = cond e (source_plane s (lr_of t) (tb_of t) h w 1 w i j) (source_plane s (lr_of t) (tb_of t) w h w 1 i j)

turned_from : (t w h l : ℕ) (s : List ℕ) (i j : ℕ) → (turned t (picture_of (frame w h l s))).at i j ≡ source (ex_of t) t w h s i j
unfolding source_plane source_row
turned_from t w h l s i j = (turned_seen t (picture_of (frame w h l s))).from i j ∙ (unfold picture_of plane_of in (λ k. cond (ex_of t) (get_or s (high k) 0) (get_or s (low k) 0)))
  where
    high : mirror_place (lr_of t) h j * w + mirror_place (tb_of t) w i ≡ mirror_place (tb_of t) w i * 1 + mirror_place (lr_of t) h j * w
    high = omega arith

    low : mirror_place (tb_of t) h i * w + mirror_place (lr_of t) w j ≡ mirror_place (tb_of t) h i * w + mirror_place (lr_of t) w j * 1
    low = omega arith

turned_samples : (e : Bool) (t w h l : ℕ) (s : List ℕ) → ex_of t ≡ e → (turn_frame t (frame w h l s)).samples ≡ listing (cond e h w) (cond e w h) (source e t w h s)
unfolding turn_frame frame_of
turned_samples e t w h l s f =
    (λ i. listing ((turned_seen t p).wide i) ((turned_seen t p).high i) (λ a b. turned_from t w h l s a b i))
    ∙ (unfold picture_of in (λ i. listing (cond (f i) h w) (cond (f i) w h) (source (f i) t w h s)))
  where
    p : Picture ℕ
    p = picture_of (frame w h l s)

pub samples_high : (t : ℕ) (f : Frame) {lr tb : Bool} {out : List ℕ} → ex_of t ≡ true → lr ≡ lr_of t → tb ≡ tb_of t
    → out ≡ listing f.height f.width (source_plane f.samples lr tb f.height f.width 1 f.width) → out ≡ (turn_frame t f).samples
samples_high t f k l m e = e ∙ (λ i. listing f.height f.width (source_plane f.samples (l i) (m i) f.height f.width 1 f.width)) ∙ sym (turned_samples true t f.width f.height f.layout f.samples k)

pub samples_low : (t : ℕ) (f : Frame) {lr tb : Bool} {out : List ℕ} → ex_of t ≡ false → lr ≡ lr_of t → tb ≡ tb_of t
    → out ≡ listing f.width f.height (source_plane f.samples lr tb f.width f.height f.width 1) → out ≡ (turn_frame t f).samples
samples_low t f k l m e = e ∙ (λ i. listing f.width f.height (source_plane f.samples (l i) (m i) f.width f.height f.width 1)) ∙ sym (turned_samples false t f.width f.height f.layout f.samples k)

-- ---- what an accepted call knows
pub shape_known : (t w h l : ℕ) → 0 ≡ ask (shape_turn_questions t w h l) → Shape w h l
shape_known t w h l e = shape_is w h l (all_yes (shape_turn_questions t w h l) tt 0 e refl).1

-- and the turning call
pub record Fillable (w h l given room : ℕ) : Type 0 where
  pub shape : Shape w h l
  pub samples : given ≡ w * h
  pub buffer : room ≡ w * h

pub fillable : (t w h l given room : ℕ) → 0 ≡ ask (shape_turn_questions t w h l ++ length_questions (w * h) given room) → Fillable w h l given room
fillable t w h l given room e =
    let y = all_yes (shape_turn_questions t w h l ++ length_questions (w * h) given room) tt 0 e refl in
    record {
      shape = shape_is w h l (y.1.0, (y.1.1.0, (y.1.1.1.0, tt)));
      samples = eqb-true given (w * h) y.1.1.1.1.0;
      buffer = eqb-true room (w * h) y.1.1.1.1.1.0;
    }

-- its answer: a turned frame's shape is the frame's shape turned
pub turned_answer : (t : ℕ) (f : Frame) → turned_shape t (shape_of f) ≡ shape_of (turn_frame t f)
unfolding shape_turned
turned_answer t f = λ i. record {
  width = (turned_width t (record { width = f.width; height = f.height; layout = f.layout; at = λ r c. tt }) ∙ sym (frame_width t f)) i;
  height = (turned_height t (record { width = f.width; height = f.height; layout = f.layout; at = λ r c. tt }) ∙ sym (frame_height t f)) i;
  layout = sym (frame_layout t f) i;
}

-- ---- the loops
pub row-sample : (s : List ℕ) (b : Bool) (n from step j m : ℕ) → m ≡ mirror_place b n j → get_or s (from + m * step) 0 ≡ source_row s b n from step j
unfolding source_row
row-sample s b n from step j m e = ap (λ (k : ℕ). get_or s (from + k * step) 0) e

pub plane-sample : (s : List ℕ) (lr tb : Bool) (columns rows row_step column_step i m j : ℕ) → m ≡ mirror_place tb rows i
    → source_row s lr columns (m * row_step) column_step j ≡ source_plane s lr tb columns rows row_step column_step i j
unfolding source_plane
plane-sample s lr tb columns rows row_step column_step i m j e = ap (λ (k : ℕ). source_row s lr columns (k * row_step) column_step j) e
