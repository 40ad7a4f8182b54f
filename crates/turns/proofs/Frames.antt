-- Planes as lists, and turned frames: as many samples, the same values, and a turn that undoes each turn. Assumes nothing.
use mathlib.Core.Path.{◌≡◌, refl, sym, ◌∙◌, ap, subst}
use mathlib.Core.Bool.{Bool, true, false, cond, xor}
use mathlib.Core.List.{List}
use mathlib.Core.Logic.{◌↔◌}
use Prim.Native.Nat.{ℕ, ◌+◌, ◌*◌, ◌-◌, ◌/◌, ◌%◌, ◌≤◌, ◌<◌}
use native.Mathlib.Omega.{arith}
use lib.Dec.{T}
use lib.ListN.{length, get_or}
use Rattle.integers.specs.Lists.{tabulate}
use Rattle.integers.proofs.Lists.{length-tabulate, get_or-tabulate}
use Rattle.integers.proofs.Tests.{same_test, is_true, true_is}
use Rattle.planes.specs.Layout.{red_row, red_column, two_levels, with_parities}
use Rattle.planes.specs.Planes.{listing, plane_of, Frame, frame}
use Rattle.planes.proofs.Layouts.{row_lt, column_lt, same_level}
use Rattle.planes.proofs.Planes.{length-listing, listing_agree, listing-plane_of, plane_of-listing, row_inside, column_inside}
use Rattle.std.proofs.lemmas.Nat.{mul-add-lt}
use Rattle.questions.specs.Questions.{all_at_most}
use Rattle.questions.proofs.Asking.{all_at_most_at, all_at_most_by}
use Rattle.turns.specs.Pictures.{Picture, exchanged, left_right, top_bottom, steps_of, if_so, turned_by, turned, followed_by, number_of_steps, then_another, ◌≈◌}
use Rattle.turns.specs.Frames.{picture_of, frame_of, turn_frame}
use Rattle.turns.proofs.Pictures.{flip_lt, ≈_trans, turned_by_≈, turned_then, steps_of_number}

-- ---- frames and pictures
pub picture_of-frame : (p : Picture ℕ) → picture_of (frame_of p) ≈ p
unfolding picture_of frame_of
picture_of-frame p = record { widths = refl; heights = refl; layouts = refl; places = plane_of-listing 0 p.width p.height p.at }

pub frame_of_≈ : {p q : Picture ℕ} → p ≈ q → frame_of p ≡ frame_of q
unfolding frame_of
frame_of_≈ {p} {q} e =
    (λ i. frame p.width p.height p.layout (listing_agree p.width p.height e.places i))
    ∙ (λ i. frame (e.widths i) (e.heights i) (e.layouts i) (listing (e.widths i) (e.heights i) q.at))

-- a frame with as many samples as places
pub record Whole (f : Frame) : Type 0 where
  pub count : length f.samples ≡ f.width * f.height

pub frame_of_picture : (f : Frame) → Whole f → frame_of (picture_of f) ≡ f
unfolding frame_of picture_of
frame_of_picture f e = λ i. frame f.width f.height f.layout (listing-plane_of 0 f.width f.height f.samples e.count i)

pub turned-whole : (t : ℕ) (f : Frame) → Whole (turn_frame t f)
unfolding turn_frame frame_of
turned-whole t f = record { count = length-listing _ _ _ }

-- ---- turning twice
pub turn_frame_then : (s t : ℕ) (f : Frame) → turn_frame t (turn_frame s f) ≡ turn_frame (then_another s t) f
unfolding turn_frame turned
turn_frame_then s t f =
    frame_of_≈ (≈_trans (turned_by_≈ (steps_of t) (picture_of-frame (turned_by (steps_of s) (picture_of f)))) (turned_then s t (picture_of f)))

-- the turn that undoes turn t: the same exchange, and then the mirrors that it leaves
unfoldable pub undo : ℕ → ℕ
undo t = let s = steps_of t in number_of_steps (record {
  exchange = s.exchange;
  mirror_left_right = cond s.exchange s.mirror_top_bottom s.mirror_left_right;
  mirror_top_bottom = cond s.exchange s.mirror_left_right s.mirror_top_bottom;
})

pub undo_is : (t : ℕ) → then_another t (undo t) ≡ 0
unfolding then_another undo
undo_is t = rw (steps_of_number _) (go (steps_of t).exchange (steps_of t).mirror_left_right (steps_of t).mirror_top_bottom)
  where
    go : (e lr tb : Bool) → number_of_steps (followed_by (record { exchange = e; mirror_left_right = lr; mirror_top_bottom = tb }) (record { exchange = e; mirror_left_right = cond e tb lr; mirror_top_bottom = cond e lr tb })) ≡ 0
    go true true true = unfold followed_by number_of_steps xor in refl
    go true true false = unfold followed_by number_of_steps xor in refl
    go true false true = unfold followed_by number_of_steps xor in refl
    go true false false = unfold followed_by number_of_steps xor in refl
    go false true true = unfold followed_by number_of_steps xor in refl
    go false true false = unfold followed_by number_of_steps xor in refl
    go false false true = unfold followed_by number_of_steps xor in refl
    go false false false = unfold followed_by number_of_steps xor in refl

pub turn_back : (t : ℕ) (f : Frame) → Whole f → turn_frame (undo t) (turn_frame t f) ≡ f
turn_back t f e = turn_frame_then t (undo t) f ∙ ap (λ (u : ℕ). turn_frame u f) (undo_is t) ∙ none
  where
    none : turn_frame 0 f ≡ f
    none = unfold turn_frame turned turned_by steps_of in frame_of_picture f e

-- ---- the same values
-- v is one of the samples
pub record Among (s : List ℕ) (v : ℕ) : Type 0 where
  pub place : ℕ
  pub inside : place < length s
  pub holds : get_or s place 0 ≡ v

abbrev pub Every : {A : Type 0} → (A → Type 0) → Picture A → Type 0
Every P p = (r c : ℕ) → r < p.height → c < p.width → P (p.at r c)

-- what each step keeps, a turn keeps
turned_keeps : {A : Type 0} (P : Picture A → Type 0) → ((p : Picture A) → P p → P (exchanged p)) → ((p : Picture A) → P p → P (left_right p)) → ((p : Picture A) → P p → P (top_bottom p))
    → (t : ℕ) (p : Picture A) → P p → P (turned t p)
unfolding turned turned_by
turned_keeps {A} P ex lr tb t p b = step (steps_of t).mirror_top_bottom top_bottom tb _ (step (steps_of t).mirror_left_right left_right lr _ (step (steps_of t).exchange exchanged ex p b))
  where
    step : (x : Bool) (S : Picture A → Picture A) → ((p : Picture A) → P p → P (S p)) → (p : Picture A) → P p → P (if_so x S p)
    step true S f p b = f p b
    step false S f p b = b

-- what holds at every place of a picture holds at every place of it turned
pub every_turned : {A : Type 0} (P : A → Type 0) (t : ℕ) (p : Picture A) → Every P p → Every P (turned t p)
every_turned {A} P t p b = turned_keeps (Every P) ex lr tb t p b
  where
    ex : (p : Picture A) → Every P p → Every P (exchanged p)
    ex p b = unfold exchanged in (λ r c hr hc. b c r hc hr)

    lr : (p : Picture A) → Every P p → Every P (left_right p)
    lr p b = unfold left_right in (λ r c hr hc. b r (p.width - 1 - c) hr (omega arith))

    tb : (p : Picture A) → Every P p → Every P (top_bottom p)
    tb p b = unfold top_bottom in (λ r c hr hc. b (p.height - 1 - r) c (omega arith) hc)

-- what a layout has above red's parities stays
record LayoutAbove {A : Type 0} (n : ℕ) (p : Picture A) : Type 0 where
  holds : p.layout / 4 ≡ n

above_with : (l r c : ℕ) {n : ℕ} → l / 4 ≡ n → r < 2 → c < 2 → with_parities l r c / 4 ≡ n
unfolding with_parities
above_with l r c e hr hc = omega (arith, e)

above_turned : (t : ℕ) (f : Frame) → (turn_frame t f).layout / 4 ≡ f.layout / 4
unfolding turn_frame frame_of
above_turned t f = (turned_keeps (LayoutAbove (f.layout / 4)) ex lr tb t (picture_of f) (unfold picture_of in (record { holds = refl }))).holds
  where
    ex : (p : Picture ℕ) → LayoutAbove (f.layout / 4) p → LayoutAbove (f.layout / 4) (exchanged p)
    ex p b = unfold exchanged in (record { holds = above_with p.layout _ _ b.holds (column_lt p.layout) (row_lt p.layout) })

    lr : (p : Picture ℕ) → LayoutAbove (f.layout / 4) p → LayoutAbove (f.layout / 4) (left_right p)
    lr p b = unfold left_right in (record { holds = above_with p.layout _ _ b.holds (row_lt p.layout) (flip_lt p.width (red_column p.layout) (column_lt p.layout)) })

    tb : (p : Picture ℕ) → LayoutAbove (f.layout / 4) p → LayoutAbove (f.layout / 4) (top_bottom p)
    tb p b = unfold top_bottom in (record { holds = above_with p.layout _ _ b.holds (flip_lt p.height (red_row p.layout) (row_lt p.layout)) (column_lt p.layout) })

-- so a layout of 0 to 7 stays one
pub layout_turned : (t : ℕ) (f : Frame) → f.layout ≤ 7 → (turn_frame t f).layout ≤ 7
layout_turned t f b = omega (arith, above_turned t f, b)

-- and "a turn keeps the 4"
pub level_turned : (t : ℕ) (f : Frame) → two_levels (turn_frame t f).layout ≡ two_levels f.layout
level_turned t f = same_level (turn_frame t f).layout f.layout (above_turned t f)

-- a sample of the turned frame is a sample of the frame
from_turned : (t : ℕ) (f : Frame) → Whole f → (v : ℕ) → Among (turn_frame t f).samples v → Among f.samples v
from_turned t f e v a = subst (Among f.samples) (found ∙ a.holds) (every_turned (Among f.samples) t (picture_of f) first (a.place / w) (a.place % w) (row_inside w h a.place b) (column_inside w h a.place b))
  where
    q : Picture ℕ
    q = turned t (picture_of f)

    w : ℕ
    w = q.width

    h : ℕ
    h = q.height

    b : a.place < w * h
    b = unfold turn_frame frame_of in subst (λ (n : ℕ). a.place < n) (length-listing w h q.at) a.inside

    found : q.at (a.place / w) (a.place % w) ≡ get_or (turn_frame t f).samples a.place 0
    found = unfold turn_frame frame_of listing in sym (get_or-tabulate (w * h) (λ k. q.at (k / w) (k % w)) a.place 0 b)

    first : Every (Among f.samples) (picture_of f)
    first = unfold picture_of plane_of in
        (λ r c hr hc. record { place = r * f.width + c; inside = subst (λ (n : ℕ). r * f.width + c < n) (sym e.count) (mul-add-lt _ _ _ _ hr hc); holds = refl })

-- and the other way round: the two have the same values
pub values_turned : (t : ℕ) (f : Frame) → Whole f → (v : ℕ) → Among f.samples v ↔ Among (turn_frame t f).samples v
values_turned t f e v = (
  (λ a. from_turned (undo t) (turn_frame t f) (turned-whole t f) v (subst (λ (g : Frame). Among g.samples v) (sym (turn_back t f e)) a)),
  from_turned t f e v,
)

-- so question 9 is answered alike of both
pub all_at_most-turned : (top t : ℕ) (f : Frame) → Whole f → all_at_most top (turn_frame t f).samples ≡ all_at_most top f.samples
all_at_most-turned top t f e =
    same_test (all_at_most top (turn_frame t f).samples) (all_at_most top f.samples)
    (carried (turn_frame t f).samples f.samples (λ v. (values_turned t f e v).0)) (carried f.samples (turn_frame t f).samples (λ v. (values_turned t f e v).1))
  where
    -- every value of s is one of r, and all of r are at most top
    carried : (r s : List ℕ) → ((v : ℕ) → Among s v → Among r v) → T (all_at_most top r) → T (all_at_most top s)
    carried r s f b = all_at_most_by top s (λ k h. let a = f (get_or s k 0) (record { place = k; inside = h; holds = refl }) in subst (λ (v : ℕ). v ≤ top) a.holds (all_at_most_at top r b a.place a.inside))

-- ---- a plane's samples at most top, and its list's
pub plane_bound : (top w h : ℕ) (s : List ℕ) → length s ≡ w * h → all_at_most top s ≡ true → (r c : ℕ) → r < h → c < w → plane_of 0 w s r c ≤ top
unfolding plane_of
plane_bound top w h s e small r c hr hc = all_at_most_at top s (true_is small) (r * w + c) (omega (arith, mul-add-lt _ _ _ _ hr hc, e))

pub listing_bound : (top w h : ℕ) (p : ℕ → ℕ → ℕ) → ((r c : ℕ) → r < h → c < w → p r c ≤ top) → all_at_most top (listing w h p) ≡ true
unfolding listing
listing_bound top w h p small = is_true (all_at_most top (tabulate (w * h) q)) (all_at_most_by top (tabulate (w * h) q) at)
  where
    q : ℕ → ℕ
    q k = p (k / w) (k % w)

    at : (k : ℕ) → k < length (tabulate (w * h) q) → get_or (tabulate (w * h) q) k 0 ≤ top
    at k b =
        let i : k < w * h = omega (arith, length-tabulate (w * h) q, b) in
        subst (λ (x : ℕ). x ≤ top) (sym (get_or-tabulate (w * h) q k 0 i)) (small (k / w) (k % w) (row_inside w h k i) (column_inside w h k i))
