-- The laws of the bank's calls: what an accepted call knows, and what the two leave one after the other.
-- Assumes nothing.
use mathlib.Core.Path.{◌≡◌, refl, sym, ◌∙◌, ap, subst}
use mathlib.Core.Bool.{Bool, true, false}
use mathlib.Core.List.{List, map}
use Rattle.std.proofs.Common.{Bor}
use Rattle.std.proofs.lemmas.List.{at_drop_more, at_drop_all}
use Prim.Native.Nat.{ℕ, ◌+◌, ◌*◌, ◌/◌, ◌%◌, ◌≤◌, ◌<◌}
use native.Mathlib.Nat.{div-add-mod'}
use native.Mathlib.Omega.{arith}
use lib.Dec.{eqb}
use lib.IntN.{ℤ, pos, nat_abs, ◌*ℤ◌}
use lib.ListN.{length, drop, get_or}
use borrow.Author.Tests.{eq-eqb, eqb-true}
use Rattle.integers.specs.Lists.{tabulate}
use Rattle.integers.proofs.Tests.{is_true, true_is}
use Rattle.integers.proofs.Lists.{length-tabulate, get_or-tabulate, tabulate_cong, tabulate-get_or, map-tabulate}
use Rattle.planes.specs.Planes.{listing, plane_of, Sizes}
use Rattle.planes.specs.Lists.{value}
use Rattle.planes.proofs.Planes.{row_inside, column_inside, length-listing, plane_of-listing, listing_agree}
use Rattle.std.proofs.lemmas.Nat.{mul-add-lt}
use Rattle.questions.specs.Questions.{Question, question, ask, all_at_most, size_questions}
use Rattle.questions.specs.Refusals.{Answer, number_of}
use Rattle.questions.specs.Calls.{Outcome}
use Rattle.questions.proofs.Asking.{ask_end, ask_no, ask_yes, all_yes, all_yes_split, ask_zero, between_yes, sizes_is, all_at_most_at, all_at_most_by}
use Rattle.questions.proofs.Answering.{new_left}
use Rattle.filters.specs.Bank.{Bands, split}
use Rattle.filters.proofs.Reconstruction.{reconstruct}
use Rattle.filters.proofs.Ranges.{split_range}
use Rattle.filters.proofs.Turned.{join_commutes}
use Rattle.bank.specs.Planes.{Plane, plane, bands_of}
use Rattle.bank.specs.Calls.{bands, band_lengths, to_split, to_join, splitting_questions, split_questions, joining_questions, join_questions, split_lists, join_list, split_call, join_call}

-- ---- one question, asked of one after another: those that are left ask what all ask
module _ {A : Type 0} (n : ℕ) (f : A → Bool) where
  abbrev pub each : List A → List Question
  each l = map (λ x. question n (f x)) l

  pub each_no : (l : List A) (k : ℕ) (d : A) → k < length l → f (get_or l k d) ≡ false → n ≡ ask (each (drop k l))
  each_no l k d h e = ask_no _ n _ e ∙ sym (at_drop_more (λ x. ask (each x)) l k d h)

  pub each_yes : (l : List A) (k : ℕ) (d : A) → k < length l → f (get_or l k d) ≡ true → ask (each (drop (k + 1) l)) ≡ ask (each (drop k l))
  each_yes l k d h e = ask_yes _ _ n _ e refl ∙ sym (at_drop_more (λ x. ask (each x)) l k d h)

  pub each_end : (l : List A) (k : ℕ) → length l ≤ k → 0 ≡ ask (each (drop k l))
  each_end l k h = ask_end ∙ sym (at_drop_all (λ x. ask (each x)) l k h)

-- of rooms, whether they are `count`; of bands, whether they have `count` numbers, and whether their values are within `most`
abbrev pub is_count : ℕ → ℕ → Bool
is_count count room = eqb room count

abbrev pub have_count : ℕ → Bor (List ℤ) → Bool
have_count count band = eqb (length band.now) count

abbrev pub are_within : ℤ → Bor (List ℤ) → Bool
are_within most band = all_at_most (nat_abs most) (map nat_abs band.now)

-- ---- what an accepted call knows
-- how far from 0 the values are, one by one
pub magnitudes : (l : List ℤ) (n : ℕ) → length l ≡ n → map nat_abs l ≡ tabulate n (λ k. nat_abs (value l k))
magnitudes l n e = ap (map nat_abs) (sym (tabulate-get_or l n (pos 0) e)) ∙ map-tabulate nat_abs n (value l)

plane_is : (most : ℕ) (l : List ℤ) (w h : ℕ) → length l ≡ w * h → all_at_most most (map nat_abs l) ≡ true → Plane most l w h
plane_is most l w h e y = record { count = e; small = small }
  where
    n : ℕ
    n = w * h

    small : (k : ℕ) → k < n → nat_abs (value l k) ≤ most
    small k b =
        subst (λ (x : ℕ). x ≤ most) (get_or-tabulate n (λ i. nat_abs (value l i)) k 0 b)
        (all_at_most_at most (tabulate n (λ i. nat_abs (value l i))) (true_is (ap (all_at_most most) (sym (magnitudes l n e)) ∙ y)) k (omega (arith, length-tabulate n (λ i. nat_abs (value l i)), b)))

pub record Splittable (w h : ℕ) (given : List ℤ) (rooms : Bands ℕ) : Type 0 where
  pub sizes : Sizes 1 w h
  pub plane : Plane to_split given w h
  pub room1 : rooms.band1 ≡ w * h
  pub room2 : rooms.band2 ≡ w * h
  pub room3 : rooms.band3 ≡ w * h
  pub room4 : rooms.band4 ≡ w * h

pub splittable : (w h : ℕ) (given : List ℤ) (rooms : Bands ℕ) → 0 ≡ ask (split_questions w h given rooms) → Splittable w h given rooms
splittable w h given rooms e =
    let y = all_yes_split (size_questions 1 w h) (splitting_questions (w * h) given rooms) (all_yes (split_questions w h given rooms) tt 0 e refl) in
    let q = y.1 in
    record {
      sizes = sizes_is 1 w h y.0;
      plane = plane_is to_split given w h (eqb-true (length given) (w * h) q.0) q.1.1.1.1.1.0;
      room1 = eqb-true rooms.band1 (w * h) q.1.0;
      room2 = eqb-true rooms.band2 (w * h) q.1.1.0;
      room3 = eqb-true rooms.band3 (w * h) q.1.1.1.0;
      room4 = eqb-true rooms.band4 (w * h) q.1.1.1.1.0;
    }

pub record Joinable (w h : ℕ) (given : Bands (List ℤ)) (room : ℕ) : Type 0 where
  pub sizes : Sizes 1 w h
  pub plane1 : Plane to_join given.band1 w h
  pub plane2 : Plane to_join given.band2 w h
  pub plane3 : Plane to_join given.band3 w h
  pub plane4 : Plane to_join given.band4 w h
  pub buffer : room ≡ w * h

pub joinable : (w h : ℕ) (given : Bands (List ℤ)) (room : ℕ) → 0 ≡ ask (join_questions w h given room) → Joinable w h given room
joinable w h given room e =
    let y = all_yes_split (size_questions 1 w h) (joining_questions (w * h) given room) (all_yes (join_questions w h given room) tt 0 e refl) in
    let q = y.1 in
    let v = q.1.1.1.1.1 in
    record {
      sizes = sizes_is 1 w h y.0;
      plane1 = plane_is to_join given.band1 w h (eqb-true (length given.band1) (w * h) q.0) v.0;
      plane2 = plane_is to_join given.band2 w h (eqb-true (length given.band2) (w * h) q.1.0) v.1.0;
      plane3 = plane_is to_join given.band3 w h (eqb-true (length given.band3) (w * h) q.1.1.0) v.1.1.0;
      plane4 = plane_is to_join given.band4 w h (eqb-true (length given.band4) (w * h) q.1.1.1.0) v.1.1.1.0;
      buffer = eqb-true room (w * h) q.1.1.1.1.0;
    }

-- ---- demand 2, of the calls: what join leaves after split is 1,024 times the plane
-- a plane's values in range answer 15 yes
values_yes : (most : ℕ) (l : List ℤ) (n : ℕ) → length l ≡ n → ((k : ℕ) → k < n → nat_abs (value l k) ≤ most) → all_at_most most (map nat_abs l) ≡ true
values_yes most l n e b =
    ap (all_at_most most) (magnitudes l n e)
    ∙ is_true (all_at_most most (tabulate n (λ k. nat_abs (value l k)))) (all_at_most_by most (tabulate n (λ k. nat_abs (value l k)))
    (λ k h. let i : k < n = omega (arith, length-tabulate n (λ j. nat_abs (value l j)), h) in subst (λ (x : ℕ). x ≤ most) (sym (get_or-tabulate n (λ j. nat_abs (value l j)) k 0 i)) (b k i)))

-- a list through `1,024 times` is the listing of that plane
times_listing : (w h : ℕ) (l : List ℤ) → length l ≡ w * h → listing w h (λ r c. pos 1024 *ℤ plane w l r c) ≡ map (λ z. pos 1024 *ℤ z) l
unfolding listing plane_of
times_listing w h l e =
    tabulate_cong (w * h) _ _ (λ k b. ap (λ (i : ℕ). pos 1024 *ℤ value l i) (div-add-mod' k w))
    ∙ sym (map-tabulate (λ z. pos 1024 *ℤ z) (w * h) (value l)) ∙ ap (map (λ z. pos 1024 *ℤ z)) (tabulate-get_or l (w * h) (pos 0) e)

module _ (w h : ℕ) (given : List ℤ) (z : Sizes 1 w h) (p : Plane to_split given w h) where
  -- every value of every band may be joined
  bands_small : (r c : ℕ) → r < h → c < w
      → let s = split 1 w h (plane w given) r c in (nat_abs s.band1 ≤ to_join) × (nat_abs s.band2 ≤ to_join) × (nat_abs s.band3 ≤ to_join) × (nat_abs s.band4 ≤ to_join)
  unfolding plane_of
  bands_small r c hr hc = split_range 1 w h to_split z.width_from z.height_from (plane w given) (λ i j hi hj. p.small (i * w + j) (mul-add-lt _ _ _ _ hi hj)) r c hr hc

  band_yes : (f : Bands ℤ → ℤ) → ((r c : ℕ) → r < h → c < w → nat_abs (f (split 1 w h (plane w given) r c)) ≤ to_join) → all_at_most to_join (map nat_abs (listing w h (λ r c. f (split 1 w h (plane w given) r c)))) ≡ true
  unfolding listing
  band_yes f b =
      values_yes to_join (tabulate (w * h) q) (w * h) (length-tabulate (w * h) q)
      (λ k i. subst (λ (x : ℤ). nat_abs x ≤ to_join) (sym (get_or-tabulate (w * h) q k (pos 0) i)) (b (k / w) (k % w) (row_inside w h k i) (column_inside w h k i)))
    where
      q : ℕ → ℤ
      q k = f (split 1 w h (plane w given) (k / w) (k % w))

  -- so join accepts them
  join_accepts : (room : ℕ) → room ≡ w * h → ask (join_questions w h (split_lists w h given) room) ≡ 0
  unfolding split_lists
  join_accepts room e =
      ask_zero (join_questions w h (split_lists w h given) room) (
        between_yes 1 2048 w z.width_from z.width_to,
        (
          between_yes 1 2048 h z.height_from z.height_to,
          (
            long _,
            (
              long _,
              (
                long _,
                (
                  long _,
                  (
                    eq-eqb room (w * h) e,
                    (
                      band_yes (λ s. s.band1) (λ r c hr hc. (bands_small r c hr hc).0),
                      (
                        band_yes (λ s. s.band2) (λ r c hr hc. (bands_small r c hr hc).1),
                        (band_yes (λ s. s.band3) (λ r c hr hc. (bands_small r c hr hc).2), (band_yes (λ s. s.band4) (λ r c hr hc. (bands_small r c hr hc).3), tt)),
                      ),
                    ),
                  ),
                ),
              ),
            ),
          ),
        ),
      )
    where
      long : (q : ℕ → ℕ → ℤ) → eqb (length (listing w h q)) (w * h) ≡ true
      long q = eq-eqb (length (listing w h q)) (w * h) (length-listing w h q)

  joined_again : join_list w h (split_lists w h given) ≡ map (λ x. pos 1024 *ℤ x) given
  unfolding split_lists join_list
  joined_again =
      listing_agree w h (λ r c hr hc. (join_commutes 1).agrees w h 0 (bands_of w (split_lists w h given)) (split 1 w h (plane w given)) held r c hr hc ∙ reconstruct w h z.width_from z.height_from 1 (plane w given) r c hr hc)
      ∙ times_listing w h given p.count
    where
      held : (r c : ℕ) → r < h → c < w → bands_of w (split_lists w h given) r c ≡ split 1 w h (plane w given) r c
      held r c hr hc = λ m. bands (at (λ s. s.band1) m) (at (λ s. s.band2) m) (at (λ s. s.band3) m) (at (λ s. s.band4) m)
        where
          at : (f : Bands ℤ → ℤ) → plane w (listing w h (λ i j. f (split 1 w h (plane w given) i j))) r c ≡ f (split 1 w h (plane w given) r c)
          at f = plane_of-listing (pos 0) w h (λ i j. f (split 1 w h (plane w given) i j)) r c hr hc

-- Where split is accepted and the sums have room, join of what split leaves is accepted, and leaves 1,024 times the plane.
pub split_then_join : (w h : ℕ) (given : List ℤ) (before : Bands (List ℤ)) (r : Answer) (after : Bands (List ℤ)) → Outcome (split_call w h given before) r after → number_of r ≡ 0
    → (sums : List ℤ) (s : Answer) (last : List ℤ) → Outcome (join_call w h after sums) s last → length sums ≡ w * h
    → (number_of s ≡ 0) × (last ≡ map (λ x. pos 1024 *ℤ x) given)
split_then_join w h given before r after p z sums s last q e = (
  q.answer.number ∙ accepts,
  new_left (join_call w h after sums) q.leaves accepts ∙ ap (join_list w h) laid ∙ joined_again w h given k.sizes k.plane,
)
  where
    k : Splittable w h given (band_lengths before)
    k = splittable w h given (band_lengths before) (sym z ∙ p.answer.number)

    laid : after ≡ split_lists w h given
    laid = new_left (split_call w h given before) p.leaves (sym p.answer.number ∙ z)

    accepts : ask (join_questions w h after (length sums)) ≡ 0
    accepts = ap (λ (b : Bands (List ℤ)). ask (join_questions w h b (length sums))) laid ∙ join_accepts w h given k.sizes k.plane (length sums) e
