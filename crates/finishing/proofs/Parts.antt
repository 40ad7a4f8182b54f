-- Finishing's parts: an accepted finishing call's estimate, update and rounds accept too, and together leave the finished planes. Assumes
-- nothing.
use mathlib.Core.Path.{◌≡◌, refl, sym, ◌∙◌, ap, subst}
use mathlib.Core.Bool.{true}
use mathlib.Core.List.{List, ◌++◌}
use Prim.Native.Nat.{ℕ, ◌*◌, ◌≤◌}
use native.Mathlib.Omega.{arith}
use lib.IntN.{ℤ}
use lib.ListN.{length}
use borrow.Author.Tests.{eqb-true, leb-true, eq-eqb, le-leb}
use Rattle.planes.specs.Layout.{two_levels}
use Rattle.planes.specs.Planes.{Frame, Planes, planes, lengths, listing, plane_of, Agree}
use Rattle.planes.proofs.Planes.{length-listing, listing_agree, plane_of-listing}
use Rattle.questions.specs.Settings.{ceiling_of}
use Rattle.questions.specs.Questions.{ask, all_at_most, shape_questions, settings_questions, frame_questions}
use Rattle.questions.specs.Lent.{Lent, lent, rooms_of, wide_enough, buffer_questions}
use Rattle.questions.specs.Refusals.{Answer}
use Rattle.questions.specs.Calls.{Outcome}
use Rattle.questions.specs.declared.Settings.{Settings}
use Rattle.questions.proofs.Asking.{AllYes, all_yes, all_yes_split, all_yes_both, ask_zero}
use Rattle.questions.proofs.Answering.{new_left}
use Rattle.turns.proofs.Frames.{plane_bound, listing_bound}
use Rattle.work_buffer.specs.Buffer.{zeroed}
use Rattle.work_buffer.proofs.Buffer.{length-zeroed, zeroed_again}
use Rattle.estimate.specs.Estimates.{estimate}
use Rattle.estimate.specs.Calls.{estimate_questions, estimate_lists, estimate_call}
use Rattle.estimate.proofs.Ranges.{lists_bound}
use Rattle.update.specs.Update.{update}
use Rattle.update.specs.Calls.{updating_questions, update_questions, update_list, update_call}
use Rattle.update.proofs.Mixing.{update_bound}
use Rattle.update.proofs.Turned.{update_commutes}
use Rattle.rounds.specs.Rounds.{rounds}
use Rattle.rounds.specs.Calls.{planes_questions, rounds_questions, rounds_lists, rounds_call}
use Rattle.rounds.proofs.Turned.{rounds_commute}
use Rattle.rounds.proofs.Calls.{lists_are}
use Rattle.finishing.specs.Finishing.{updated, finish, finish_lists}
use Rattle.finishing.specs.Calls.{finish_questions, with_finished}

-- ---- the planes on the way
-- the estimates, green updated, row by row
unfoldable pub updated_lists : ℕ → Frame → Planes (List ℕ)
updated_lists top f = planes (estimate_lists top f).red (update_list top f (estimate_lists top f).green) (estimate_lists top f).blue

-- their lengths
pub estimates_long : (top : ℕ) (f : Frame) → lengths (estimate_lists top f) ≡ planes (f.width * f.height) (f.width * f.height) (f.width * f.height)
unfolding estimate_lists
estimates_long top f = λ i. planes (long (λ p. p.red) i) (long (λ p. p.green) i) (long (λ p. p.blue) i)
  where
    long : (part : Planes ℕ → ℕ) → length (listing f.width f.height (λ r c. part (estimate top f.width f.height f.layout (plane_of 0 f.width f.samples) r c))) ≡ f.width * f.height
    long part = length-listing f.width f.height _

pub update_long : (top : ℕ) (f : Frame) (green : List ℕ) → length (update_list top f green) ≡ f.width * f.height
unfolding update_list
update_long top f green = length-listing f.width f.height _

-- the updated green's samples
update_list_bound : (top : ℕ) (f : Frame) (green : List ℕ) → length green ≡ f.width * f.height → all_at_most top green ≡ true → all_at_most top (update_list top f green) ≡ true
unfolding update_list
update_list_bound top f green e small =
    listing_bound top f.width f.height _ (update_bound top f.width f.height f.layout _ (plane_bound top f.width f.height green e small))

-- ---- what an accepted call knows
module _ (f : Frame) (s : Settings) (before : Lent) (e : 0 ≡ ask (finish_questions f s (rooms_of before))) where
  abbrev count : ℕ
  count = f.width * f.height

  abbrev top : ℕ
  top = ceiling_of s

  -- all questions are answered yes
  known : AllYes (frame_questions f.width f.height f.layout s) × AllYes (buffer_questions top (two_levels f.layout) count f.samples (rooms_of before))
  known =
      all_yes_split (frame_questions f.width f.height f.layout s) (buffer_questions top (two_levels f.layout) count f.samples (rooms_of before))
      (all_yes (finish_questions f s (rooms_of before)) tt 0 e refl)

  shape : AllYes (shape_questions f.width f.height f.layout)
  shape = (all_yes_split (shape_questions f.width f.height f.layout) (settings_questions s) known.0).0

  long : length f.samples ≡ count
  long = let y = known.1 in eqb-true (length f.samples) count (search y)

  small : all_at_most top f.samples ≡ true
  small = let y = known.1 in search y

  pub work_room : 8 * count ≤ length before.work
  work_room = let y = known.1 in leb-true (8 * count) (length before.work) (search y)

  wide_known : wide_enough (two_levels f.layout) count (length before.wide) ≡ true
  wide_known = let y = known.1 in search y

  -- so they are of each part
  pub estimate_accepts : 0 ≡ ask (estimate_questions top f (lengths before.three))
  estimate_accepts =
      let y = known.1 in
      sym (ask_zero (estimate_questions top f (lengths before.three)) (shape.0, (shape.1.0, (shape.1.1.0, (search y, (search y, (search y, (search y, (search y, tt)))))))))

  abbrev first : Planes (List ℕ)
  first = estimate_lists top f

  green_long : length first.green ≡ count
  green_long = ap (λ p. p.green) (estimates_long top f)

  pub update_accepts : 0 ≡ ask (update_questions top f first.green (length before.work))
  update_accepts =
      sym (ask_zero (update_questions top f first.green (length before.work))
      (all_yes_both (shape_questions f.width f.height f.layout) (updating_questions top count f.samples first.green (length before.work)) shape
      (eq-eqb (length f.samples) count long, (eq-eqb (length first.green) count green_long, (le-leb (8 * count) (length before.work) work_room, (small, ((lists_bound top f long small).1, tt)))))))

  -- the work buffer is zeroed by then
  abbrev given : Lent
  given = record { three = updated_lists top f; work = zeroed f.width f.height before.work; wide = before.wide }

  zeroed_room : 8 * count ≤ length given.work
  zeroed_room = omega (arith, work_room, length-zeroed f.width f.height before.work work_room)

  pub rounds_accepts : 0 ≡ ask (rounds_questions f s given)
  unfolding updated_lists
  rounds_accepts =
      sym (ask_zero (rounds_questions f s given)
      (all_yes_both (frame_questions f.width f.height f.layout s) (buffer_questions top (two_levels f.layout) count f.samples (rooms_of given) ++ planes_questions top given.three) known.0 (
        eq-eqb (length f.samples) count long,
        (
          eq-eqb (length first.red) count (ap (λ p. p.red) (estimates_long top f)),
          (
            eq-eqb _ count (update_long top f first.green),
            (
              eq-eqb (length first.blue) count (ap (λ p. p.blue) (estimates_long top f)),
              (
                le-leb (8 * count) (length given.work) zeroed_room,
                (
                  wide_known,
                  (
                    small,
                    ((lists_bound top f long small).0, (update_list_bound top f first.green green_long (lists_bound top f long small).1, ((lists_bound top f long small).2, tt))),
                  ),
                ),
              ),
            ),
          ),
        ),
      )))

-- ---- what the parts leave together
pub finished_by_parts : (f : Frame) (s : Settings) → rounds_lists f s (updated_lists (ceiling_of s) f) ≡ finish_lists f s
unfolding updated_lists finish_lists finish
finished_by_parts f s =
    lists_are f s (updated_lists top f) (update_long top f (estimate_lists top f).green)
    ∙ (λ i. planes (colour (λ p. p.red) i) (colour (λ p. p.green) i) (colour (λ p. p.blue) i))
  where
    top : ℕ
    top = ceiling_of s

    w : ℕ
    w = f.width

    h : ℕ
    h = f.height

    mosaic : ℕ → ℕ → ℕ
    mosaic = plane_of 0 w f.samples

    read : Planes (List ℕ) → ℕ → ℕ → Planes ℕ
    read p r c = planes (plane_of 0 w p.red r c) (plane_of 0 w p.green r c) (plane_of 0 w p.blue r c)

    -- the lists hold the estimates
    estimated : Agree w h (read (estimate_lists top f)) (estimate top w h f.layout mosaic)
    estimated r c hr hc = unfold estimate_lists in (λ i. planes (held (λ p. p.red) i) (held (λ p. p.green) i) (held (λ p. p.blue) i))
      where
        held : (part : Planes ℕ → ℕ) → plane_of 0 w (listing w h (λ i j. part (estimate top w h f.layout mosaic i j))) r c ≡ part (estimate top w h f.layout mosaic r c)
        held part = plane_of-listing 0 w h (λ i j. part (estimate top w h f.layout mosaic i j)) r c hr hc

    -- and the updated ones the updated green
    green : Agree w h (plane_of 0 w (update_list top f (estimate_lists top f).green)) (update top w h f.layout (λ i j. (mosaic i j, (estimate top w h f.layout mosaic i j).green)))
    green r c hr hc = held
        ∙ (update_commutes top).agrees w h f.layout _ _ (λ i j hi hj. λ k. (mosaic i j, (estimated i j hi hj k).green)) r c hr hc
      where
        held : plane_of 0 w (update_list top f (estimate_lists top f).green) r c ≡ update top w h f.layout (λ i j. (mosaic i j, plane_of 0 w (estimate_lists top f).green i j)) r c
        held = unfold update_list in plane_of-listing 0 w h (update top w h f.layout (λ i j. (mosaic i j, plane_of 0 w (estimate_lists top f).green i j))) r c hr hc

    all : Agree w h (read (updated_lists top f)) (updated top w h f.layout mosaic)
    all r c hr hc = unfold updated in (λ i. planes (estimated r c hr hc i).red (green r c hr hc i) (estimated r c hr hc i).blue)

    colour : (part : Planes ℕ → ℕ)
        → listing w h (λ r c. part (rounds s w h f.layout (λ i j. (mosaic i j, read (updated_lists top f) i j)) r c))
        ≡ listing w h (λ r c. part (rounds s w h f.layout (λ i j. (mosaic i j, updated top w h f.layout mosaic i j)) r c))
    colour part = listing_agree w h (λ r c hr hc. ap part ((rounds_commute s).agrees w h f.layout _ _ (λ i j hi hj. λ k. (mosaic i j, all i j hi hj k)) r c hr hc))

-- the three calls, each given what the one before it left
module _ (f : Frame) (s : Settings) (before : Lent) (e : 0 ≡ ask (finish_questions f s (rooms_of before))) where
  -- what the rounds are given
  abbrev left : Lent
  left = record { three = updated_lists (ceiling_of s) f; work = zeroed f.width f.height before.work; wide = before.wide }

  module _ {a : Answer} {first : Planes (List ℕ)} (p : Outcome (estimate_call (ceiling_of s) f before.three) a first) where
    -- the estimate leaves its lists
    estimated : first ≡ estimate_lists (ceiling_of s) f
    estimated = new_left (estimate_call (ceiling_of s) f before.three) p.leaves (sym (estimate_accepts f s before e))

    -- so the update accepts
    pub update_asked : 0 ≡ ask (update_questions (ceiling_of s) f first.green (length before.work))
    update_asked = update_accepts f s before e ∙ ap (λ (x : Planes (List ℕ)). ask (update_questions (ceiling_of s) f x.green (length before.work))) (sym estimated)

    module _ {b : Answer} {green : List ℕ} {work : List ℤ} (q : Outcome (update_call (ceiling_of s) f first.green before.work) b (green, work)) where
      -- and leaves the updated green, and zeros
      updated_after : ◌≡◌ {A = List ℕ × List ℤ} (green, work) (update_list (ceiling_of s) f (estimate_lists (ceiling_of s) f).green, zeroed f.width f.height before.work)
      updated_after =
          new_left (update_call (ceiling_of s) f (estimate_lists (ceiling_of s) f).green before.work)
          (subst (λ (x : Planes (List ℕ)). Outcome (update_call (ceiling_of s) f x.green before.work) b (green, work)) estimated q).leaves (sym (update_accepts f s before e))

      given_rounds : lent first.red green first.blue work before.wide ≡ left
      given_rounds = unfold updated_lists in (λ i. lent (estimated i).red (updated_after i).0 (estimated i).blue (updated_after i).1 before.wide)

      -- so they accept
      pub rounds_asked : 0 ≡ ask (rounds_questions f s (lent first.red green first.blue work before.wide))
      rounds_asked = rounds_accepts f s before e ∙ ap (λ (x : Lent). ask (rounds_questions f s x)) (sym given_rounds)

      -- and this is left
      pub parts_leave : {c : Answer} {last : Lent} → Outcome (rounds_call f s (lent first.red green first.blue work before.wide)) c last → last ≡ with_finished f s before
      parts_leave {c} {last} r =
          new_left (rounds_call f s left) (subst (λ (x : Lent). Outcome (rounds_call f s x) c last) given_rounds r).leaves (sym (rounds_accepts f s before e))
          ∙ (λ i. record { three = finished_by_parts f s i; work = zeroed_again f.width f.height before.work (work_room f s before e) i; wide = (with_finished f s before).wide })
