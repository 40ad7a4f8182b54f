-- Runs of stores, and what the writer shows at its returns. Assumes nothing.
use Prim.Native.Nat.{ℕ, ◌+◌, ◌*◌, ◌≤◌, ◌<◌}
use mathlib.Core.Path.{◌≡◌, refl, sym, ap, ◌∙◌}
use mathlib.Core.Bool.{true}
use mathlib.Core.List.{List, [], ◌++◌}
use native.Mathlib.Omega.{arith}
use lib.ListN.{length, take, drop, set, length-append, length-drop}
use lib.Seq.{sets, sets-eq, length-take-le}
use borrow.Author.Tests.{leb-true, eqb-true}
use Rattle.integers.proofs.Lists.{sets-append}
use Rattle.questions.specs.Settings.{ceiling_of}
use Rattle.questions.specs.Questions.{ask, all_at_most}
use Rattle.questions.proofs.Asking.{all_yes, all_yes_split}
use Rattle.little_endian.specs.Bytes.{bytes_of, sample_bytes}
use borrow.Rule.Slice.PartMut.{put_mid}
use Rattle.little_endian.proofs.Bytes.{length_bytes, part_put, length_sets, sets_whole}
use Rattle.little_endian.proofs.Samples.{length-sample_bytes}
use Rattle.packet.specs.Packet.{distance, trailer, packet}
use Rattle.packet.specs.Calls.{fields_questions, writing_questions, write_questions}
use Rattle.packet.specs.declared.Fields.{Fields}
use Rattle.packet.proofs.Stores.{Allowed, allowed}

-- ---- one run of stores after another
sets_then : (l : List ℕ) (at : ℕ) (p q : List ℕ) {x y : List ℕ} (k : ℕ) → k ≡ at + length p → x ≡ sets l at p → y ≡ sets x k q → y ≡ sets l at (p ++ q)
sets_then l at p q k e f g = g ∙ (λ j. sets (f j) (e j) q) ∙ sets-append l at p q

-- the trailer's six numbers, one after another, into twelve bytes
module _ (l : List ℕ) (f : Fields) (long : length l ≡ 12) where
  -- a number of n bytes into a part of them, and a byte
  part : (i n : ℕ) (p x : List ℕ) {y : List ℕ} → x ≡ sets l 0 p → i ≡ length p → i + n ≤ 12 → (v : ℕ) → y ≡ bytes_of (length (take n (drop i x))) v
      → put_mid i n x y ≡ sets l 0 (p ++ bytes_of n v)
  part i n p x e k h v g =
      let room : i + n ≤ length x = omega (arith, h, long, ap length e, length_sets l 0 p) in
      let all = length-take-le n (drop i x) (omega (arith, length-drop i x, room)) in
      sets_then l 0 p (bytes_of n v) i (omega (arith, k)) e (part_put i n x (bytes_of n v) (g ∙ ap (λ (m : ℕ). bytes_of m v) all) (length_bytes n v) room)

  byte : (i : ℕ) (p x : List ℕ) → x ≡ sets l 0 p → i ≡ length p → (b : ℕ) → b < 256 → set x i b ≡ sets l 0 (p ++ bytes_of 1 b)
  unfolding bytes_of
  byte i p x e k b h = sets_then l 0 p (bytes_of 1 b) i (omega (arith, k)) e (ap (λ (c : ℕ). set x i c) (omega (arith, h)))

  pub trailer_put : (d : ℕ) → d ≡ distance f → f.shape.layout < 256 → f.settings.rounds < 256 → {w h t b : List ℕ} → w ≡ bytes_of (length (take 2 l)) f.shape.width
      → let x = put_mid 0 2 l w in h ≡ bytes_of (length (take 2 (drop 2 x))) f.shape.height
      → let y = set (set (put_mid 2 2 x h) 4 f.shape.layout) 5 f.settings.rounds in t ≡ bytes_of (length (take 2 (drop 6 y))) f.settings.threshold
      → b ≡ bytes_of (length (take 4 (drop 8 (put_mid 6 2 y t)))) d → put_mid 8 4 (put_mid 6 2 y t) b ≡ trailer f
  unfolding trailer bytes_of
  trailer_put d e small few e₁ e₂ e₃ e₄ =
      let W = bytes_of 2 f.shape.width in
      let H = bytes_of 2 f.shape.height in
      let L = bytes_of 1 f.shape.layout in
      let R = bytes_of 1 f.settings.rounds in
      let T = bytes_of 2 f.settings.threshold in
      part 8 4 (W ++ (H ++ (L ++ (R ++ T)))) _
      (part 6 2 (W ++ (H ++ (L ++ R))) _
      (byte 5 (W ++ (H ++ L)) _ (byte 4 (W ++ H) _ (part 2 2 W _ (part 0 2 [] l refl refl (omega arith) f.shape.width e₁) refl (omega arith) f.shape.height e₂) refl f.shape.layout small) refl f.settings.rounds few)
      refl (omega arith) f.settings.threshold e₃)
      refl (omega arith) d e₄
      ∙ ap (λ (n : ℕ). sets l 0 (W ++ (H ++ (L ++ (R ++ (T ++ bytes_of 4 n)))))) e
      ∙ sets_whole l (trailer f) (sym long)

-- ---- the questions
-- what a yes says of 1, 2, 3, 4, 5, 6, 9 and 14
pub record Writable (f : Fields) (s : List ℕ) (room : ℕ) : Type 0 where
  pub fields : Allowed f
  pub given : length s ≡ f.shape.width * f.shape.height
  pub small : all_at_most (ceiling_of f.settings) s ≡ true
  pub fit : distance f ≤ room

pub writable : (f : Fields) (s : List ℕ) (room : ℕ) → 0 ≡ ask (write_questions f s room) → Writable f s room
writable f s room e =
    let y = all_yes_split (fields_questions f) (writing_questions f s room) (all_yes (write_questions f s room) tt 0 e refl) in
    record {
      fields = allowed f y.0;
      given = eqb-true (length s) (f.shape.width * f.shape.height) y.1.0;
      small = y.1.1.0;
      fit = leb-true (distance f) room y.1.1.1.0;
    }

-- ---- the call
pub length-packet : (f : Fields) (s : List ℕ) → length s ≡ f.shape.width * f.shape.height → length (packet f s) ≡ distance f
unfolding packet trailer bytes_of
length-packet f s e = length-append (sample_bytes s) (trailer f) ∙ omega (arith, length-sample_bytes s)

pub length_trailer : (f : Fields) → length (trailer f) ≡ 12
unfolding trailer bytes_of
length_trailer f = refl

-- the buffer: the samples' bytes first, and the trailer after them
pub packet_laid : (f : Fields) (s before : List ℕ) (m : ℕ) → Writable f s (length before) → m ≡ 2 * length s → {x after : List ℕ} → x ≡ sets before 0 (sample_bytes s) → after ≡ sets x m (trailer f)
    → after ≡ packet f s ++ drop (distance f) before
unfolding packet
packet_laid f s before m k i p q =
    let end : 0 + length (packet f s) ≡ distance f = omega (arith, length-packet f s k.given) in
    sets_then before 0 (sample_bytes s) (trailer f) m (omega (arith, length-sample_bytes s)) p q
    ∙ sets-eq (packet f s) before 0 (omega (arith, k.fit))
    ∙ ap (λ (j : ℕ). packet f s ++ drop j before) end

-- and how many bytes
pub bytes_written : (f : Fields) (s : List ℕ) {room : ℕ} (m : ℕ) → Writable f s room → m ≡ 2 * length s → m + 12 ≡ distance f
bytes_written f s m k i = let e = k.given in omega arith
