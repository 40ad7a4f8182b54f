-- A row of a list that is lent by itself, and what the whole list holds then. Assumes nothing.
use mathlib.Core.Path.{◌≡◌, sym, ◌∙◌, ap}
use mathlib.Core.List.{List, ◌++◌, append_assoc}
use Prim.Native.Nat.{ℕ, ◌+◌, ◌≤◌}
use native.Mathlib.Omega.{arith}
use lib.ListN.{length, take, drop, length-drop}
use lib.Seq.{length-take-le}
use borrow.Rule.Slice.PartMut.{put_mid}
use Rattle.std.proofs.lemmas.List.{drop-drop}
use Rattle.integers.specs.Lists.{tabulate, overwrite}

-- n elements from o on, k as the machine counts them
module _ {A : Type 0} (l : List A) (o n k : ℕ) (same : k ≡ n) (room : o + n ≤ length l) where
  -- the row is as long
  pub row_long : length (take k (drop o l)) ≡ n
  row_long = length-take-le k (drop o l) (let d = length-drop o l in omega (arith, same, room, d)) ∙ same

  -- what was laid in it stands in the list
  pub row_back : (f : ℕ → A) {row : List A} → row ≡ tabulate (length (take k (drop o l))) f → put_mid o k l row ≡ overwrite l o n f
  unfolding overwrite
  row_back f e =
      (λ i. put_mid o (same i) l ((e ∙ ap (λ (m : ℕ). tabulate m f) row_long) i))
      ∙ sym (append_assoc (take o l) (tabulate n f) (drop n (drop o l)))
      ∙ ap (λ (t : List A). (take o l ++ tabulate n f) ++ t) (drop-drop n o l)
