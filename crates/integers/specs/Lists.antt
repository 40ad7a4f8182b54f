-- Lists by an index function, and when two lists of numbers are the same. Assumes nothing.
use Rattle.std.specs.Prelude.{Bool, true, false, ◌&&◌, List, [], ◌∷◌, ◌++◌, ℕ, zero, suc, ◌+◌, eqb, take, drop}

module _ {A : Type 0} where
  -- f 0, f 1, … , f (n − 1)
  unfoldable pub tabulate : ℕ → (ℕ → A) → List A
  tabulate zero f = []
  tabulate (suc n) f = tabulate n f ++ (f n ∷ [])

  -- l, with the n elements from place o on replaced by f 0, … , f (n − 1)
  unfoldable pub overwrite : List A → ℕ → ℕ → (ℕ → A) → List A
  overwrite l o n f = (take o l ++ tabulate n f) ++ drop (o + n) l

-- whether two lists hold the same numbers in the same order
unfoldable pub same_list : List ℕ → List ℕ → Bool
same_list [] [] = true
same_list [] (y ∷ ys) = false
same_list (x ∷ xs) [] = false
same_list (x ∷ xs) (y ∷ ys) = eqb x y && same_list xs ys
