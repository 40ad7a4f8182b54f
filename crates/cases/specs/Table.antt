-- Document 01, "Reference cases": those with a letter, and document 02's own cases, as one table. A row has what the engine's definitions
-- compute, and what the documents state. proofs/Table.antt has the one proof. Assumes nothing.
use Rattle.std.specs.Prelude.{List, [], ◌∷◌, ◌++◌, map, ℤ, pos, neg_ℤ, ℕ}
use Rattle.border.specs.Border.{reflect}
use Rattle.planes.specs.Planes.{Planes, frame, planes}
use Rattle.turns.specs.Pictures.{then_another}
use Rattle.filters.specs.Bank.{Bands}
use Rattle.bank.specs.Calls.{split_lists, join_list}
use Rattle.questions.specs.Settings.{ceiling, settings}
use Rattle.neighbourhood.specs.Place.{around, hamilton_adams}
use Rattle.projection.specs.Projection.{held, limits_of}
use Rattle.rounds.specs.Calls.{rounds_lists}

-- a case's letter, or the request that states it
pub data Name : Type 0 where
  a b c d e f g h i j k request_05 : Name

pub record Case : Type 0 where
  pub name : Name
  pub computed : List ℤ
  pub stated : List ℤ

abbrev pub case : Name → List ℤ → List ℤ → Case
case x computed stated = record { name = x; computed = computed; stated = stated }

-- a plane of one row
abbrev row : List ℤ
row = pos 0 ∷ pos 8 ∷ pos 0 ∷ []

-- one list after another
abbrev in_order : Bands (List ℤ) → List ℤ
in_order l = l.band1 ++ l.band2 ++ l.band3 ++ l.band4

-- green at a place of C 100, left 40, right 60, up and down 50, two away by rows 80 and 80, and two away by columns n and n
unfoldable pub green_of : ℕ → ℤ
green_of n = pos (hamilton_adams ceiling (around (line 80 ∷ line 50 ∷ (n ∷ 40 ∷ 100 ∷ 60 ∷ n ∷ []) ∷ line 50 ∷ line 80 ∷ [])))
  where
    -- a row of which only the middle is read
    line : ℕ → List ℕ
    line m = 0 ∷ 0 ∷ m ∷ 0 ∷ 0 ∷ []

-- 2 by 2, layout 0, T 0, n rounds, green 40 60 / 60 40, red all 100, blue all 5, mosaic 100 60 60 5: red, and blue
unfoldable pub after_rounds : ℕ → List ℤ
after_rounds n = map pos (after.red ++ after.blue)
  where
    after : Planes (List ℕ)
    after = rounds_lists (frame 2 2 0 (100 ∷ 60 ∷ 60 ∷ 5 ∷ [])) (settings n 0) (planes (100 ∷ 100 ∷ 100 ∷ 100 ∷ []) (40 ∷ 60 ∷ 60 ∷ 40 ∷ []) (5 ∷ 5 ∷ 5 ∷ 5 ∷ []))

unfoldable pub table : List Case
table =
    -- reflection of −2 for n = 4, and for n = 2
    case a (pos (reflect 4 (neg_ℤ (pos 2))) ∷ []) (pos 2 ∷ [])
    ∷ case b (pos (reflect 2 (neg_ℤ (pos 2))) ∷ []) (pos 0 ∷ [])
    -- turn 1 then 4 is 6
    ∷ case c (pos (then_another 1 4) ∷ []) (pos 6 ∷ [])
    -- plane of one row 0 8 0: band 1 is 64 64 64, band 2 is 64 −64 64, bands 3 and 4 zero; the join gives 0 8192 0
    ∷ case d (in_order (split_lists 3 1 row) ++ join_list 3 1 (split_lists 3 1 row))
    ((pos 64 ∷ pos 64 ∷ pos 64 ∷ []) ++ (pos 64 ∷ neg_ℤ (pos 64) ∷ pos 64 ∷ []) ++ (pos 0 ∷ pos 0 ∷ pos 0 ∷ []) ++ (pos 0 ∷ pos 0 ∷ pos 0 ∷ []) ++ (pos 0 ∷ pos 8192 ∷ pos 0 ∷ []))
    -- T = 1, green band 0: 17 becomes 16, 16 stays, −17 becomes −16
    ∷ case e (held (limits_of 1).first (pos 0) (pos 17) ∷ []) (pos 16 ∷ [])
    ∷ case f (held (limits_of 1).first (pos 0) (pos 16) ∷ []) (pos 16 ∷ [])
    ∷ case g (held (limits_of 1).first (pos 0) (neg_ℤ (pos 17)) ∷ []) (neg_ℤ (pos 16) ∷ [])
    -- two away by columns 100 and 100: green 50; 60 and 60: 60; 90 and 90: 58
    ∷ case h (green_of 100 ∷ []) (pos 50 ∷ [])
    ∷ case i (green_of 60 ∷ []) (pos 60 ∷ [])
    ∷ case j (green_of 90 ∷ []) (pos 58 ∷ [])
    -- one round: red 100 110 / 110 90, blue 0 15 / 15 5
    ∷ case k (after_rounds 1) ((pos 100 ∷ pos 110 ∷ pos 110 ∷ pos 90 ∷ []) ++ (pos 0 ∷ pos 15 ∷ pos 15 ∷ pos 5 ∷ []))
    -- "black beside white", two rounds: red 100 113 / 113 93, blue 0 18 / 18 5
    ∷ case request_05 (after_rounds 2) ((pos 100 ∷ pos 113 ∷ pos 113 ∷ pos 93 ∷ []) ++ (pos 0 ∷ pos 18 ∷ pos 18 ∷ pos 5 ∷ []))
    ∷ []
