-- Cases of the share, worked out by hand. Assumes nothing.
use Rattle.std.specs.Prelude.{Bool, true, ◌&&◌, List, [], ◌∷◌, ℕ, ◌*◌, eqb}
use Rattle.call_checks.specs.OrderCases.{case_table}
use Rattle.calls.specs.Cases.{table_a, table_b, table_c, table_d}
use Rattle.listings.specs.Listing.{share}
use Rattle.rounding.specs.Rounding.{rounded_quotient}
use Rattle.tables.specs.Format.{decode}

-- So many checkpoints of so many, and the percentage.
pub record Portion : Type 0 where
  pub kept : ℕ
  pub all : ℕ
  pub expected : ℕ

-- Whether the definition gives each of them.
unfoldable pub all_portions : List Portion → Bool
all_portions [] = true
all_portions (c ∷ rest) = eqb (rounded_quotient (100 * c.kept) c.all) c.expected && all_portions rest

-- Halves, what lies next to them on both sides, whole numbers and thirds.
unfoldable pub portions : List Portion
portions =
    -- the two of the request: 12.5 and 37.5
    record { kept = 1; all = 8; expected = 12 } ∷ record { kept = 3; all = 8; expected = 38 }
    -- the other halves of eighths: 62.5 and 87.5
    ∷ record { kept = 5; all = 8; expected = 62 } ∷ record { kept = 7; all = 8; expected = 88 }
    -- the lowest half and the highest: 0.5 and 99.5
    ∷ record { kept = 1; all = 200; expected = 0 } ∷ record { kept = 199; all = 200; expected = 100 }
    -- one checkpoint from a half, fewer and more in all: 12.56 and 12.44, 37.69 and 37.31
    ∷ record { kept = 25; all = 199; expected = 13 } ∷ record { kept = 25; all = 201; expected = 12 }
    ∷ record { kept = 75; all = 199; expected = 38 } ∷ record { kept = 75; all = 201; expected = 37 }
    -- 62.81 and 62.19, 87.94 and 87.06
    ∷ record { kept = 125; all = 199; expected = 63 } ∷ record { kept = 125; all = 201; expected = 62 }
    ∷ record { kept = 175; all = 199; expected = 88 } ∷ record { kept = 175; all = 201; expected = 87 }
    -- 0.503 and 0.498, 99.497 and 99.502
    ∷ record { kept = 1; all = 199; expected = 1 } ∷ record { kept = 1; all = 201; expected = 0 }
    ∷ record { kept = 198; all = 199; expected = 99 } ∷ record { kept = 200; all = 201; expected = 100 }
    -- whole numbers, and thirds
    ∷ record { kept = 1; all = 1; expected = 100 } ∷ record { kept = 2; all = 5; expected = 40 }
    ∷ record { kept = 1; all = 3; expected = 33 } ∷ record { kept = 2; all = 3; expected = 67 } ∷ []

-- A table, and its share.
pub record ShareCase : Type 0 where
  pub table : List ℕ
  pub expected : ℕ

-- Whether the definition gives each of them.
unfoldable pub all_shares : List ShareCase → Bool
all_shares [] = true
all_shares (c ∷ rest) = eqb (share (decode c.table)) c.expected && all_shares rest

-- The tables of the marked cases that are accepted; then tables without messages, of which each process keeps its last
-- checkpoint: 1 of 8 and 3 of 8, and their neighbours 1 of 7, 1 of 9, 3 of 7 and 3 of 9.
unfoldable pub share_cases : List ShareCase
share_cases =
    record { table = table_a; expected = 50 } ∷ record { table = table_b; expected = 100 }
    ∷ record { table = table_c; expected = 40 } ∷ record { table = table_d; expected = 75 }
    ∷ record { table = case_table 1 0 (8 ∷ []) [] []; expected = 12 }
    ∷ record { table = case_table 3 0 (2 ∷ 3 ∷ 3 ∷ []) [] []; expected = 38 }
    ∷ record { table = case_table 1 0 (7 ∷ []) [] []; expected = 14 }
    ∷ record { table = case_table 1 0 (9 ∷ []) [] []; expected = 11 }
    ∷ record { table = case_table 3 0 (2 ∷ 3 ∷ 2 ∷ []) [] []; expected = 43 }
    ∷ record { table = case_table 3 0 (2 ∷ 3 ∷ 4 ∷ []) [] []; expected = 33 } ∷ []
