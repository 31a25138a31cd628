-- The share of an accepted table.
--     sum-positive    the counts add up to something
--     share_rounded   it is the quotient, rounded
--     rounded_share   no other number is
--     share_most      it is at most 100
-- Assumes nothing.
use mathlib.Core.List.{List}
use mathlib.Core.Path.{◌≡◌}
use Prim.Native.Nat.{ℕ, ◌*◌, ◌≤◌, ◌<◌}
use native.Mathlib.Decide.{dec_lt}
use native.Mathlib.Omega.{arith}
use lib.ListN.{length, get_or}
use Rattle.consistency.proofs.LoweringLaws.{sum-zero}
use Rattle.keep_sheet.proofs.FewLaws.{checkpoints-within}
use Rattle.keep_sheet.specs.Sheet.{kept_checkpoints}
use Rattle.rounding.proofs.RoundingLaws.{quotient_rounded, rounded_most, rounded_once}
use Rattle.listings.specs.Listing.{share}
use Rattle.rounding.specs.Rounding.{Rounded}
use Rattle.tables.proofs.AcceptLaws.{facts}
use Rattle.tables.specs.Checks.{table_refusal}
use Rattle.tables.specs.Format.{decode}
use Rattle.tables.specs.Lists.{sum}
use Rattle.tables.specs.Table.{Table, checkpoint_total, count_of}

pub sum-positive : (table : List ℕ) → table_refusal table ≡ 0 → 0 < checkpoint_total (decode table)
unfolding count_of checkpoint_total
sum-positive table accepted = go (dec_lt 0 (sum counts)) where
  counts : List ℕ
  counts = (decode table).counts

  some : 0 < get_or counts 0 0
  some = (facts table accepted).well_formed.some_checkpoint 0 (facts table accepted).well_formed.some_process

  go : Dec (0 < sum counts) → 0 < sum counts
  go (yes l) = l
  go (no l) = absurd (omega (arith, some, sum-zero counts (omega arith) 0))

module _ (table : List ℕ) (accepted : table_refusal table ≡ 0) where
  abbrev t : Table
  t = decode table

  pub share_rounded : Rounded (100 * length (kept_checkpoints t)) (checkpoint_total t) (share t)
  unfolding share
  share_rounded = quotient_rounded _ _ (sum-positive table accepted)

  pub rounded_share : (n : ℕ) {k s : ℕ} → k ≡ length (kept_checkpoints t) → s ≡ checkpoint_total t → Rounded (100 * k) s n → n ≡ share t
  rounded_share n kept total h = rounded_once _ _ (sum-positive table accepted) n (share t) (rw (kept, total) at h) share_rounded

  pub share_most : share t ≤ 100
  share_most = rounded_most _ _ (sum-positive table accepted) _ 100 share_rounded (omega (arith, checkpoints-within t))
