-- What a call refuses that passes on a refusal by its first checks.
--     table_exit    by the table's checks
--     front_exit    by those of another call
-- Assumes nothing.
use Prim.Native.Nat.{ℕ}
use mathlib.Core.List.{List, ◌++◌}
use mathlib.Core.Path.{◌≡◌}
use Rattle.call_checks.proofs.RefusalLaws.{table_caught}
use Rattle.call_checks.specs.CallChecks.{on_table}
use Rattle.std.proofs.Common.{Result}
use Rattle.std.specs.Result.{IsErrAnd}
use Rattle.tables.proofs.CheckLaws.{caught_first}
use Rattle.tables.proofs.RefusedLaws.{passed_on, refused_some}
use Rattle.tables.specs.Checks.{Check, first_caught, table_refusal}
use Rattle.tables.specs.Refusals.{refusal_in, refusal_number}
use Rattle.tables.specs.declared.refusal.Refusal.{Refusal}

module _ {T : Type 0} (outcome : Result T Refusal) (refusal : Refusal) (told : IsErrAnd outcome (λ e. e ≡ refusal)) where
  pub table_exit : (table : List ℕ) (own : List Check) → refusal_number refusal ≡ table_refusal table
      → refusal_in outcome ≡ first_caught (on_table table own)
  table_exit table own caught = passed_on outcome refusal told (table_caught table own caught (refused_some refusal))

  pub front_exit : (front own : List Check) → refusal_number refusal ≡ first_caught front → refusal_in outcome ≡ first_caught (front ++ own)
  front_exit front own caught = passed_on outcome refusal told (caught_first front own _ caught (refused_some refusal))
