-- `check` meets its contract: it passes on a refusal, and where there is none the table is accepted.
use Rattle.run_table.proofs.checks.check.Goals as goal
use Rattle.std.proofs.Common.{sym}
use Rattle.std.proofs.lemmas.Result.{err_from_is_err_and}

pub returns-in_err-all_checks-clause-refusal : goal.returns-in_err-all_checks-clause-refusal
returns-in_err-all_checks-clause-refusal c =
    let p = err_from_is_err_and c.from_residual.result c.from_residual.ensures.1 in
    rw (p.1, p.2) c.in_err-all_checks.ensures

pub invariant_of-result : goal.invariant_of-result
invariant_of-result c = record { accepted = sym c.in_ok-all_checks.ensures }
