-- `extended` meets its contract: the numbers are put in front of the last of them.
use Rattle.std.proofs.Common.{rules, get_or, length, ◌-◌, ◌≡◌}
use Rattle.test_script.proofs.ScriptLaws.{extended_put}
use Rattle.test_script.proofs.extended.Goals as goal

pub returns : goal.returns
returns g c =
    let last : c.unwrap_or-last.result ≡ get_or c.args.numbers.now (length c.args.numbers.now - 1) c.args.none = search rules in
    rw c.copy_from_slice.ensures.after (extended_put _ _ _ c.min-len.ensures last)
