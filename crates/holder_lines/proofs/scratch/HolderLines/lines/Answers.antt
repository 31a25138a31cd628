-- `HolderLines::lines` meets its contract: the scratch has room for N lines.
use Rattle.holder_lines.proofs.ScratchLaws.{holds_lines}
use Rattle.holder_lines.proofs.scratch.HolderLines.lines.Goals as goal

pub invariant_of-result : goal.invariant_of-result
invariant_of-result c = record { holds = holds_lines c.args.self.lines_of c.process_count.ensures }
