-- The fields so far are put, one after another.
use Rattle.std.proofs.Common.{get_or, length}
use Rattle.text_writer.proofs.TextLaws.{Putting}
use Rattle.text_writer.specs.Text.{each, field}
use Rattle.text_writer.proofs.TextWriter.put_fields.Given as goal

abbrev pub invariant-loop-n : goal.invariant-loop-n
invariant-loop-n l = Putting (λ k. field (get_or l.numbers k 0)) (length l.numbers) (each field l.numbers) l.fn.self l.self l.n-index
