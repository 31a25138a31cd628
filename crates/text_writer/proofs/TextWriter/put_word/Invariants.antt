-- The letters so far are put, one after another.
use Rattle.std.proofs.Common.{◌∷◌, [], get_or, length}
use Rattle.text_writer.proofs.TextLaws.{Putting}
use Rattle.text_writer.proofs.TextWriter.put_word.Given as goal

abbrev pub invariant-loop-byte : goal.invariant-loop-byte
invariant-loop-byte l = Putting (λ k. get_or l.word k 0 ∷ []) (length l.word) l.word l.fn.self l.self l.byte-index
