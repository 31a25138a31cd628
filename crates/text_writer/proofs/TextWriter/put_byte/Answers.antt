-- A byte within the text is laid there, and one beyond its end is left out.
use Rattle.text_writer.proofs.TextLaws.{byte_beyond, byte_within}
use Rattle.text_writer.proofs.TextWriter.put_byte.Goals as goal
use Rattle.text_writer.proofs.TextWriter.put_byte.Goals.{else-self, then-self}

pub returns : goal.returns
returns c =
    elim c.if-self.branch [
      | then-self w ↦ rw w.self-is (byte_within _ _ w.if-self.true)
      | else-self w ↦ rw w.self-is (byte_beyond _ _ w.if-self.false)
    ]
