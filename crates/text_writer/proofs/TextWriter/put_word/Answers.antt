-- Each letter is put behind those before it.
use Rattle.std.proofs.Common.{refl}
use Rattle.text_writer.proofs.TextLaws.{letters, putting_more, putting_none, putting_room}
use Rattle.text_writer.proofs.TextWriter.put_word.Goals as goal

pub loop-byte-init : goal.loop-byte-init
loop-byte-init c = putting_none (letters _) c.requires

pub put_byte-requires : goal.put_byte-requires
put_byte-requires c = putting_room c.loop-byte.invariant refl c.loop-byte-test.true

pub loop-byte-preserved : goal.loop-byte-preserved
loop-byte-preserved c = putting_more c.loop-byte.invariant refl c.loop-byte-test.true c.put_byte.ensures
