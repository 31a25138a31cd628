-- Each field is put behind those before it.
use Rattle.std.proofs.Common.{ap, sym}
use Rattle.text_writer.proofs.TextLaws.{each_rows, putting_more, putting_none, putting_room}
use Rattle.text_writer.specs.Text.{field}
use Rattle.text_writer.proofs.TextWriter.put_fields.Goals as goal

pub loop-n-init : goal.loop-n-init
loop-n-init c = putting_none (sym (each_rows field 0 _)) c.requires

pub put_field-requires : goal.put_field-requires
put_field-requires c = putting_room c.loop-n.invariant (ap field c.from.ensures) c.loop-n-test.true

pub loop-n-preserved : goal.loop-n-preserved
loop-n-preserved c = putting_more c.loop-n.invariant (ap field c.from.ensures) c.loop-n-test.true c.put_field.ensures
