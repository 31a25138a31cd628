-- `RunTable::message_count` meets its contract: an accepted table has M at its place.
use Rattle.std.proofs.Common.{arith, sym, ◌∙◌}
use Rattle.tables.proofs.FormatLaws.{decode-messages}
use Rattle.tables.proofs.ReadLaws.{long_enough}
use Rattle.tables.specs.Format.{messages_in}
use Rattle.tables.proofs.parts.RunTable.message_count.Goals as goal

pub u16_at-requires : goal.u16_at-requires
u16_at-requires c = omega (arith, long_enough _ c.args.self.accepted)

pub returns : goal.returns
unfolding messages_in
returns c = c.u16_at.ensures ∙ sym (decode-messages _)
