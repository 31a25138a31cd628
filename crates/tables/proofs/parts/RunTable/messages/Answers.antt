-- `RunTable::messages` meets its contract.
use Rattle.tables.proofs.ReadLaws.{messages_known, messages_read, processes_few}
use Rattle.tables.proofs.parts.RunTable.messages.Goals as goal

pub invariant_of-result : goal.invariant_of-result
invariant_of-result c =
    record {
      given = messages_known (messages_read c.args.self.accepted c.message_count.ensures c.sends.ensures c.receipts.ensures)
          (processes_few _ c.args.self.accepted);
    }
