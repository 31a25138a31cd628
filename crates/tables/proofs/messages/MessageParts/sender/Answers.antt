-- `messages::MessageParts::sender` meets its contract.
use native.Mathlib.Omega.{arith}
use Rattle.tables.specs.Format.{message_at, process_at}
use Rattle.tables.proofs.messages.MessageParts.sender.Goals as goal

pub returns-clause-number : goal.returns-clause-number
unfolding message_at process_at
returns-clause-number c = c.u16_at.ensures

pub returns-clause-known : goal.returns-clause-known
unfolding process_at
returns-clause-known c = omega (arith, c.u16_at.ensures, c.args.self.given.senders_known c.args.k c.requires)
