-- `channel_at` meets its contract: the two processes that it reads are those of the channel.
use Rattle.std.proofs.Common.{rules}
use Rattle.channels.specs.Neighbours.{channel_at}
use Rattle.tables.specs.Format.{process_at}
use Rattle.channels.proofs.channel_at.Goals as goal

pub returns : goal.returns
unfolding channel_at process_at
returns c = search rules
