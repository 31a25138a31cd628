-- What `behind_neighbour` reads of the channel is where the neighbour stands: the channel is below 1,024 (`channel_small`), and what stands there is
-- before k (`neighbour_low`).
use Rattle.std.proofs.Common.{◌<◌, ◌∙◌, arith}
use Rattle.channels.proofs.ChannelLaws.{channel_small, first-there, lasts_more, neighbour_low, neighbour_there}
use Rattle.channels.proofs.behind_neighbour.Goals as goal
use Rattle.channels.proofs.behind_neighbour.Goals.{After-channel_at-channel}

-- the channel is one of 32 × 32
small : (c : After-channel_at-channel) → c.channel_at-channel.result < 1024
small c = omega (arith, c.channel_at-channel.ensures, channel_small c.requires.message_there)

-- there is one before it
pub out_of_turn-requires : goal.out_of_turn-requires
out_of_turn-requires c =
    let inside = small (goal.at.out_of_turn-requires c).After-channel_at-channel in
    let earlier = neighbour_low c.requires.lasts c.channel_at-channel.ensures inside c.in-Some.ensures in
    let there = c.requires.message_there in record {
      q_in_bounds = omega (arith, earlier, there.in_sends);
      k_in_bounds = there.in_sends;
      q_in_bounds_2 = omega (arith, earlier, there.in_receipts);
      k_in_bounds_2 = there.in_receipts;
    }

pub returns-in-Some-clause-value : goal.returns-in-Some-clause-value
returns-in-Some-clause-value c =
    c.out_of_turn.ensures
    ∙ neighbour_there c.requires.lasts c.channel_at-channel.ensures (small (goal.at.returns-in-Some-clause-value c).After-channel_at-channel)
    c.in-Some.ensures _

pub returns-in-Some-clause-lasts_2 : goal.returns-in-Some-clause-lasts_2
returns-in-Some-clause-lasts_2 c =
    lasts_more c.requires.lasts c.channel_at-channel.ensures (small (goal.at.returns-in-Some-clause-lasts_2 c).After-channel_at-channel)

-- it is the first of its channel
pub returns-in-None-clause-value : goal.returns-in-None-clause-value
returns-in-None-clause-value c =
    first-there c.requires.lasts c.channel_at-channel.ensures (small (goal.at.returns-in-None-clause-value c).After-channel_at-channel) _
    c.in-None.ensures

pub returns-in-None-clause-lasts_2 : goal.returns-in-None-clause-lasts_2
returns-in-None-clause-lasts_2 c =
    lasts_more c.requires.lasts c.channel_at-channel.ensures (small (goal.at.returns-in-None-clause-lasts_2 c).After-channel_at-channel)
