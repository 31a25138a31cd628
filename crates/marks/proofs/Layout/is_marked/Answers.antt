-- `Layout::is_marked` meets its contract: the bit is inside.
use native.Mathlib.Omega.{arith}
use mathlib.Core.Path.{◌≡◌, ap, ◌∙◌}
use Prim.Native.Nat.{zero-le}
use lib.ListN.{get_or}
use Rattle.marks.proofs.LayoutLaws.{bit_small, few, first_read, state_inside}
use Rattle.marks.specs.Bits.{bit_at, first_bit, marked_in}
use Rattle.tables.specs.Format.{decode}
use Rattle.marks.proofs.Layout.is_marked.Goals as goal
use Rattle.marks.proofs.Layout.is_marked.Goals.{Start}

-- the first bit of the process, as the array has it
first : (c : Start) → get_or c.args.self.now.first c.args.p 0 ≡ first_bit (decode c.args.self.now.table.bytes.now).counts c.args.p
first c = first_read _ c.args.self.now.table.accepted c.args.self.now.first_are (omega (arith, c.requires.known))

pub state_bit-requires : goal.state_bit-requires
state_bit-requires c =
    let at_first = bit_small _ c.args.self.now.table.accepted c.args.self.now.first_are {y = 0} c.requires.known zero-le in
    (omega (arith, few _ c.args.self.now.table.accepted {p = c.args.p} (omega (arith, c.requires.known))), omega (arith, at_first))

pub is_marked-requires : goal.is_marked-requires
is_marked-requires c =
    let inside = state_inside _ _ c.requires.known c.args.y c.requires.there in
    omega (arith, inside, c.requires.room, c.state_bit.ensures, first (goal.at.is_marked-requires c).Start)

pub returns : goal.returns
unfolding marked_in
returns c =
    c.is_marked.ensures ∙ ap (bit_at c.args.marks.now) (omega (arith, c.state_bit.ensures, first (goal.at.returns c).Start))
