-- `put_listing` meets its contract: each part is put where the one before it ends.
use Rattle.listing_text.proofs.ListingLaws.{Reading, holds_lines, kept_is, line_room, line_taken, listing_left, sheet_long, sheet_needs}
use Rattle.text_writer.proofs.TextLaws.{none_left, part_put, part_room, text_laid}
use Rattle.listings.specs.Listing.{share_row}
use mathlib.Core.Path.{refl}
use Rattle.std.proofs.Common.{rules}
use native.Mathlib.Omega.{arith}
use Rattle.listing_text.proofs.put_listing.Goals as goal
use Rattle.listing_text.proofs.put_listing.Goals.{After-recovery_line-line}

-- what was read is the table's
reading : (c : After-recovery_line-line)
    → Reading c.args.table.bytes.now c.process_count-n.result c.recovery_line-line.result c.args.scratch.now c.args.sheet.now c.u16_at-kept.result
    c.u16_at-logged.result
reading c = record {
  accepted = c.args.table.accepted;
  answered = c.requires;
  n_is = c.process_count-n.ensures;
  line_is = c.recovery_line-line.ensures;
  k_is = c.u16_at-kept.ensures;
  q_is = c.u16_at-logged.ensures;
}

pub u16_at-kept-requires : goal.u16_at-kept-requires
u16_at-kept-requires c =
    omega (arith, sheet_long _ _ _ c.requires)

pub u16_at-logged-requires : goal.u16_at-logged-requires
u16_at-logged-requires c =
    omega (arith, sheet_long _ _ _ c.requires)

pub slice_bounds-line-end : goal.slice_bounds-line-end
slice_bounds-line-end c =
    line_room (reading (goal.at.slice_bounds-line-end c).After-recovery_line-line)

pub slice_bounds-put_line-end : goal.slice_bounds-put_line-end
slice_bounds-put_line-end c =
    line_taken (reading (goal.at.slice_bounds-put_line-end c).After-recovery_line-line)

pub put_line-requires : goal.put_line-requires
put_line-requires c =
    part_room (listing_left (reading (goal.at.put_line-requires c).After-recovery_line-line) {text = c.args.text} refl)

pub invariant_of-lines : goal.invariant_of-lines
invariant_of-lines c = record { holds = holds_lines (reading (goal.at.invariant_of-lines c).After-recovery_line-line) }

pub put_holds-requires : goal.put_holds-requires
put_holds-requires c =
    let here = reading (goal.at.put_holds-requires c).After-recovery_line-line in
    part_room (part_put (listing_left here refl) c.put_line.ensures)

pub put_checkpoints-requires : goal.put_checkpoints-requires
put_checkpoints-requires c =
    let here = reading (goal.at.put_checkpoints-requires c).After-recovery_line-line in
    let left = part_put (listing_left here refl) c.put_line.ensures in
    record {
      k_in_bounds = omega (arith, sheet_needs here);
      fits = part_room (part_put left c.put_holds.ensures);
    }

pub put_messages-requires : goal.put_messages-requires
put_messages-requires c =
    let here = reading (goal.at.put_messages-requires c).After-recovery_line-line in
    let left = part_put (part_put (listing_left here refl) c.put_line.ensures) c.put_holds.ensures in
    record {
      q_in_bounds = sheet_needs here;
      fits = part_room (part_put left c.put_checkpoints.ensures);
    }

pub share_of-requires : goal.share_of-requires
share_of-requires c = kept_is (reading (goal.at.share_of-requires c).After-recovery_line-line)

pub put_row-requires : goal.put_row-requires
unfolding share_row
put_row-requires c =
    let left = part_put (listing_left (reading (goal.at.put_row-requires c).After-recovery_line-line) c.share_of.ensures) c.put_line.ensures in
    let later = part_put (part_put left c.put_holds.ensures) c.put_checkpoints.ensures in
    part_room (part_put later c.put_messages.ensures)

pub returns : goal.returns
unfolding share_row
returns c =
    let left = part_put (listing_left (reading (goal.at.returns c).After-recovery_line-line) c.share_of.ensures) c.put_line.ensures in
    let later = part_put (part_put left c.put_holds.ensures) c.put_checkpoints.ensures in
    let laid = text_laid (none_left (part_put (part_put later c.put_messages.ensures) c.put_row.ensures)) in
    search (rules, laid)
