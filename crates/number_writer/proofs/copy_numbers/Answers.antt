-- `copy_numbers` meets its contract: the bytes of the part's first numbers (`front_read`) stand at their place (`part_put`).
use Rattle.std.proofs.Common.{◌≡◌, ◌∙◌, ◌+◌, ◌-◌, ◌*◌, arith, sym}
use Rattle.number_writer.proofs.WriteLaws.{numbers_size}
use Rattle.tables.proofs.CodingLaws.{AreBytes, front_read}
use Rattle.tables.proofs.NumberLaws.{part_put}
use Rattle.number_writer.proofs.copy_numbers.Goals as goal

pub returns : goal.returns
unfolding AreBytes
returns c =
    let numbers = front_read 2 c.args.n c.args.part.now c.requires.n_in_bounds (λ i. omega (arith, c.type_inv.part i)) in
    let size : c.args.at + 2 * c.args.n - c.args.at ≡ 2 * c.args.n = omega arith in
    part_put _ _ (c.copy_from_slice.ensures.after ∙ sym numbers) (size ∙ sym (numbers_size _ _))
