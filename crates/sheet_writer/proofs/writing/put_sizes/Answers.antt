-- `writing::put_sizes` meets its contract: one number after the other, each by the two bytes of its low 16 bits.
use mathlib.Core.List.{◌∷◌, []}
use native.Mathlib.Omega.{arith}
use Rattle.sheet_writer.proofs.PutLaws.{put_low, put_then}
use Rattle.sheet_writer.proofs.writing.put_sizes.Goals as goal

pub returns : goal.returns
returns c =
    put_low (_ ∷ _ ∷ []) (put_then c.put_number-next.ensures c.put_number.ensures (omega arith))
