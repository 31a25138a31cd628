-- The number falls at each call of `put_decimal`.
use Rattle.text_writer.proofs.TextWriter.+put_decimal.Given as goal

abbrev pub decreases-put_decimal : goal.decreases-put_decimal
decreases-put_decimal l = l.n
