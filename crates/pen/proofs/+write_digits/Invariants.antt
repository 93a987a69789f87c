-- The measure of `pen::write_digits`: it calls itself on n / 10, so the measure is n.
use Rattle.pen.proofs.+write_digits.Given as goal

abbrev pub decreases-write_digits : goal.decreases-write_digits
decreases-write_digits l = l.n
