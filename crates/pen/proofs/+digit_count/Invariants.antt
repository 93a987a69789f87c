-- The measure of `pen::digit_count`: it calls itself on n / 10, so the measure is n.
use Rattle.pen.proofs.+digit_count.Given as goal

abbrev pub decreases-digit_count : goal.decreases-digit_count
decreases-digit_count l = l.n
