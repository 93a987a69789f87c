-- The loop of `tables::check_codes`, from one context to the next: `Parted`.
use Rattle.tables.proofs.Parts.{Parted}
use Rattle.tables.proofs.check_codes.Given as goal

abbrev pub invariant-loop-i : goal.invariant-loop-i
invariant-loop-i l = Parted l.offsets l.codes l.i
