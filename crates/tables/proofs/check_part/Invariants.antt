-- The loop of `tables::check_part`: `Checked`.
use Rattle.tables.specs.Rules.{part_rule}
use Rattle.tables.proofs.Checked.{Checked}
use Rattle.tables.proofs.check_part.Given as goal

abbrev pub invariant-loop-i : goal.invariant-loop-i
invariant-loop-i l = Checked (part_rule l.from l.codes) l.from l.to l.i
