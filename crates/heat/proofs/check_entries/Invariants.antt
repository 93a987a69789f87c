-- The loop of `heat::check_entries`: `Checked`.
use Rattle.tables.proofs.Checked.{Checked}
use Rattle.heat.specs.Checks.{rule_at}
use Rattle.heat.proofs.check_entries.Given as goal

abbrev pub invariant-loop-i : goal.invariant-loop-i
invariant-loop-i l = Checked (rule_at l.contexts l.list) 0 l.entries l.i
