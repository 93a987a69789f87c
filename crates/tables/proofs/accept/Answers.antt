-- `tables::accept`: tables that pass the checks are sound.
use Rattle.std.proofs.Common.{sym, ◌∙◌}
use Rattle.refusal.proofs.Passed.{passed}
use Rattle.tables.specs.Check.{Refused}
use Rattle.tables.proofs.Checks.{accepted}
use Rattle.tables.proofs.accept.Goals as goal

pub returns-in_err-check_tables-clause-value : goal.returns-in_err-check_tables-clause-value
returns-in_err-check_tables-clause-value c = passed _ Refused _ c.from_residual.result c.from_residual.ensures.1 ∙ c.in_err-check_tables.ensures

pub invariant_of-result : goal.invariant_of-result
invariant_of-result c = record { sound = (accepted _ _ _ (sym c.in_ok-check_tables.ensures)).sound }
