-- `tables::check_tables`: what refuses first is what the chain of checks says.
use Rattle.std.proofs.Common.{refl, sym, ◌∙◌}
use Rattle.refusal.proofs.Passed.{passed}
use Rattle.tables.specs.Check.{Refused}
use Rattle.tables.specs.Checks.{tables_check}
use Rattle.tables.proofs.Checks.{refused_first, fine_first, sizes_fine}
use Rattle.tables.proofs.check_tables.Goals as goal

pub returns-in_err-check_sizes : goal.returns-in_err-check_sizes
unfolding tables_check
returns-in_err-check_sizes c =
    passed _ Refused _ c.from_residual.result c.from_residual.ensures.1 ∙ refused_first _ c.in_err-check_sizes.ensures refl

pub returns-in_err-check_offsets : goal.returns-in_err-check_offsets
unfolding tables_check
returns-in_err-check_offsets c =
    passed _ Refused _ c.from_residual-in_err-check_offsets.result c.from_residual-in_err-check_offsets.ensures.1
    ∙ fine_first c.in_ok-check_sizes.ensures refl (refused_first _ c.in_err-check_offsets.ensures refl)

pub check_codes-requires-clause-offsets_nonzero : goal.check_codes-requires-clause-offsets_nonzero
check_codes-requires-clause-offsets_nonzero c = (sizes_fine _ _ _ (sym c.in_ok-check_sizes.ensures)).some

pub returns : goal.returns
unfolding tables_check
returns c = fine_first c.in_ok-check_sizes.ensures refl (fine_first c.in_ok-check_offsets.ensures refl c.check_codes.ensures)
