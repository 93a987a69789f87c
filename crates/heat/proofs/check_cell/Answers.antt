-- `heat::check_cell` meets its contract: three checks, one after the other.
use Rattle.std.proofs.Common.{refl, sym, ◌∙◌}
use Rattle.refusal.proofs.Passed.{passed}
use Rattle.tables.specs.Check.{Refused}
use Rattle.tables.proofs.Checks.{refused_first, fine_first}
use Rattle.heat.specs.Checks.{cell_check}
use Rattle.heat.proofs.Accepting.{count_fine, entries_fine}
use Rattle.heat.proofs.check_cell.Goals as goal

pub returns-in_err-check_numbers-clause-value : goal.returns-in_err-check_numbers-clause-value
unfolding cell_check
returns-in_err-check_numbers-clause-value c =
    passed _ Refused _ c.from_residual.result c.from_residual.ensures.1 ∙ refused_first _ c.in_err-check_numbers.ensures refl

pub returns-in_err-check_count-clause-value : goal.returns-in_err-check_count-clause-value
unfolding cell_check
returns-in_err-check_count-clause-value c =
    passed _ Refused _ c.from_residual-in_err-check_count.result c.from_residual-in_err-check_count.ensures.1
    ∙ fine_first c.in_ok-check_numbers.ensures refl (refused_first _ c.in_err-check_count.ensures refl)

pub check_entries-requires : goal.check_entries-requires
check_entries-requires c = count_fine _ _ (sym c.in_ok-check_count.ensures)

pub returns-in_err-check_entries-clause-value : goal.returns-in_err-check_entries-clause-value
unfolding cell_check
returns-in_err-check_entries-clause-value c =
    passed _ Refused _ c.from_residual-in_err-check_entries.result c.from_residual-in_err-check_entries.ensures.1
    ∙ fine_first c.in_ok-check_numbers.ensures refl (fine_first c.in_ok-check_count.ensures refl c.in_err-check_entries.ensures)

pub invariant_of-result : goal.invariant_of-result
invariant_of-result c = record {
  room = count_fine _ _ (sym c.in_ok-check_count.ensures);
  positive = entries_fine _ _ _ (sym c.in_ok-check_entries.ensures);
}

pub returns-clause-value : goal.returns-clause-value
unfolding cell_check
returns-clause-value c = fine_first c.in_ok-check_numbers.ensures refl (fine_first c.in_ok-check_count.ensures refl c.in_ok-check_entries.ensures)
