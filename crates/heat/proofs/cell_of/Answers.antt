-- `heat::cell_of` meets its contract: what the checks refuse, or the cell.
use Rattle.std.proofs.Common.{◌∙◌}
use Rattle.refusal.proofs.Passed.{passed}
use Rattle.heat.specs.CellAnswer.{Refused}
use Rattle.heat.proofs.Accepting.{cell_refused, cell_shown}
use Rattle.heat.proofs.cell_of.Goals as goal

pub returns-in_err-listed : goal.returns-in_err-listed
returns-in_err-listed c =
    passed _ Refused _ c.from_residual.result c.from_residual.ensures.1 ∙ cell_refused _ _ _ _ _ c.in_err-listed.ensures.value

pub returns : goal.returns
returns c = let h = c.in_ok-listed.ensures in cell_shown _ _ _ _ _ h.value (cc (c.cell_in.ensures, h.listed.0, h.listed.1))
