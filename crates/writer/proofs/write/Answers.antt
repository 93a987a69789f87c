-- Refused by the checks, without room, or written.
use Rattle.refusal.proofs.Passed.{passed}
use Rattle.writer.specs.Writes.{Written, Refused}
use Rattle.writer.proofs.Called.{write_refused, write_full, written_fits, write_done}
use Rattle.writer.proofs.write.Goals as goal

pub returns-in_err-tables : goal.returns-in_err-tables
returns-in_err-tables c = rw (passed Written Refused _ c.from_residual.result c.from_residual.ensures.1) (write_refused _ _ _ _ c.in_err-tables.ensures.value)

pub returns-in_default : goal.returns-in_default
returns-in_default c =
    rw (c.at.ensures.rule, c.at.ensures.place) (write_full _ _ _ _ c.in_ok-tables.ensures.value c.in_ok-tables.ensures.accepted c.sheet_lines.ensures c.in_default.is c.zero_from.ensures)

pub zero_from-requires-2 : goal.zero_from-requires-2
zero_from-requires-2 c = written_fits c.sheet_lines.ensures c.in-Some.is

pub returns : goal.returns
returns c = write_done _ _ _ _ c.in_ok-tables.ensures.value c.in_ok-tables.ensures.accepted c.sheet_lines.ensures c.in-Some.is c.zero_from-2.ensures
