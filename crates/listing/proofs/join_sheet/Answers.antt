-- `listing::join_sheet`: the parts lent to the join are the tables of the sheet that was read.
use Rattle.std.proofs.Common.{refl, sym, arith}
use lib.Seq.{length-take-le}
use Rattle.refusal.proofs.Passed.{passed}
use Rattle.reader.proofs.Answers.{reads_answer}
use Rattle.listing.specs.Joined.{Refused}
use Rattle.listing.proofs.Sheets.{tables_fit, sheet_refused, sheet_told}
use Rattle.listing.proofs.join_sheet.Goals as goal

pub returns-in_err-read : goal.returns-in_err-read
returns-in_err-read c = rw (passed _ Refused _ c.from_residual.result c.from_residual.ensures.1) (sheet_refused _ (reads_answer c.in_err-read.ensures) _ refl)

pub slice_bounds-offsets-end : goal.slice_bounds-offsets-end
slice_bounds-offsets-end c = omega (arith, c.read.auto.offsets, (tables_fit _ (reads_answer c.in_ok-read.ensures) refl).0)

pub slice_bounds-codes-end : goal.slice_bounds-codes-end
slice_bounds-codes-end c = omega (arith, c.read.auto.codes, (tables_fit _ (reads_answer c.in_ok-read.ensures) refl).1)

pub slice_bounds-join_tables-end : goal.slice_bounds-join_tables-end
slice_bounds-join_tables-end c = sym (length-take-le _ _ (omega (arith, c.read.auto.offsets, (tables_fit _ (reads_answer c.in_ok-read.ensures) refl).0)))

pub slice_bounds-join_tables-end-2 : goal.slice_bounds-join_tables-end-2
slice_bounds-join_tables-end-2 c = sym (length-take-le _ _ (omega (arith, c.read.auto.codes, (tables_fit _ (reads_answer c.in_ok-read.ensures) refl).1)))

pub returns : goal.returns
returns c = let r = c.in_ok-read.ensures in sheet_told _ (reads_answer r) refl r.offsets_are r.codes_are c.join_tables.ensures
