-- `listing::list_into`: 11 first, then what the reader and the join refuse, then the text.
use Rattle.std.proofs.Common.{refl, sym, arith}
use lib.Seq.{length-take-le}
use Rattle.refusal.proofs.Passed.{passed}
use Rattle.listing.specs.Answer.{Text, Refused}
use Rattle.listing.proofs.Putting.{put_long, put_told, put_counts}
use Rattle.listing.proofs.Passing.{told_few}
use Rattle.listing.proofs.list_into.Goals as goal

pub returns-then-sheet-gt-LIMIT : goal.returns-then-sheet-gt-LIMIT
returns-then-sheet-gt-LIMIT c = rw (c.at.ensures.rule, c.at.ensures.place) (put_long _ _ c.if-sheet-gt-LIMIT.true _)

pub returns-in_err-joined : goal.returns-in_err-joined
returns-in_err-joined c = rw (passed Text Refused _ c.from_residual.result c.from_residual.ensures.1) (put_told _ _ c.if-sheet-gt-LIMIT.false c.in_err-joined.ensures refl _)

pub slice_bounds-list-end : goal.slice_bounds-list-end
slice_bounds-list-end c = omega (arith, c.join_sheet.auto.list, told_few _ c.in_ok-joined.ensures refl)

pub slice_bounds-write_listing-end : goal.slice_bounds-write_listing-end
slice_bounds-write_listing-end c = sym (length-take-le _ _ (omega (arith, c.join_sheet.auto.list, told_few _ c.in_ok-joined.ensures refl)))

pub returns : goal.returns
returns c = put_counts _ _ c.if-sheet-gt-LIMIT.false c.in_ok-joined.ensures refl c.write_listing.ensures
