-- `listing::add_counts`: one line behind the other.
use Rattle.std.proofs.Common.{refl, arith}
use Rattle.listing.specs.Listing.{counts_text}
use Rattle.pen.proofs.Added.{line_added, added_line, added_stop, added_fits}
use Rattle.listing.proofs.add_counts.Goals as goal

pub returns-in_err-pen : goal.returns-in_err-pen
unfolding counts_text
returns-in_err-pen c =
    let one = line_added (omega arith) c.line_if.ensures in
    rw c.from_residual.ensures (added_stop (added_stop (added_stop one _ c.in_err-pen.was) _ refl) _ refl)

pub line_if-requires-2 : goal.line_if-requires-2
line_if-requires-2 c = added_fits (line_added (omega arith) c.line_if.ensures) c.in_ok-pen.was

pub returns-in_err-pen-2 : goal.returns-in_err-pen-2
unfolding counts_text
returns-in_err-pen-2 c =
    let one = line_added (omega arith) c.line_if.ensures in
    let two = added_line one (omega arith) c.in_ok-pen.was c.line_if-2.ensures in
    rw c.from_residual-in_err-pen-2.ensures (added_stop (added_stop two _ c.in_err-pen-2.was) _ refl)

pub line_if-requires-3 : goal.line_if-requires-3
line_if-requires-3 c =
    let one = line_added (omega arith) c.line_if.ensures in
    let two = added_line one (omega arith) c.in_ok-pen.was c.line_if-2.ensures in
    added_fits two c.in_ok-pen-2.was

pub returns-in_err-pen-3 : goal.returns-in_err-pen-3
unfolding counts_text
returns-in_err-pen-3 c =
    let one = line_added (omega arith) c.line_if.ensures in
    let two = added_line one (omega arith) c.in_ok-pen.was c.line_if-2.ensures in
    let three = added_line two (omega arith) c.in_ok-pen-2.was c.line_if-3.ensures in
    rw c.from_residual-in_err-pen-3.ensures (added_stop three _ c.in_err-pen-3.was)

pub line_if-requires-4 : goal.line_if-requires-4
line_if-requires-4 c =
    let one = line_added (omega arith) c.line_if.ensures in
    let two = added_line one (omega arith) c.in_ok-pen.was c.line_if-2.ensures in
    let three = added_line two (omega arith) c.in_ok-pen-2.was c.line_if-3.ensures in
    added_fits three c.in_ok-pen-3.was

pub returns : goal.returns
unfolding counts_text
returns c =
    let one = line_added (omega arith) c.line_if.ensures in
    let two = added_line one (omega arith) c.in_ok-pen.was c.line_if-2.ensures in
    let three = added_line two (omega arith) c.in_ok-pen-2.was c.line_if-3.ensures in
    added_line three (omega arith) c.in_ok-pen-3.was c.line_if-4.ensures
