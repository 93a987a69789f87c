-- `listing::add_entries`: one line more, or no room for it.
use Rattle.std.proofs.Common.{rules, length-append, take_all, ◌∙◌}
use Rattle.listing.proofs.Adding.{rows_start, rows_next, rows_full, rows_end}
use Rattle.listing.proofs.add_entries.Goals as goal

-- it is the whole list that is cut into parts
pub loop-entry-init : goal.loop-entry-init
loop-entry-init c =
    let parts = c.chunks_exact-entry-items.ensures in
    rw c.into_iter-entry-iterator.ensures.into_iter_gives (rows_start c.args.list.now (parts.rest ∙ search (rules, take_all)) parts.size c.requires)

-- and the whole part that a line has
pub returns-in_err-pen : goal.returns-in_err-pen
returns-in_err-pen c =
    let part = c.in-Some.ensures.steps.1 in
    let long = part.1 ∙ c.loop-entry.invariant.wide in
    rw c.from_residual.ensures (rows_full c.requires c.loop-entry.invariant _ _ part.0 part.1 (search (rules, take_all, long)) c.line_if.ensures c.in_err-pen.was)

pub loop-entry-preserved : goal.loop-entry-preserved
loop-entry-preserved c =
    let steps = c.in-Some.ensures.steps in
    let long = steps.1.1 ∙ c.loop-entry.invariant.wide in
    rows_next c.requires c.loop-entry.invariant _ _ steps.1.0 steps.1.1 (search (rules, take_all, long)) c.line_if.ensures steps.0 (length-append _ _) c.in_ok-pen.was

pub returns : goal.returns
returns c = rows_end c.requires c.loop-entry.invariant c.in-None.ensures.steps.1.0
