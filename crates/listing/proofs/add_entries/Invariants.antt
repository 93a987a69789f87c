-- The loop of `listing::add_entries`: a line for each entry so far.
use Rattle.std.proofs.Common.{length}
use Rattle.listing.proofs.Adding.{Rows}
use Rattle.listing.proofs.add_entries.Given as goal

abbrev pub invariant-loop-entry : goal.invariant-loop-entry
invariant-loop-entry l = Rows l.list l.entry-iterator.rest.now l.entry-iterator.size (length l.yielded) l.initial.text l.text l.initial.pen l.pen
