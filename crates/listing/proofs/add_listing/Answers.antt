-- `listing::add_listing`: the counts, and the entries behind them.
use Rattle.std.proofs.Common.{arith}
use Rattle.pen.proofs.Added.{added_then, added_fits}
use Rattle.listing.proofs.add_listing.Goals as goal

pub add_entries-requires : goal.add_entries-requires
add_entries-requires c = added_fits c.add_counts.ensures c.in_ok-pen.was

pub returns : goal.returns
returns c = added_then c.add_counts.ensures (omega arith) c.in_ok-pen.was c.add_entries.ensures
