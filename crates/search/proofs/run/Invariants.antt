-- The loop of `search::run` over the events: `Searching` is its invariant.
use Rattle.search.proofs.Searching.{Searching}
use lib.ListN.{length}
use Prim.Native.Nat.{◌-◌}
use Rattle.search.proofs.run.Given as goal

abbrev pub invariant-events : goal.invariant-events
invariant-events l = Searching l.tables.offsets.now l.tables.codes.now l.k l.events l.initial.list l.initial.work l.initial.trail l.list l.work l.trail l.counts

abbrev pub decreases-events : goal.decreases-events
decreases-events l = length l.tables.codes.now - l.events
