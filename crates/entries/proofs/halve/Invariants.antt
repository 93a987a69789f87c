-- The loop of `entries::halve`: `RankWithin` is its invariant.
use Prim.Native.Nat.{◌-◌}
use Rattle.entries.proofs.Ranked.{RankWithin}
use Rattle.entries.proofs.halve.Given as goal

abbrev pub invariant-loop-lo : goal.invariant-loop-lo
invariant-loop-lo l = RankWithin l.list l.e l.found l.lo l.hi

abbrev pub decreases-loop-lo : goal.decreases-loop-lo
decreases-loop-lo l = l.hi - l.lo
