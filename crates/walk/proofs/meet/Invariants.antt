-- The walk of `walk::meet`: `Walked` is its invariant.
use Prim.Native.Nat.{◌+◌, ◌-◌}
use lib.ListN.{length}
use Rattle.walk.proofs.Walked.{Walked}
use Rattle.walk.proofs.meet.Given as goal

abbrev pub invariant-walk : goal.invariant-walk
invariant-walk l = Walked l.xs l.ys l.i l.j

abbrev pub decreases-walk : goal.decreases-walk
decreases-walk l = (length l.xs - l.i) + (length l.ys - l.j)
