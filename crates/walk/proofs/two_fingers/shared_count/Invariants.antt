-- The loop of `walk::two_fingers::shared_count`: `Fingers` is its invariant.
use Prim.Native.Nat.{◌+◌, ◌-◌}
use lib.ListN.{length}
use Rattle.walk.proofs.Fingers.{Fingers}
use Rattle.walk.proofs.two_fingers.shared_count.Given as goal

abbrev pub invariant-loop-left_finger : goal.invariant-loop-left_finger
invariant-loop-left_finger l = Fingers l.left_row l.right_row l.left_finger l.right_finger l.shared

abbrev pub decreases-loop-left_finger : goal.decreases-loop-left_finger
decreases-loop-left_finger l = (length l.left_row - l.left_finger) + (length l.right_row - l.right_finger)
