-- The room left falls by each number; where it does not reach, the numbers have no room.
use Rattle.pen.proofs.Numbers.{measured_start, measured_full}
use Rattle.pen.proofs.numbers_fit.Goals as goal

pub loop-i-init : goal.loop-i-init
loop-i-init c = measured_start _ _

pub returns-then-left-need : goal.returns-then-left-need
returns-then-left-need c = measured_full c.loop-i.invariant c.loop-i-test.true c.next_len-need.ensures c.if-left-need.true
