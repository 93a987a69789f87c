-- `marks::count` meets its contract: each step is a law of `Counting`.
use Rattle.marks.proofs.Loops.{counting_next, counting_end}
use Rattle.marks.proofs.count.Goals as goal

pub loop-y-preserved : goal.loop-y-preserved
loop-y-preserved c = search counting_next

pub returns : goal.returns
returns c = search counting_end
