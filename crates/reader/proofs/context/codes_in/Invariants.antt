-- The loop of `reader::context::codes_in`: `Worded`.
use Prim.Native.Nat.{◌-◌}
use lib.ListN.{length}
use Rattle.reader.proofs.Worded.{Worded}
use Rattle.reader.proofs.context.codes_in.Given as goal

abbrev pub invariant-loop-value : goal.invariant-loop-value
invariant-loop-value l = Worded l.l.bytes.now l.initial.codes l.codes l.used l.l.at l.from l.n

abbrev pub decreases-loop-value : goal.decreases-loop-value
decreases-loop-value l = length l.l.bytes.now - l.from
