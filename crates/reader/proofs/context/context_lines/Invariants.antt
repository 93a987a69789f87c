-- The loop of `reader::context::context_lines`: `LinesDone`.
use Rattle.reader.proofs.Lined.{LinesDone}
use Rattle.reader.proofs.context.context_lines.Given as goal

abbrev pub invariant-loop-i : goal.invariant-loop-i
invariant-loop-i l = LinesDone l.sheet l.initial.offsets l.offsets l.initial.codes l.codes l.at l.n l.from l.used l.i
