-- `reader::read_rest`: the `contexts=` line is refused, or its `c=` lines are read behind it.
use Rattle.std.proofs.Common.{ap}
use Rattle.reader.specs.Part.{part_said}
use Rattle.reader.proofs.Steps.{contexts_refused, lines_begin, lines_read}
use Rattle.reader.proofs.read_rest.Goals as goal

pub returns-in_default : goal.returns-in_default
returns-in_default c =
    contexts_refused _ _ _ _ _ c.min.ensures c.number_line_from-line.ensures (ap part_said c.in_default.is) c.whole.ensures

pub context_lines-last-requires-clause-at_in_bounds : goal.context_lines-last-requires-clause-at_in_bounds
context_lines-last-requires-clause-at_in_bounds c =
    (lines_begin _ 0 0 _ _ c.min.ensures c.number_line_from-line.ensures c.requires (ap part_said c.in-Ok.is)).0

pub context_lines-last-requires-clause-n_bound : goal.context_lines-last-requires-clause-n_bound
context_lines-last-requires-clause-n_bound c =
    rw c.from.ensures (lines_begin _ 0 0 _ _ c.min.ensures c.number_line_from-line.ensures c.requires (ap part_said c.in-Ok.is)).1

pub returns : goal.returns
returns c =
    lines_read _ _ _ _ _ c.min.ensures c.number_line_from-line.ensures c.requires (ap part_said c.in-Ok.is) _
    (rw c.from.ensures at c.context_lines-last.ensures) c.whole-2.ensures
