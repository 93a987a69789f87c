-- `reader::read_into`: the `k=` line is refused, or the rest is read behind it.
use Rattle.std.proofs.Common.{ap}
use Rattle.reader.specs.Part.{part_said}
use Rattle.reader.proofs.Steps.{k_refused, k_within, k_read}
use Rattle.reader.proofs.read_into.Goals as goal

pub returns-in_default : goal.returns-in_default
returns-in_default c = k_refused _ _ _ c.number_line_from-line.ensures (ap part_said c.in_default.is) c.whole.ensures

pub read_rest-requires : goal.read_rest-requires
read_rest-requires c = k_within 0 0 _ c.number_line_from-line.ensures (ap part_said c.in-Ok.is)

pub returns : goal.returns
returns c = k_read _ _ _ c.number_line_from-line.ensures (ap part_said c.in-Ok.is) c.read_rest.ensures
