-- The key, the numbers and byte 10, one behind the other.
use Rattle.pen.proofs.Lined.{line_wrote}
use Rattle.pen.proofs.line_in.Goals as goal

pub returns : goal.returns
returns c = line_wrote _ _ c.requires c.bytes_at-at.ensures c.numbers_at-to.ensures c.bytes_at.ensures
