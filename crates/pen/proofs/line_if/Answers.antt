-- Whether the pen has moved tells whether the line had room.
use Rattle.pen.proofs.Past.{line_some}
use Rattle.pen.proofs.Added.{if_moved, if_stayed}
use Rattle.pen.proofs.line_if.Goals as goal

pub returns-then-next-pen : goal.returns-then-next-pen
returns-then-next-pen c = if_stayed c.line_by-next.ensures (line_some c.args.key.now c.args.numbers.now) c.if-next-pen.true

pub returns-else-next-pen : goal.returns-else-next-pen
returns-else-next-pen c = if_moved c.line_by-next.ensures c.if-next-pen.false
