-- The digits, behind a space unless the number is the first.
use Rattle.pen.proofs.Numbers.{first_wrote, later_wrote}
use Rattle.pen.proofs.next_at.Goals as goal

pub returns-then-i-eq0 : goal.returns-then-i-eq0
returns-then-i-eq0 c = first_wrote _ _ c.if-i-eq0.true c.number_at.ensures

pub returns : goal.returns
returns c = later_wrote _ _ c.if-i-eq0.false c.requires c.bytes_at-digits.ensures c.number_at-2.ensures
