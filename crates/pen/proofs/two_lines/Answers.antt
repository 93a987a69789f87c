-- The pen behind the first line is that of the text behind it.
use Rattle.pen.proofs.Past.{fits_on}
use Rattle.pen.proofs.two_lines.Goals as goal

pub line-requires-2 : goal.line-requires-2
line-requires-2 c = fits_on c.line.ensures c.requires c.line.auto.text
