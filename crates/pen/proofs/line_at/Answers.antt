-- By what the measure tells, the line is written into the lent rest, or nothing is done.
use Rattle.std.proofs.Common.{refl}
use Rattle.sheet.specs.Text.{line_text}
use Rattle.pen.proofs.Lined.{told_fits, told_full, lined_stays, rest_lined}
use Rattle.pen.proofs.line_at.Goals as goal

pub returns-then-not-line_fits : goal.returns-then-not-line_fits
returns-then-not-line_fits c = lined_stays (told_full _ _ c.line_fits.ensures c.if-not-line_fits.true) refl refl

pub returns : goal.returns
returns c =
    rest_lined c.args.pen c.args.text.now c.requires (line_text c.args.key.now c.args.numbers.now) (told_fits _ _ c.line_fits.ensures c.if-not-line_fits.false) c.line_in-more.ensures
