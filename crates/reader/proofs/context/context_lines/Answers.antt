-- `reader::context::context_lines`: each line is refused or stored, and behind the last stands nothing.
use Rattle.std.proofs.Common.{ap}
use Rattle.reader.specs.Part.{part_said}
use Rattle.reader.proofs.Lined.{lined_start, lined_refused, lined_next, lined_more, lined_end}
use Rattle.reader.proofs.context.context_lines.Goals as goal

pub loop-i-init : goal.loop-i-init
loop-i-init c = lined_start _ c.args.offsets.now _ _ _ c.requires.at_in_bounds c.requires.n_bound

pub returns-in_default : goal.returns-in_default
returns-in_default c =
    lined_refused c.loop-i.invariant c.loop-i-test.true
    (c.context_line_from-r.ensures.value, c.context_line_from-r.ensures.stored) (ap part_said c.in_default.is)

pub loop-i-preserved : goal.loop-i-preserved
loop-i-preserved c =
    lined_next c.loop-i.invariant c.loop-i-test.true
    (c.context_line_from-r.ensures.value, c.context_line_from-r.ensures.stored) (ap part_said c.in-Ok.is) c.context_line_from-r.auto.codes

pub returns-then-from-sheet : goal.returns-then-from-sheet
returns-then-from-sheet c = rw (c.at.ensures.rule, c.at.ensures.place) (lined_more c.loop-i.invariant c.loop-i-test.false c.if-from-sheet.true)

pub returns : goal.returns
returns c = lined_end c.loop-i.invariant c.loop-i-test.false c.if-from-sheet.false
