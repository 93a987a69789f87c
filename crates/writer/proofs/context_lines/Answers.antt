-- A line more for a context, or the one without room.
use Rattle.std.proofs.Common.{arith}
use Rattle.tables.specs.Accepted.{the_site}
use Rattle.tables.proofs.Sound.{contexts_are}
use Rattle.pen.proofs.Past.{grown_start, grown_end}
use Rattle.pen.proofs.Added.{added_on}
use Rattle.writer.proofs.Sheets.{lines_grow, contexts_few, context_more, context_full}
use Rattle.writer.proofs.context_lines.Goals as goal

pub loop-i-init : goal.loop-i-init
loop-i-init c = grown_start lines_grow _ c.requires

pub overflow_cast-i : goal.overflow_cast-i
overflow_cast-i c = omega (arith, contexts_few c.args.tables.sound)

pub context-requires : goal.context-requires
context-requires c = omega (arith, contexts_are c.args.tables.sound)

pub returns-in_err-pen : goal.returns-in_err-pen
returns-in_err-pen c =
    rw c.from_residual.ensures (context_full (the_site c.args.tables) c.loop-i.i c.requires c.loop-i.invariant (omega arith) c.context.ensures c.line_if.ensures c.in_err-pen.was)

pub loop-i-preserved : goal.loop-i-preserved
loop-i-preserved c = context_more (the_site c.args.tables) c.loop-i.i c.requires c.loop-i.invariant (omega arith) c.context.ensures c.line_if.ensures c.in_ok-pen.was

pub returns : goal.returns
returns c = added_on (grown_end c.loop-i.invariant (omega arith))
