-- `reader::context::codes_in`: each word of the line is refused, the last, or one with more behind it.
use Rattle.std.proofs.Common.{ap, arith}
use Rattle.reader.specs.Part.{part_said}
use Rattle.reader.proofs.Worded.{worded_start, word_refused, word_fits, word_last, word_more}
use Rattle.reader.proofs.context.codes_in.Goals as goal

pub loop-value-init : goal.loop-value-init
loop-value-init c = rw c.from-n.ensures (worded_start _ _ _ _ c.requires)

pub returns-in_default-clause-value : goal.returns-in_default-clause-value
returns-in_default-clause-value c = (word_refused c.loop-value.invariant c.code_from-r.ensures (ap part_said c.in_default.is)).0

pub returns-in_default-clause-stored : goal.returns-in_default-clause-stored
returns-in_default-clause-stored c = (word_refused c.loop-value.invariant c.code_from-r.ensures (ap part_said c.in_default.is)).1

pub bounds-codes-n : goal.bounds-codes-n
bounds-codes-n c = let f = word_fits c.loop-value.invariant c.code_from-r.ensures (ap part_said c.in-Ok.is) in omega arith

pub returns-then-next-end-clause-value : goal.returns-then-next-end-clause-value
returns-then-next-end-clause-value c =
    (word_last c.loop-value.invariant c.code_from-r.ensures (ap part_said c.in-Ok.is) (rw c.end.ensures at c.if-next-end.true)).0

pub returns-then-next-end-clause-stored : goal.returns-then-next-end-clause-stored
returns-then-next-end-clause-stored c =
    (word_last c.loop-value.invariant c.code_from-r.ensures (ap part_said c.in-Ok.is) (rw c.end.ensures at c.if-next-end.true)).1

pub overflow_sub-from : goal.overflow_sub-from
overflow_sub-from c = let f = word_fits c.loop-value.invariant c.code_from-r.ensures (ap part_said c.in-Ok.is) in omega arith

pub overflow_add-from : goal.overflow_add-from
overflow_add-from c =
    let f = word_fits c.loop-value.invariant c.code_from-r.ensures (ap part_said c.in-Ok.is) in
    omega (arith, c.if-next-end.false, c.args.l.fits)

pub loop-value-smaller : goal.loop-value-smaller
loop-value-smaller c =
    let f = word_fits c.loop-value.invariant c.code_from-r.ensures (ap part_said c.in-Ok.is) in omega (arith, c.if-next-end.false)

pub loop-value-preserved : goal.loop-value-preserved
loop-value-preserved c = word_more c.loop-value.invariant c.code_from-r.ensures (ap part_said c.in-Ok.is) (rw c.end.ensures at c.if-next-end.false)
