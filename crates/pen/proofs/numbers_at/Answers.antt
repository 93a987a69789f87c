-- A number more behind those that are written.
use Rattle.pen.proofs.Numbers.{numbered_start, numbered_fits, numbered_next}
use Rattle.pen.proofs.numbers_at.Goals as goal

pub loop-i-init : goal.loop-i-init
loop-i-init c = numbered_start _ _ _ c.requires

pub next_at-to-requires : goal.next_at-to-requires
next_at-to-requires c = numbered_fits c.loop-i.invariant c.loop-i-test.true

pub loop-i-preserved : goal.loop-i-preserved
loop-i-preserved c = numbered_next c.loop-i.invariant c.loop-i-test.true c.next_at-to.auto.rest c.next_at-to.ensures
