-- The loop of `heat::Listed::cell_for`: `Sought` is its invariant.
use Rattle.heat.specs.Cells.{pair}
use Rattle.heat.proofs.Sought.{Sought}
use Rattle.heat.proofs.Listed.cell_for.Given as goal

abbrev pub invariant-loop-i : goal.invariant-loop-i
invariant-loop-i l = Sought l.self.list.now (pair l.lower l.higher) l.self.entries l.i
