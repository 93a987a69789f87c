-- The loop of `search::turn` over the earlier events at the code: `Turning` is its invariant.
use Prim.Native.Nat.{◌-◌}
use Rattle.search.proofs.Turns.{Turning}
use Rattle.search.proofs.turn.Given as goal

abbrev pub invariant-earlier : goal.invariant-earlier
invariant-earlier l =
    Turning l.tables.offsets.now l.tables.codes.now l.k l.events l.event.context l.event.place l.code l.n l.initial.list l.initial.work l.initial.trail l.list l.work l.trail l.so_far

abbrev pub decreases-earlier : goal.decreases-earlier
decreases-earlier l = 4096 - l.n
