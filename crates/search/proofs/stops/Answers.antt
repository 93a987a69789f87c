-- `search::stops`: the last entry is compared with the most that the event's pairs can reach.
use Rattle.std.proofs.Common.{ap, arith}
use lib.ListN.{length}
use Rattle.tables.proofs.Sound.{contexts_are, sound_rises, size_small}
use Rattle.agenda.specs.Next.{event_is}
use Rattle.search.proofs.Ceilings.{stop_told}
use Rattle.search.proofs.stops.Goals as goal

pub context-requires : goal.context-requires
context-requires c = omega (arith, contexts_are c.args.tables.sound, c.requires.occurs.inside)

pub overflow_cast-size : goal.overflow_cast-size
overflow_cast-size c =
    let s = c.args.tables.sound in
    omega (arith, size_small s c.args.event.context.0 (omega (arith, contexts_are s, c.requires.occurs.inside)), ap length c.context.ensures)

pub overflow_add-ceiling : goal.overflow_add-ceiling
overflow_add-ceiling c =
    let s = c.args.tables.sound in
    omega (arith, size_small s c.args.event.context.0 (omega (arith, contexts_are s, c.requires.occurs.inside)), ap length c.context.ensures)

pub returns : goal.returns
returns c = stop_told (sound_rises c.args.tables.sound) (event_is _ _) c.requires.occurs _ _ _ c.context.ensures c.below_last.ensures
