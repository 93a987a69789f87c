-- `search::Crossing::entry_here`: the pair's contexts are those of the tables, and the first of the codes that they share is the event's.
use Rattle.std.proofs.Common.{ap, ◌∙◌}
use Rattle.entries.specs.Entries.{entry_of}
use Rattle.tables.specs.Accepted.{the_site}
use Rattle.tables.proofs.Sound.{two_parts, sound_rises}
use Rattle.search.proofs.Steps.{met_here}
use Rattle.search.proofs.Crossing.entry_here.Goals as goal

pub union_count-union-requires : goal.union_count-union-requires
union_count-union-requires c =
    let x = c.args.self in
    let s = x.tables.sound in
    let i = c.pair.ensures.inside in
    record {
      xs_len_bound = (two_parts s _ _ i.0 i.1 c.context.ensures c.context-2.ensures).1;
      count_value = rw (c.context.ensures, c.context-2.ensures) (met_here x.beside (sound_rises s) c.requires.0 c.requires.1 x.code_value c.pair.ensures.value).0;
    }

pub returns : goal.returns
returns c =
    let x = c.args.self in
    let here = met_here x.beside (sound_rises x.tables.sound) c.requires.0 c.requires.1 x.code_value c.pair.ensures.value in
    cc (here.0, here.1) ∙ ap (entry_of (the_site x.tables)) c.pair.ensures.value
