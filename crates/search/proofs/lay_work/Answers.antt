-- `search::lay_work`: zeros are the marks of no pair, and the agenda's layout leaves them so.
use Rattle.std.proofs.Common.{ℕ, sym, ap, ◌∙◌, arith}
use lib.ListN.{replicate}
use Rattle.search.specs.Search.{pair_words}
use Rattle.marks.proofs.Marked.{marks_none}
use Rattle.search.proofs.Areas.{agenda_long, agenda_written, agenda_besides, pairs_long, pairs_written, pairs_wide}
use Rattle.search.proofs.lay_work.Goals as goal

pub slice_bounds-prepare-end-2 : goal.slice_bounds-prepare-end-2
slice_bounds-prepare-end-2 c = let w = pairs_wide c.args.work.now c.requires _ (c.fill.auto.self ∙ pairs_long c.args.work.now c.requires) in sym (agenda_long _ w)

pub prepare-requires : goal.prepare-requires
prepare-requires c = let w = pairs_wide c.args.work.now c.requires _ (c.fill.auto.self ∙ pairs_long c.args.work.now c.requires) in omega (arith, agenda_long _ w)

pub returns : goal.returns
returns c =
    let old = c.args.work.now in
    let n = pairs_long old c.requires in
    let out = c.fill.new.self in
    let long = c.fill.auto.self ∙ n in
    let zero = c.fill.ensures.after (λ y h. h) ∙ ap (λ (n : ℕ). replicate n 0) n in
    let wide = pairs_wide old c.requires out long in
    let laid = c.prepare.new.work in
    record {
      agenda = rw (agenda_written _ wide laid c.prepare.auto.work) c.prepare.ensures.agenda;
      work_after = agenda_besides _ wide laid c.prepare.auto.work ∙ pairs_written old c.requires out long ∙ zero ∙ marks_none pair_words;
    }
