-- `search::Crossing::note_pair`: with few contexts the pair's mark is put, with many nothing is written.
use Rattle.std.proofs.Common.{ℕ, ◌+◌, refl, ap, ◌∙◌, arith}
use borrow.Rule.Slice.PartMut.{put_mid}
use Rattle.marks.specs.Marks.{code_words, with_mark}
use Rattle.agenda.specs.Layout.{agenda_room}
use Rattle.search.specs.Search.{pair_words, pairs_part}
use Rattle.search.specs.Crossings.{the_pair}
use Rattle.search.proofs.Areas.{pairs_long, pairs_besides, pairs_written}
use Rattle.search.proofs.Seen.{seen_more, seen_many}
use Rattle.search.proofs.Steps.{both_inside}
use Rattle.search.proofs.Crossing.note_pair.Goals as goal

pub put_mark-requires : goal.put_mark-requires
put_mark-requires c = omega (arith, c.number.ensures.small, pairs_long c.args.work.now c.requires)

pub returns-then-contexts-le-MOST : goal.returns-then-contexts-le-MOST
returns-then-contexts-le-MOST c =
    let x = c.args.self in
    let w = c.args.work.now in
    let e = c.put_mark in
    let out = e.new.marks in
    let long = e.auto.marks ∙ pairs_long w c.requires in
    let put = pairs_written w c.requires out long ∙ e.ensures ∙ ap (λ (n : ℕ). with_mark (pairs_part w) n) c.number.ensures.value in
    let besides = pairs_besides w c.requires out long in
    let now = put_mid (agenda_room + code_words) pair_words w out in
    let noted = seen_more x.tables.sound (the_pair x) (both_inside x.tables.sound x.beside) (omega (arith, c.contexts.ensures)) w now put in
    record { work_unchanged = besides.0; work_unchanged_2 = besides.1; noted = noted }

pub returns-else-contexts-le-MOST : goal.returns-else-contexts-le-MOST
returns-else-contexts-le-MOST c = record { work_unchanged = refl; work_unchanged_2 = refl; noted = λ pairs seen. seen_many _ (omega (arith, c.contexts.ensures)) _ c.args.work.now }
