-- `search::Crossing::met_before`: among few contexts the pair's mark tells, among many nothing is claimed.
use Rattle.std.proofs.Common.{ℕ, sym, ap, ◌∙◌, arith}
use Rattle.marks.specs.Marks.{is_marked}
use Rattle.search.specs.Search.{pairs_part}
use Rattle.search.specs.Crossings.{the_pair}
use Rattle.search.proofs.Areas.{pairs_long}
use Rattle.search.proofs.Seen.{seen_told}
use Rattle.search.proofs.Steps.{both_inside}
use Rattle.search.proofs.Crossing.met_before.Goals as goal

pub is_marked-requires : goal.is_marked-requires
is_marked-requires c = omega (arith, c.number.ensures.small, pairs_long c.args.work.now c.requires)

pub returns-then-contexts-le-MOST : goal.returns-then-contexts-le-MOST
returns-then-contexts-le-MOST c =
    let x = c.args.self in
    let w = c.args.work.now in
    let r = c.is_marked.ensures ∙ ap (λ (n : ℕ). is_marked (pairs_part w) n) c.number.ensures.value in
    λ t. seen_told x.tables.sound (the_pair x) (both_inside x.tables.sound x.beside) (omega (arith, c.contexts.ensures)) w (sym r ∙ t)
