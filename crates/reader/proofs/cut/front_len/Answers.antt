-- `reader::cut::front_len`: the bytes before the next b are counted.
use Rattle.std.proofs.Common.{rules, eqb, not}
use Rattle.std.proofs.lemmas.Iterator.{YieldsList-from_slice}
use Rattle.std.proofs.lemmas.Iterator.Consumers.{YieldsList-at, count_from_yields_List}
use Rattle.std.proofs.lemmas.Iterator.Search.{YieldsList-from_take_while}
use borrow.Author.Tests.{tests}
use Rattle.reader.proofs.Cuts.{front_counted}
use Rattle.reader.proofs.cut.front_len.Goals as goal

pub returns : goal.returns
returns c =
    front_counted _ _
    (count_from_yields_List _ _ c.count.ensures.ran
    (YieldsList-from_take_while _ (λ x. not (eqb x c.args.b)) (YieldsList-at c.take_while.ensures.source (YieldsList-from_slice c.args.text.now (cc)))
    c.take_while.ensures.closure c.take_while.ensures.done (λ x b q k. search (rules, tests))))
