-- `reader::line::matched`: the bytes at both fronts that are the same are counted.
use Rattle.std.proofs.Common.{rules, eqb}
use Rattle.std.proofs.lemmas.Iterator.{YieldsList-from_slice, YieldsList-from_zip}
use Rattle.std.proofs.lemmas.Iterator.Consumers.{YieldsList-at, count_from_yields_List}
use Rattle.std.proofs.lemmas.Iterator.Search.{YieldsList-from_take_while}
use borrow.Author.Tests.{tests}
use Rattle.reader.proofs.Keys.{matched_counted}
use Rattle.reader.proofs.line.matched.Goals as goal

pub returns : goal.returns
returns c =
    matched_counted _ _
    (count_from_yields_List _ _ c.count.ensures.ran
    (YieldsList-from_take_while _ (λ p. eqb p.1 p.0)
    (YieldsList-at c.take_while.ensures.source
    (YieldsList-from_zip (YieldsList-at c.zip.ensures.first (YieldsList-from_slice c.args.key.now (cc))) (YieldsList-from_slice c.args.l.now (cc))))
    c.take_while.ensures.closure c.take_while.ensures.done (λ x b q k. search (rules, tests))))
