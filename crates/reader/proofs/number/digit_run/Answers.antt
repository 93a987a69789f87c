-- `reader::number::digit_run`: the digits at the front are counted.
use Rattle.std.proofs.Common.{rules}
use Rattle.std.specs.Char.{is_ascii_digit}
use Rattle.std.proofs.lemmas.Iterator.{YieldsList-from_slice}
use Rattle.std.proofs.lemmas.Iterator.Consumers.{YieldsList-at, count_from_yields_List}
use Rattle.std.proofs.lemmas.Iterator.Search.{YieldsList-from_take_while}
use borrow.Author.Tests.{tests}
use Rattle.reader.proofs.Digits.{run_counted}
use Rattle.reader.proofs.number.digit_run.Goals as goal

pub returns : goal.returns
returns c =
    run_counted _
    (count_from_yields_List _ _ c.count.ensures.ran
    (YieldsList-from_take_while _ is_ascii_digit (YieldsList-at c.take_while.ensures.source (YieldsList-from_slice c.args.w.now (cc)))
    c.take_while.ensures.closure c.take_while.ensures.done (λ x b q k. search (rules, tests))))
