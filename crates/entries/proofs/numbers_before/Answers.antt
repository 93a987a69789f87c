-- `entries::numbers_before` meets its contract: tuples are in the site's order of numbers.
use Rattle.std.proofs.Common.{◌∙◌}
use Rattle.entries.specs.Entries.{entry_pair}
use Rattle.entries.proofs.Alike.{tuple_before}
use Rattle.entries.proofs.numbers_before.Goals as goal

pub returns : goal.returns
returns c = c.lt.ensures ∙ tuple_before (entry_pair c.args.e) (entry_pair c.args.f)
