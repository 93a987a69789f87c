-- `search::Crossing::number`: that of the pair.
use Rattle.std.proofs.Common.{ap, arith}
use Rattle.site.specs.Site.{Pair}
use Rattle.search.proofs.Crossing.number.Goals as goal

pub returns-clause-value : goal.returns-clause-value
returns-clause-value c = omega (arith, ap (λ (p : Pair). p.lower) c.pair.ensures.value, ap (λ (p : Pair). p.higher) c.pair.ensures.value)
