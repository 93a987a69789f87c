-- One outcome only: two results that meet the contract of the search are equal, with every word of the buffers that they leave.
-- `Post` is the contract itself, as it is read from the code.
use mathlib.Core.Path.{sym, ◌∙◌}
use Rattle.words.proofs.OneAnswer.{OneAnswer}
use Rattle.search.specs.Outcome.{call_seen}
use Rattle.search.proofs.Answers.{seen_only}
use Rattle.search.proofs.search.Kinds as search_kinds
use Rattle.search.proofs.search.Reads as search

-- of the parameters, list, work area and trail are the third, fourth and fifth
pub search_only : OneAnswer 5 search_kinds.ps search_kinds.r search.Post (λ κs u x. call_seen u x.1.1.0.now x.1.1.1.0.now x.1.1.1.1.0.now)
search_only κs a u v x y p q = seen_only (p ∙ sym q)
