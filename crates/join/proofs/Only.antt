-- The contract of the join says `Joins`, and has one outcome only. `Post` is the contract itself, as it is read from the code.
use mathlib.Core.Path.{sym, ◌∙◌}
use contract.Lifetimes.{Lfts}
use denote.Triple.Clauses.{AtExit}
use borrow.Fn.Kinds.{Dens, res_t, ended_of}
use Rattle.words.proofs.OneAnswer.{Says, OneAnswer}
use Rattle.search.specs.Outcome.{answer_said, call_seen}
use Rattle.search.proofs.Answers.{seen_only}
use Rattle.join.specs.Join.{JoinCall, Joins}
use Rattle.join.proofs.Outcomes.{joins}
use Rattle.join.proofs.join.Kinds as join_kinds
use Rattle.join.proofs.join.Reads as join

-- the call with the arguments a that results in u and leaves x: of the parameters, list, work area and trail are the fourth, fifth and sixth
abbrev pub call_of : (κs : Lfts 5) → Dens κs join_kinds.ps → (res_t join_kinds.r κs).Denot → AtExit (ended_of 5 join_kinds.ps join_kinds.r) κs → JoinCall
call_of κs a u x = record {
  k = a.0;
  offsets = a.1.0.now;
  codes = a.1.1.0.now;
  list = a.1.1.1.0.now;
  work = a.1.1.1.1.0.now;
  trail = a.1.1.1.1.1.0.now;
  answer = answer_said u;
  list' = x.1.1.1.0.now;
  work' = x.1.1.1.1.0.now;
  trail' = x.1.1.1.1.1.0.now;
}

pub join_says : Says 5 join_kinds.ps join_kinds.r join.Post (λ κs a u x. Joins (call_of κs a u x))
join_says κs a u x p = joins (call_of κs a u x) p

pub join_only : OneAnswer 5 join_kinds.ps join_kinds.r join.Post (λ κs u x. call_seen u x.1.1.1.0.now x.1.1.1.1.0.now x.1.1.1.1.1.0.now)
join_only κs a u v x y p q = seen_only (p ∙ sym q)
