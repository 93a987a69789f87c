-- What an answer tells, by the paper's number and values, is the answer.
-- So a promise may speak of the number and the values alone, and still fixes the answer.
use mathlib.Core.List.{List, [], ◌∷◌}
use mathlib.Core.Path.{◌≡◌, ap, ap₂}
use Prim.Native.Nat.{ℕ}
use native.Mathlib.Omega.{arith}
use lib.ListN.{length}
use Rattle.std.specs.Prelude.{Result}
use Rattle.refusal.specs.declared.Refusal.{Refusal}
use Rattle.refusal.proofs.Said.{Telling, said_tells}
use Rattle.search.specs.declared.Counted.{Counted}
use Rattle.search.specs.Outcome.{Outcome, outcome, call_seen, answer_said, answer_number, answer_values, Tells}
use Rattle.search.specs.Answer.{Answer}
use Rattle.search.specs.Answer as answer

module _ {n p : ℕ} where
  pub tells_refused : (r : Answer) → Tells r n (p ∷ []) → r ≡ answer.Refused n p
  tells_refused (answer.Listed f e m) t = absurd (omega (arith, ap length t.1))
  tells_refused (answer.Refused a b) t = let q : b ≡ p = cc t.1 in λ i. answer.Refused (t.0 i) (q i)

  pub refused_tells : {r : Answer} → r ≡ answer.Refused n p → Tells r n (p ∷ [])
  refused_tells e = (ap answer_number e, ap answer_values e)

module _ {f e m : ℕ} where
  pub tells_listed : (r : Answer) → Tells r 0 (f ∷ e ∷ m ∷ []) → r ≡ answer.Listed f e m
  tells_listed (answer.Listed a b c) t =
      let x : a ≡ f = cc t.1 in
      let y : b ≡ e = cc t.1 in
      let z : c ≡ m = cc t.1 in λ i. answer.Listed (x i) (y i) (z i)
  tells_listed (answer.Refused a b) t = absurd (omega (arith, ap length t.1))

  pub listed_tells : {r : Answer} → r ≡ answer.Listed f e m → Tells r 0 (f ∷ e ∷ m ∷ [])
  listed_tells q = (ap answer_number q, ap answer_values q)

-- ---- what a result says as an answer tells the result

answers_tell : Telling (λ (c : Counted). answer.Listed c.found c.events c.met) answer.Refused
answers_tell = record {
  told = λ a b e.
      let x : a.found ≡ b.found = cc e in
      let y : a.events ≡ b.events = cc e in
      let z : a.met ≡ b.met = cc e in λ i. record { found = x i; events = y i; met = z i };
  apart = λ a n p e. let z : ◌≡◌ {A = ℕ} 0 1 = cc e in omega arith;
  number = λ n p m q e. cc e;
  place = λ n p m q e. cc e;
}

pub answer_tells : (u v : Result Counted Refusal) → answer_said u ≡ answer_said v → u ≡ v
answer_tells u v e = said_tells answers_tell u v e

-- one outcome is of one result
pub seen_only : {u v : Result Counted Refusal} {l m w x t y : List ℕ} → outcome (answer_said u) l w t ≡ outcome (answer_said v) m x y → call_seen u l w t ≡ call_seen v m x y
seen_only {u} {v} e = ap₂ (λ r o. (r, o)) (answer_tells u v (ap (λ (o : Outcome). o.answer) e)) e
