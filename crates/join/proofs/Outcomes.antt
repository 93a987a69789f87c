-- The join's outcome where its checks refuse and where they accept, and that the equation says what the record `Joins` says.
-- Then what an answer tells of the call: counts only where the checks accept and the trail fits.
use mathlib.Core.List.{List}
use mathlib.Core.Logic.{◌⊎◌, inl, inr}
use mathlib.Core.Path.{◌≡◌, refl, sym, ap, ◌∙◌}
use Prim.Native.Nat.{ℕ, ◌≤◌, ◌<◌}
use native.Mathlib.Omega.{arith}
use lib.ListN.{length}
use borrow.Author.Tests.{lt-ltb, le-ltb}
use Rattle.site.specs.Tables.{site_of}
use Rattle.words.proofs.Split.{by_le}
use Rattle.tables.specs.Check.{Check}
use Rattle.tables.specs.Check as check
use Rattle.search.specs.Outcome.{Outcome, outcome, trail_need, search_of}
use Rattle.search.specs.Answer as answer
use Rattle.search.proofs.Answers.{tells_refused, refused_tells, tells_listed, listed_tells}
use Rattle.join.specs.Join.{call_check, join_of, JoinCall, call_site, call_checked, call_outcome, call_owes, Unchanged, TrailFull, Found, Joins}

-- a refusal tells no counts
other : {X : Type 0} {n p f e m : ℕ} → answer.Refused n p ≡ answer.Listed f e m → X
other q = let z : ◌≡◌ {A = ℕ} 0 1 = cc q in absurd (omega arith)

module _ (k : ℕ) (os cs list work trail : List ℕ) where
  -- ---- from the checks

  module _ {c : Check} (e : c ≡ call_check k os cs (length list) (length work)) where
    -- what the checks refuse
    pub join_refused : {n p : ℕ} → c ≡ check.Refused n p → outcome (answer.Refused n p) list work trail ≡ join_of k os cs list work trail
    unfolding join_of
    join_refused f = rw (← e, f)

    -- what they accept
    pub join_found : c ≡ check.Fine → {o : Outcome} → o ≡ search_of k (site_of os cs) list work trail → o ≡ join_of k os cs list work trail
    unfolding join_of
    join_found f q = rw (← e, f) q

-- ---- the equation and the record

module _ (c : JoinCall) where
  unchanged_so : (n p : ℕ) → call_outcome c ≡ outcome (answer.Refused n p) c.list c.work c.trail → Unchanged c n p
  unchanged_so n p e = record {
    told = refused_tells (ap (λ (o : Outcome). o.answer) e);
    list_as_was = ap (λ (o : Outcome). o.list) e;
    work_as_was = ap (λ (o : Outcome). o.work) e;
    trail_as_was = ap (λ (o : Outcome). o.trail) e;
  }

  -- where the checks accept
  module _ (f : call_checked c ≡ check.Fine) where
    full_so : length c.trail < trail_need c.k (call_site c) → call_outcome c ≡ call_owes c → TrailFull c
    unfolding join_of search_of
    full_so h e =
        let q = rw (f, lt-ltb (length c.trail) (trail_need c.k (call_site c)) h) at e in
        record {
          told = refused_tells (ap (λ (o : Outcome). o.answer) q);
          list_zero = ap (λ (o : Outcome). o.list) q;
          work_zero = ap (λ (o : Outcome). o.work) q;
          trail_zero = ap (λ (o : Outcome). o.trail) q;
        }

    found_so : trail_need c.k (call_site c) ≤ length c.trail → call_outcome c ≡ call_owes c → Found c
    unfolding join_of search_of
    found_so h e =
        let q = rw (f, le-ltb (length c.trail) (trail_need c.k (call_site c)) h) at e in
        record {
          told = listed_tells (ap (λ (o : Outcome). o.answer) q);
          list_holds = ap (λ (o : Outcome). o.list) q;
          work_zero = ap (λ (o : Outcome). o.work) q;
          trail_holds = ap (λ (o : Outcome). o.trail) q;
        }

    accepted_is : Joins c → call_outcome c ≡ call_owes c
    unfolding join_of search_of
    accepted_is j = by_le (trail_need c.k (call_site c)) (length c.trail)
        (λ h. let w = j.found f h in let a = tells_listed c.answer w.told in
        rw (f, le-ltb (length c.trail) (trail_need c.k (call_site c)) h) (λ i. record { answer = a i; list = w.list_holds i; work = w.work_zero i; trail = w.trail_holds i }))
        (λ h. let w = j.no_room f h in let a = tells_refused c.answer w.told in
        rw (f, lt-ltb (length c.trail) (trail_need c.k (call_site c)) h) (λ i. record { answer = a i; list = w.list_zero i; work = w.work_zero i; trail = w.trail_zero i }))

  refused_is : {n p : ℕ} → call_checked c ≡ check.Refused n p → Unchanged c n p → call_outcome c ≡ call_owes c
  unfolding join_of
  refused_is f w = let a = tells_refused c.answer w.told in rw f (λ i. record { answer = a i; list = w.list_as_was i; work = w.work_as_was i; trail = w.trail_as_was i })

  -- the equation says the record
  pub joins : call_outcome c ≡ call_owes c → Joins c
  joins e = record {
    refused = λ n p f. unchanged_so n p (e ∙ sym (join_refused c.k c.offsets c.codes c.list c.work c.trail (sym f) refl));
    no_room = λ f h. full_so f h e;
    found = λ f h. found_so f h e;
  }

  -- and the record the equation
  pub joins_back : Joins c → call_outcome c ≡ call_owes c
  joins_back j = go (call_checked c) refl
    where
      go : (x : Check) → call_checked c ≡ x → call_outcome c ≡ call_owes c
      go check.Fine f = accepted_is f j
      go (check.Refused n p) f = refused_is f (j.refused n p f)

-- ---- what an answer tells of the call

module _ {c : JoinCall} (j : Joins c) where
  -- a refusal is of the checks, or it is 8
  pub refused_only : {n p : ℕ} → c.answer ≡ answer.Refused n p
      → (call_checked c ≡ check.Refused n p) ⊎ ((call_checked c ≡ check.Fine) × (length c.trail < trail_need c.k (call_site c)) × (n ≡ 8) × (p ≡ 0))
  refused_only {n} {p} e = go (call_checked c) refl
    where
      go : (x : Check) → call_checked c ≡ x
          → (call_checked c ≡ check.Refused n p) ⊎ ((call_checked c ≡ check.Fine) × (length c.trail < trail_need c.k (call_site c)) × (n ≡ 8) × (p ≡ 0))
      go (check.Refused m q) f =
          let same : answer.Refused m q ≡ answer.Refused n p = sym (tells_refused c.answer (j.refused m q f).told) ∙ e in
          let a : m ≡ n = cc same in
          let b : q ≡ p = cc same in
          inl (f ∙ (λ i. check.Refused (a i) (b i)))
      go check.Fine f = by_le (trail_need c.k (call_site c)) (length c.trail)
          (λ h. other (sym e ∙ tells_listed c.answer (j.found f h).told))
          (λ h.
          let same : answer.Refused 8 0 ≡ answer.Refused n p = sym (tells_refused c.answer (j.no_room f h).told) ∙ e in
          let a : 8 ≡ n = cc same in
          let b : 0 ≡ p = cc same in
          inr (f, h, sym a, sym b))

  -- counts are told where the checks accept and the trail fits
  pub listed_only : {found events met : ℕ} → c.answer ≡ answer.Listed found events met → (call_checked c ≡ check.Fine) × (trail_need c.k (call_site c) ≤ length c.trail)
  listed_only {found} {events} {met} e = go (call_checked c) refl
    where
      go : (x : Check) → call_checked c ≡ x → (call_checked c ≡ check.Fine) × (trail_need c.k (call_site c) ≤ length c.trail)
      go (check.Refused m q) f = other (sym (tells_refused c.answer (j.refused m q f).told) ∙ e)
      go check.Fine f = by_le (trail_need c.k (call_site c)) (length c.trail) (λ h. (f, h)) (λ h. other (sym (tells_refused c.answer (j.no_room f h).told) ∙ e))
