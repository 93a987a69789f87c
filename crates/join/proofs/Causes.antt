-- What the checks refuse has its cause, and what has a cause is refused.
-- For 1 to 5 it cites the meaning of the tables' checks; 6, 7 and 8 are tests of one number each. Then: the buffers after a refusal.
use mathlib.Core.List.{List, [], ◌∷◌}
use mathlib.Core.Logic.{⊎_elim}
use mathlib.Core.Path.{◌≡◌, refl, sym, ◌∙◌}
use Prim.Native.Nat.{ℕ, ◌*◌, ◌≤◌, ◌<◌}
use native.Mathlib.Omega.{arith}
use lib.ListN.{length}
use borrow.Author.Tests.{lt-ltb, le-ltb}
use Rattle.site.specs.Tables.{site_of}
use Rattle.words.proofs.Split.{by_le}
use Rattle.tables.specs.Checks.{tables_check}
use Rattle.tables.specs.Check.{Check}
use Rattle.tables.specs.Check as check
use Rattle.tables.proofs.Refusals.{refused_exactly, fine_exactly, breaks_number}
use Rattle.entries.specs.Entries.{width}
use Rattle.search.specs.Outcome.{Tells, zeros, three_counts, trail_need}
use Rattle.search.proofs.Answers.{tells_refused}
use Rattle.join.specs.Join.{rooms_check, call_check, JoinCall, call_site, call_checked, Joins}
use Rattle.join.specs.Refusals.{Cause, tables, list_room, work_room, trail_room, CallCause}
use Rattle.join.proofs.Outcomes.{refused_only}

-- ---- the checks

module _ (k : ℕ) (os cs : List ℕ) (list work : ℕ) where
  by_tables : {n p : ℕ} → tables_check k os cs ≡ check.Refused n p → call_check k os cs list work ≡ check.Refused n p
  unfolding call_check
  by_tables e = rw e

  module _ (e : tables_check k os cs ≡ check.Fine) where
    by_list : list < width * k → call_check k os cs list work ≡ check.Refused 6 0
    unfolding call_check rooms_check
    by_list h = rw (e, lt-ltb list (width * k) h)

    by_work : width * k ≤ list → work < 10240 → call_check k os cs list work ≡ check.Refused 7 0
    unfolding call_check rooms_check
    by_work h w = rw (e, le-ltb list (width * k) h, lt-ltb work 10240 w)

    by_none : width * k ≤ list → 10240 ≤ work → call_check k os cs list work ≡ check.Fine
    unfolding call_check rooms_check
    by_none h w = rw (e, le-ltb list (width * k) h, le-ltb work 10240 w)

  -- what the checks refuse has its cause
  checks_cause : (trail : ℕ) {n p : ℕ} → call_check k os cs list work ≡ check.Refused n p → Cause k os cs list work trail n p
  checks_cause trail {n} {p} e = go (tables_check k os cs) refl
    where
      at : {m q : ℕ} → check.Refused m q ≡ check.Refused n p → Cause k os cs list work trail m q → Cause k os cs list work trail n p
      at {m} {q} same c = let a : m ≡ n = cc same in let b : q ≡ p = cc same in rw (← a, ← b) c

      go : (c : Check) → tables_check k os cs ≡ c → Cause k os cs list work trail n p
      go (check.Refused m q) f = at (sym (by_tables f) ∙ e) (tables ((refused_exactly k os cs m q).0 f))
      go check.Fine f =
          let kept = (fine_exactly k os cs).0 f in
          by_le (width * k) list
          (λ h. by_le 10240 work
          (λ w. let same = sym (by_none f h w) ∙ e in let z : ◌≡◌ {A = ℕ} 0 1 = cc same in absurd (omega arith))
          (λ w. at (sym (by_work f h w) ∙ e) (work_room kept h w)))
          (λ h. at (sym (by_list f h) ∙ e) (list_room kept h))

  -- where the checks accept, nothing before 8 is a cause
  pub fine_kept : call_check k os cs list work ≡ check.Fine → (tables_check k os cs ≡ check.Fine) × (width * k ≤ list) × (10240 ≤ work)
  fine_kept e = go (tables_check k os cs) refl
    where
      other : {m q : ℕ} → call_check k os cs list work ≡ check.Refused m q → ⊥
      other f = let same = sym f ∙ e in let z : ◌≡◌ {A = ℕ} 0 1 = cc same in omega arith

      go : (c : Check) → tables_check k os cs ≡ c → (tables_check k os cs ≡ check.Fine) × (width * k ≤ list) × (10240 ≤ work)
      go (check.Refused m q) f = absurd (other (by_tables f))
      go check.Fine f = by_le (width * k) list (λ h. by_le 10240 work (λ w. (f, h, w)) (λ w. absurd (other (by_work f h w)))) (λ h. absurd (other (by_list f h)))

-- ---- the numbers

-- 8 is for the trail alone
eight_trail : (k : ℕ) (os cs : List ℕ) (list work trail n p : ℕ) → Cause k os cs list work trail n p → n ≡ 8 → trail < trail_need k (site_of os cs)
eight_trail k os cs list work trail n p (tables b) e = absurd (omega (arith, (breaks_number k os cs n p b.here).1))
eight_trail k os cs list work trail n p (list_room a h) e = absurd (omega arith)
eight_trail k os cs list work trail n p (work_room a h w) e = absurd (omega arith)
eight_trail k os cs list work trail n p (trail_room a h w t) e = t

-- ---- the join

-- where no cause holds, the checks accept and the trail fits
fine_cause : (k : ℕ) (os cs : List ℕ) (list work trail : ℕ) → call_check k os cs list work ≡ check.Fine → trail < trail_need k (site_of os cs) → Cause k os cs list work trail 8 0
fine_cause k os cs list work trail f h = let a = fine_kept k os cs list work f in trail_room ((fine_exactly k os cs).0 a.0) a.1 a.2 h

module _ {c : JoinCall} (j : Joins c) where
  -- a refusal has its cause
  pub refused_cause : (n p : ℕ) → Tells c.answer n (p ∷ []) → CallCause c n p
  refused_cause n p e =
      ⊎_elim
      (λ f. checks_cause c.k c.offsets c.codes (length c.list) (length c.work) (length c.trail) f)
      (λ w.
      let q : n ≡ 8 = w.2 in
      let z : p ≡ 0 = w.3 in
      rw (q, z) (fine_cause c.k c.offsets c.codes (length c.list) (length c.work) (length c.trail) w.0 w.1))
      (refused_only j (tells_refused c.answer e))

  -- a cause is refused
  pub cause_refused : (n p : ℕ) → CallCause c n p → Tells c.answer n (p ∷ [])
  cause_refused n p (tables b) = (j.refused n p (by_tables c.k c.offsets c.codes (length c.list) (length c.work) ((refused_exactly c.k c.offsets c.codes n p).1 b))).told
  cause_refused n p (list_room a h) = (j.refused 6 0 (by_list c.k c.offsets c.codes (length c.list) (length c.work) ((fine_exactly c.k c.offsets c.codes).1 a) h)).told
  cause_refused n p (work_room a h w) = (j.refused 7 0 (by_work c.k c.offsets c.codes (length c.list) (length c.work) ((fine_exactly c.k c.offsets c.codes).1 a) h w)).told
  cause_refused n p (trail_room a h w t) = (j.no_room (by_none c.k c.offsets c.codes (length c.list) (length c.work) ((fine_exactly c.k c.offsets c.codes).1 a) h w) t).told

  -- a call without a cause tells its counts
  pub none_accepted : ((n p : ℕ) → CallCause c n p → ⊥) → Tells c.answer 0 (three_counts c.k (call_site c))
  none_accepted no-cause = go (call_checked c) refl
    where
      go : (x : Check) → call_checked c ≡ x → Tells c.answer 0 (three_counts c.k (call_site c))
      go (check.Refused m q) f = absurd (no-cause m q (checks_cause c.k c.offsets c.codes (length c.list) (length c.work) (length c.trail) f))
      go check.Fine f = by_le (trail_need c.k (call_site c)) (length c.trail)
          (λ h. (j.found f h).told)
          (λ h. absurd (no-cause 8 0 (fine_cause c.k c.offsets c.codes (length c.list) (length c.work) (length c.trail) f h)))

  -- after 1 to 7 no buffer has changed
  pub refused_unchanged : (n p : ℕ) → Tells c.answer n (p ∷ []) → (n ≡ 8 → ⊥) → (c.list' ≡ c.list) × (c.work' ≡ c.work) × (c.trail' ≡ c.trail)
  refused_unchanged n p e not-8 =
      ⊎_elim
      (λ f. let w = j.refused n p f in (w.list_as_was, w.work_as_was, w.trail_as_was))
      (λ w. absurd (not-8 w.2))
      (refused_only j (tells_refused c.answer e))

  -- after 8 all three are zero
  pub refused_emptied : (p : ℕ) → Tells c.answer 8 (p ∷ []) → (c.list' ≡ zeros c.list) × (c.work' ≡ zeros c.work) × (c.trail' ≡ zeros c.trail)
  refused_emptied p e =
      ⊎_elim
      (λ f.
      let many = trail_need c.k (call_site c) in
      let t = eight_trail c.k c.offsets c.codes (length c.list) (length c.work) many 8 p (checks_cause c.k c.offsets c.codes (length c.list) (length c.work) many f) refl in
      absurd (omega (arith, t)))
      (λ w. let z = j.no_room w.0 w.1 in (z.list_zero, z.work_zero, z.trail_zero))
      (refused_only j (tells_refused c.answer e))
