-- The walk of `check_codes` from one context to the next, over offsets that keep their rules:
-- such offsets rise from 0 to the codes' length, and a context begins at each of them.
use mathlib.Core.Path.{◌≡◌, refl, sym, ◌∙◌}
use mathlib.Core.Bool.{Bool, true, false, cond}
use mathlib.Core.List.{List, [], ◌∷◌}
use Prim.Native.Nat.{ℕ, zero, suc, ◌+◌, ◌-◌, ◌≤◌, ◌<◌, zero-le}
use native.Mathlib.Nat.{le_refl, le_trans, not-suc-le-zero, le_of_suc-le-suc, sub_self}
use native.Mathlib.Decide.{le_ind}
use native.Mathlib.Omega.{arith}
use borrow.Author.Tests.{eq-eqb, ne_eqb, lt-ltb}
use lib.Dec.{eqb}
use lib.ListN.{length, get_or}
use Rattle.words.proofs.Split.{by_eq, by_le}
use Rattle.tables.specs.Earliest.{first_of, earliest}
use Rattle.tables.specs.Rules.{end_rule, offset_rule, code_rule, part_rule, member}
use Rattle.tables.specs.Check.{Check}
use Rattle.tables.specs.Check.{Fine, Refused}
use Rattle.tables.proofs.Meaning.{RuleKept, FirstBreak, fine_means, skip, refused_means, means_refused, earliest_ext}

member_here : (xs : List ℕ) (i : ℕ) → i < length xs → member (get_or xs i 0) xs ≡ true
unfolding member
member_here [] i h = absurd (not-suc-le-zero h)
member_here (x ∷ xs) zero h = rw (eq-eqb x x refl)
member_here (x ∷ xs) (suc i) h =
    by_eq (get_or xs i 0) x (λ e. rw (eq-eqb _ _ e)) (λ n. rw (ne_eqb _ _ n) (member_here xs i (le_of_suc-le-suc h)))

member_none : (k : ℕ) (xs : List ℕ) → ((i : ℕ) → i < length xs → k ≡ get_or xs i 0 → ⊥) → member k xs ≡ false
unfolding member
member_none k [] n = refl
member_none k (x ∷ xs) n = rw (ne_eqb k x (n 0 (omega arith))) (member_none k xs (λ i h. n (suc i) (omega arith)))

cond_same : (b : Bool) (x : ℕ) → cond b x x ≡ x
cond_same true x = refl
cond_same false x = refl

end_broken : (os : List ℕ) (n i : ℕ) → i + 1 ≡ length os → (get_or os i 0 ≡ n → ⊥) → end_rule os n i ≡ 3
unfolding end_rule
end_broken os n i h z = rw (eq-eqb _ _ h, ne_eqb _ _ z)

module _ (os : List ℕ) (n : ℕ) (some : 0 < length os) (fine : earliest (offset_rule os n) 0 (length os) ≡ Fine) where
  kept : RuleKept (offset_rule os n) 0 (length os)
  kept = fine_means (offset_rule os n) 0 (length os) zero-le fine

  pub first_zero : get_or os 0 0 ≡ 0
  unfolding offset_rule
  first_zero =
      by_eq (get_or os 0 0) 0 (λ e. e)
      (λ z. let r : ◌≡◌ {A = ℕ} 3 0 = rw (ne_eqb (get_or os 0 0) 0 z) at (kept 0 zero-le some) in absurd (omega arith))

  rises : (i : ℕ) → suc i < length os → get_or os i 0 ≤ get_or os (suc i) 0
  unfolding offset_rule
  rises i h =
      by_le (get_or os i 0) (get_or os (suc i) 0) (λ l. l)
      (λ l. let p : suc i - 1 ≡ i = omega arith in
      let r : ◌≡◌ {A = ℕ} 3 0 = rw (ne_eqb (suc i) 0 (λ e. omega arith), p, lt-ltb _ _ l) at (kept (suc i) zero-le h) in absurd (omega arith))

  pub rising : (i j : ℕ) → i ≤ j → j < length os → get_or os i 0 ≤ get_or os j 0
  rising i j h =
      le_ind {n = i} (λ (k : ℕ). k < length os → get_or os i 0 ≤ get_or os k 0) (λ l. le_refl _)
      (λ m le ih l. le_trans (ih (omega arith)) (rises m l)) j h

  pub last_is : (i : ℕ) → i + 1 ≡ length os → get_or os i 0 ≡ n
  unfolding offset_rule
  last_is i h =
      by_eq (get_or os i 0) n (λ e. e)
      (λ z. let e = end_broken os n i h z in
      let r : ◌≡◌ {A = ℕ} 3 0 = simp (e, cond_same) at (kept i zero-le (omega arith)) in absurd (omega arith))

  -- a context begins at k, inside context c, exactly if k is the offset c
  pub begins : (c k : ℕ) → c + 1 < length os → get_or os c 0 ≤ k → k < get_or os (c + 1) 0 → member k os ≡ eqb k (get_or os c 0)
  begins c k h lo hi =
      by_eq k (get_or os c 0) (λ e. rw (e, member_here os c (omega arith), eq-eqb (get_or os c 0) (get_or os c 0) refl))
      (λ z. rw (ne_eqb _ _ z) (member_none k os (λ i l q. by_le i c
      (λ le. let m = rising i c le (omega arith) in omega arith)
      (λ gt. let m = rising (c + 1) i (omega arith) l in omega arith))))

-- The invariant: the contexts before c keep the rule.
pub record Parted (os cs : List ℕ) (c : ℕ) : Type 0 where
  pub in_os : c < length os
  pub same : earliest (code_rule os cs) 0 (length cs) ≡ earliest (code_rule os cs) (get_or os c 0) (length cs)

module _ {os cs : List ℕ} (some : 0 < length os) (fine : earliest (offset_rule os (length cs)) 0 (length os) ≡ Fine) where
  pub parted_start : Parted os cs 0
  parted_start = record { in_os = some; same = rw (first_zero os (length cs) some fine) }

module _ {os cs : List ℕ} {c : ℕ} (some : 0 < length os) (fine : earliest (offset_rule os (length cs)) 0 (length os) ≡ Fine) (w : Parted os cs c) where
  pub parted_end : length os ≤ c + 1 → Fine ≡ earliest (code_rule os cs) 0 (length cs)
  unfolding earliest first_of
  parted_end h =
      sym (w.same ∙ rw (last_is os (length cs) some fine c (omega arith), sub_self (length cs)))

  module _ (h : c + 1 < length os) where
    pub part_ends : get_or os c 0 ≤ get_or os (c + 1) 0
    part_ends = rising os (length cs) some fine c (c + 1) (omega arith) h

    pub part_within : get_or os (c + 1) 0 ≤ length cs
    part_within = let m = rising os (length cs) some fine (c + 1) (length os - 1) (omega arith) (omega arith) in
        let e = last_is os (length cs) some fine (length os - 1) (omega arith) in omega arith

    same_rule : (k : ℕ) → get_or os c 0 ≤ k → k < get_or os (c + 1) 0 → code_rule os cs k ≡ part_rule (get_or os c 0) cs k
    unfolding code_rule part_rule
    same_rule k lo hi = rw (begins os (length cs) some fine c k h lo hi)

    agree : {r : Check} → r ≡ earliest (part_rule (get_or os c 0) cs) (get_or os c 0) (get_or os (c + 1) 0)
        → earliest (code_rule os cs) (get_or os c 0) (get_or os (c + 1) 0) ≡ r
    agree e = earliest_ext _ _ _ _ part_ends same_rule ∙ sym e

    module _ {r : Check} (q : r ≡ earliest (part_rule (get_or os c 0) cs) (get_or os c 0) (get_or os (c + 1) 0)) where
      pub parted_next : r ≡ Fine → Parted os cs (c + 1)
      parted_next f =
          let k = fine_means (code_rule os cs) _ _ part_ends (agree q ∙ f) in
          record { in_os = h; same = w.same ∙ skip (code_rule os cs) _ _ (le_trans part_ends part_within) _ part_ends part_within k }

      pub parted_found : {b k : ℕ} → r ≡ Refused b k → r ≡ earliest (code_rule os cs) 0 (length cs)
      parted_found {b} {k} f =
          let m = refused_means (code_rule os cs) _ _ part_ends (agree q ∙ f) in
          let wide : FirstBreak (code_rule os cs) (get_or os c 0) (length cs) b k = record { from = m.from; below = omega (arith, part_within); number = m.number; some = m.some; earlier = m.earlier } in
          f ∙ sym (w.same ∙ means_refused (code_rule os cs) _ _ (le_trans part_ends part_within) wide)
