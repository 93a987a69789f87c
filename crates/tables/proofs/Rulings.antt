-- What the rules of offsets and codes say of one place, in the words of the refusals.
-- A code's rule is read by the context that owns it, over offsets that keep their rule.
use mathlib.Core.Bool.{false}
use mathlib.Core.List.{List}
use mathlib.Core.Logic.{◌⊎◌, inl, inr, ⊎_elim}
use mathlib.Core.Path.{◌≡◌, ◌∙◌}
use Prim.Native.Nat.{ℕ, zero, suc, ◌+◌, ◌-◌, ◌≤◌, ◌<◌}
use native.Mathlib.Numerals.{add-one}
use native.Mathlib.Omega.{arith}
use borrow.Author.Tests.{eq-eqb, ne_eqb, lt-ltb, le-ltb}
use lib.ListN.{length, get_or}
use Rattle.words.proofs.Split.{by_eq, by_le}
use Rattle.tables.specs.Earliest.{earliest}
use Rattle.tables.specs.Rules.{end_rule, offset_rule, member, code_rule, code_rule_by}
use Rattle.tables.specs.Refusals.{WrongOffset, NotAbove}
use Rattle.tables.specs.Check.{Fine}
use Rattle.tables.proofs.Parts.{first_zero, last_is, begins}

-- ---- offsets

module _ (os : List ℕ) (n i : ℕ) where
  end_said : ((end_rule os n i ≡ 0) × (i + 1 ≡ length os → get_or os i 0 ≡ n)) ⊎ ((end_rule os n i ≡ 3) × ((i + 1 ≡ length os) × (get_or os i 0 ≡ n → ⊥)))
  unfolding end_rule
  end_said = by_eq (i + 1) (length os)
      (λ e. by_eq (get_or os i 0) n (λ f. inl (rw (eq-eqb _ _ e, eq-eqb _ _ f), λ g. f)) (λ f. inr (rw (eq-eqb _ _ e, ne_eqb _ _ f), (e, f))))
      (λ e. inl (rw (ne_eqb _ _ e), λ g. absurd (e g)))

  -- kept, or refused with 3
  pub offset_said : ((offset_rule os n i ≡ 0) × (WrongOffset os n i → ⊥)) ⊎ ((offset_rule os n i ≡ 3) × WrongOffset os n i)
  unfolding offset_rule
  offset_said = by_eq i 0
      (λ e. by_eq (get_or os i 0) 0
      (λ f. ⊎_elim
      (λ k. inl (rw (eq-eqb _ _ e, eq-eqb _ _ f) k.0, λ w. ⊎_elim (λ a. a.1 f) (λ b. ⊎_elim (λ d. omega (arith, d.0)) (λ d. d.1 (k.1 d.0)) b) w))
      (λ b. inr (rw (eq-eqb _ _ e, eq-eqb _ _ f) b.0, inr (inr b.1)))
      end_said)
      (λ f. inr (rw (eq-eqb _ _ e, ne_eqb _ _ f), inl (e, f))))
      (λ e. by_le (get_or os (i - 1) 0) (get_or os i 0)
      (λ f. ⊎_elim
      (λ k. inl (rw (ne_eqb _ _ e, le-ltb _ _ f) k.0, λ w. ⊎_elim (λ a. e a.0) (λ b. ⊎_elim (λ d. omega (arith, d.1)) (λ d. d.1 (k.1 d.0)) b) w))
      (λ b. inr (rw (ne_eqb _ _ e, le-ltb _ _ f) b.0, inr (inr b.1)))
      end_said)
      (λ f. inr (rw (ne_eqb _ _ e, lt-ltb _ _ f), inr (inl (omega arith, f)))))

-- ---- codes

module _ (os cs : List ℕ) (some : 0 < length os) (fine : earliest (offset_rule os (length cs)) 0 (length os) ≡ Fine) where
  -- context c owns the code j
  Owns : ℕ → ℕ → Type 0
  Owns j c = (c + 1 < length os) × ((get_or os c 0 ≤ j) × (j < get_or os (c + 1) 0))

  owner_to : (j m : ℕ) → m < length os → ((c : ℕ) × Owns j c) ⊎ (get_or os m 0 ≤ j)
  unfolding Owns
  owner_to j zero h = inr (omega (arith, first_zero os (length cs) some fine))
  owner_to j (suc m) h = ⊎_elim (λ o. inl o) (λ l. by_le (get_or os (suc m) 0) j (λ k. inr k) (λ k. inl (m, (omega arith, (l, rw (add-one m) k))))) (owner_to j m (omega arith))

  owner : (j : ℕ) → j < length cs → (c : ℕ) × Owns j c
  owner j h = ⊎_elim (λ o. o) (λ l. absurd (omega (arith, l, last_is os (length cs) some fine (length os - 1) (omega arith)))) (owner_to j (length os - 1) (omega arith))

  pub large_refused : (j : ℕ) → 4095 < get_or cs j 0 → code_rule os cs j ≡ 4
  unfolding code_rule code_rule_by
  large_refused j h = rw (lt-ltb _ _ h)

  pub fall_refused : (j c : ℕ) → NotAbove os cs j c → code_rule os cs j ≡ 0 → ⊥
  unfolding code_rule code_rule_by
  fall_refused j c w z =
      let b : member j os ≡ false = begins os (length cs) some fine c j w.context (omega arith) w.inside ∙ ne_eqb j (get_or os c 0) (λ e. omega (arith, e, w.before)) in
      by_le (get_or cs j 0) 4095
      (λ h. let r : ◌≡◌ {A = ℕ} 5 0 = rw (le-ltb _ _ h, b, le-ltb _ _ w.fallen) at z in omega arith)
      (λ h. let r : ◌≡◌ {A = ℕ} 4 0 = rw (lt-ltb _ _ h) at z in omega arith)

  -- kept, or refused with 4, or with 5
  pub code_said : (j : ℕ) → j < length cs → (code_rule os cs j ≡ 0) ⊎ (((code_rule os cs j ≡ 4) × (4095 < get_or cs j 0)) ⊎ ((code_rule os cs j ≡ 5) × ((c : ℕ) × NotAbove os cs j c)))
  unfolding code_rule code_rule_by Owns
  code_said j h =
      let o = owner j h in
      let c = o.0 in
      let b = begins os (length cs) some fine c j o.1.0 o.1.1.0 o.1.1.1 in
      by_le (get_or cs j 0) 4095
      (λ s. by_eq j (get_or os c 0)
      (λ e. inl (rw (le-ltb _ _ s, b, eq-eqb _ _ e)))
      (λ e. by_le (get_or cs j 0) (get_or cs (j - 1) 0)
      (λ f. inr (inr (rw (le-ltb _ _ s, b, ne_eqb _ _ e, le-ltb _ _ f), (c, record { context = o.1.0; before = omega (arith, o.1.1.0); inside = o.1.1.1; fallen = f }))))
      (λ f. inl (rw (le-ltb _ _ s, b, ne_eqb _ _ e, lt-ltb _ _ f)))))
      (λ s. inr (inl (rw (lt-ltb _ _ s), s)))
