-- The rule of an entry and its meaning: it says 17 exactly if the entry is wrong, and else 0.
use mathlib.Core.List.{List}
use mathlib.Core.Logic.{inl, inr, ⊎_elim}
use mathlib.Core.Path.{◌≡◌, sym, ap, ◌∙◌}
use Prim.Native.Nat.{ℕ, ◌+◌, ◌*◌, ◌<◌}
use native.Mathlib.Omega.{arith}
use borrow.Author.Tests.{eq-eqb, ne_eqb, lt-ltb, le-ltb}
use Rattle.std.proofs.Common.{Option, None, Some}
use Rattle.words.proofs.Split.{by_eq, by_le}
use Rattle.refusal.specs.declared.Rule.{Rule}
use Rattle.refusal.specs.Numbers.{rule_number, rule_said}
use Rattle.tables.specs.Check.{Refused}
use Rattle.tables.proofs.Checked.{Checked, none_next, some_here}
use Rattle.entries.specs.Entries.{width, entry_at}
use Rattle.entries.specs.declared.Entry.{Entry}
use Rattle.heat.specs.Checks.{entry_rule, rule_at, entries_check}
use Rattle.heat.specs.Refusals.{Wrong}

module _ (contexts : ℕ) (e : Entry) where
  by_rule : {X : Type 0} → (Wrong contexts e → entry_rule contexts e ≡ 17 → X) → ((Wrong contexts e → ⊥) → entry_rule contexts e ≡ 0 → X) → X
  unfolding entry_rule
  by_rule bad good =
      by_le e.higher.0 e.lower.0 (λ l. bad (inl l) (rw (le-ltb _ _ l)))
      (λ h. by_le contexts e.higher.0 (λ l. bad (inr (inl l)) (rw (lt-ltb _ _ h, le-ltb _ _ l)))
      (λ b. by_eq e.shared 0 (λ z. bad (inr (inr (inl z))) (rw (lt-ltb _ _ h, lt-ltb _ _ b, eq-eqb _ _ z)))
      (λ s. by_le e.shared e.union
      (λ l. good (⊎_elim (λ x. omega arith) (⊎_elim (λ x. omega arith) (⊎_elim (λ x. s x) (λ x. omega arith)))) (rw (lt-ltb _ _ h, lt-ltb _ _ b, ne_eqb _ _ s, le-ltb _ _ l)))
      (λ l. bad (inr (inr (inr l))) (rw (lt-ltb _ _ h, lt-ltb _ _ b, ne_eqb _ _ s, lt-ltb _ _ l))))))

  pub wrong_is : Wrong contexts e → entry_rule contexts e ≡ 17
  wrong_is w = by_rule (λ x q. q) (λ x q. absurd (x w))

  pub right_is : (Wrong contexts e → ⊥) → entry_rule contexts e ≡ 0
  right_is w = by_rule (λ x q. absurd (w x)) (λ x q. q)

  pub is_wrong : {b : ℕ} → entry_rule contexts e ≡ b → (b ≡ 0 → ⊥) → Wrong contexts e × (b ≡ 17)
  is_wrong k z = by_rule (λ x q. (x, sym k ∙ q)) (λ x q. absurd (z (sym k ∙ q)))

  pub is_right : entry_rule contexts e ≡ 0 → Wrong contexts e → ⊥
  is_right k w = let r : ◌≡◌ {A = ℕ} 17 0 = sym (wrong_is w) ∙ k in omega arith

  -- an entry that is not wrong has a union
  pub has_union : entry_rule contexts e ≡ 0 → 0 < e.union
  has_union k = by_le e.union 0 (λ l. absurd (none (by_eq e.shared 0 (λ z. inr (inr (inl z))) (λ s. inr (inr (inr (omega arith))))))) (λ l. l)
    where
      none : Wrong contexts e → ⊥
      none = is_right k

-- where the entry i was read, and a function answers whether its rule is broken
module _ (contexts : ℕ) (list : List ℕ) {n i : ℕ} (w : Checked (rule_at contexts list) 0 n i) (h : i < n)
    {e : Entry} (q : e ≡ entry_at list (width * i)) (told : Option Rule) (r : rule_said told ≡ entry_rule contexts e) where
  told_at : rule_said told ≡ rule_at contexts list i
  unfolding rule_at
  told_at = r ∙ ap (entry_rule contexts) q

  pub entry_kept : told ≡ None → Checked (rule_at contexts list) 0 n (i + 1)
  entry_kept f = none_next w h told_at f

  pub entry_broken : {rule : Rule} → told ≡ Some rule → Refused (rule_number rule) i ≡ entries_check contexts list n
  entry_broken f = some_here w h told_at f
