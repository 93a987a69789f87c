-- What the contract of the call says of its refusals: each has its cause, what has a cause is refused, and all else is a cell.
use mathlib.Core.List.{[], ◌∷◌}
use mathlib.Core.Path.{◌≡◌, refl, sym, ap, ◌∙◌}
use Prim.Native.Nat.{ℕ, ◌<◌}
use native.Mathlib.Omega.{arith}
use Rattle.tables.specs.Check.{Check}
use Rattle.tables.specs.Check as check
use Rattle.heat.specs.Cells.{cell_in}
use Rattle.heat.specs.Answers.{cell_number, cell_values, CellTells, CellCall, cell_entries, cell_checked, Shows}
use Rattle.heat.specs.Refusals.{CellCause}
use Rattle.heat.specs.CellAnswer.{CellAnswer}
use Rattle.heat.specs.CellAnswer as answer
use Rattle.heat.proofs.Causes.{cause_of, of_cause, fine_without}

-- a number above 0 is that of a refusal
told_refused : (r : CellAnswer) {n p : ℕ} → 0 < n → CellTells r n (p ∷ []) → r ≡ answer.Refused n p
told_refused (answer.Cell c) h t = absurd (omega (arith, t.0))
told_refused (answer.Refused a b) {n} {p} h t = let q : b ≡ p = cc t.1 in λ i. answer.Refused (t.0 i) (q i)

module _ {c : CellCall} (S : Shows c) where
  -- what is answered as a refusal is what the checks refuse
  checked_so : {n p : ℕ} → c.answer ≡ answer.Refused n p → cell_checked c ≡ check.Refused n p
  checked_so {n} {p} e = go (cell_checked c) refl
    where
      go : (x : Check) → cell_checked c ≡ x → cell_checked c ≡ check.Refused n p
      go check.Fine f = let z : ◌≡◌ {A = ℕ} 0 1 = cc (sym (S.shown f) ∙ e) in absurd (omega arith)
      go (check.Refused m q) f =
          let same = sym (S.refused m q f) ∙ e in
          let x : m ≡ n = cc same in
          let y : q ≡ p = cc same in
          f ∙ λ i. check.Refused (x i) (y i)

  pub refused_cause : {n p : ℕ} → 0 < n → CellTells c.answer n (p ∷ []) → CellCause c n p
  refused_cause h t = cause_of _ _ _ _ _ (checked_so (told_refused c.answer h t))

  pub cause_refused : {n p : ℕ} → CellCause c n p → CellTells c.answer n (p ∷ [])
  cause_refused {n} {p} x = let e = S.refused n p (of_cause _ _ _ _ _ x) in (ap cell_number e, ap cell_values e)

  pub none_shown : ((n p : ℕ) → CellCause c n p → ⊥) → c.answer ≡ answer.Cell (cell_in c.first c.second (cell_entries c))
  none_shown none = S.shown (fine_without _ _ _ _ _ none)
