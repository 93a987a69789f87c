-- What accepted checks tell of the entries, the cell of two contexts in either order, and the answer by the checks.
use mathlib.Core.List.{List}
use mathlib.Core.Path.{◌≡◌, sym, ap, ◌∙◌}
use Prim.Native.Nat.{ℕ, ◌*◌, ◌/◌, ◌≤◌, ◌<◌, min, max, zero-le}
use native.Mathlib.Omega.{arith}
use borrow.Author.Tests.{eq-eqb, ne_eqb, ltb-false}
use Rattle.std.proofs.Common.{Ordering, Less, Equal, Greater, nat_cmp}
use Rattle.std.proofs.lemmas.Cmp.{ranked}
use Rattle.tables.specs.Check as check
use Rattle.tables.proofs.Checks.{when_fine}
use Rattle.tables.proofs.Meaning.{fine_means}
use Rattle.site.specs.declared.Context.{Context}
use Rattle.entries.specs.Entries.{width, entry_at, entries}
use Rattle.entries.specs.declared.Entry.{Entry}
use Rattle.heat.specs.Cells.{pair, entry_for, cell_for, cell_in}
use Rattle.heat.specs.Checks.{count_check, rule_at, entries_check, cell_check, Positive}
use Rattle.heat.specs.Answers.{cell_of}
use Rattle.heat.specs.declared.Cell.{Cell}
use Rattle.heat.specs.declared.Cell.TheVariants as cell
use Rattle.heat.specs.CellAnswer as answer
use Rattle.heat.proofs.Rules.{has_union}

-- ---- what is accepted

pub count_fine : (words n : ℕ) → count_check words n ≡ check.Fine → width * n ≤ words
unfolding count_check
count_fine words n e = let f = ltb-false (words / width) n (when_fine _ 17 _ e).0 in omega arith

pub entries_fine : (contexts : ℕ) (list : List ℕ) (n : ℕ) → entries_check contexts list n ≡ check.Fine → Positive list n
unfolding rule_at
entries_fine contexts list n e = λ i h. has_union contexts (entry_at list (width * i)) (fine_means (rule_at contexts list) 0 n zero-le e i zero-le h)

-- ---- the cell of two contexts in either order

module _ (a b : Context) (es : List Entry) {o : Ordering} (e : o ≡ nat_cmp a.0 b.0) where
  pub rising : {r : Cell} → o ≡ Less → r ≡ cell_for (entry_for (pair a b) es) → r ≡ cell_in a.0 b.0 es
  unfolding cell_in
  rising f q =
      let h : a.0 < b.0 = ranked a.0 b.0 Less (sym f ∙ e) in
      let x : min a.0 b.0 ≡ a.0 = omega arith in
      let y : max a.0 b.0 ≡ b.0 = omega arith in
      rw (ne_eqb a.0 b.0 (λ (z : a.0 ≡ b.0). omega arith), x, y) q

  pub falling : {r : Cell} → o ≡ Greater → r ≡ cell_for (entry_for (pair b a) es) → r ≡ cell_in a.0 b.0 es
  unfolding cell_in
  falling f q =
      let h : b.0 < a.0 = ranked a.0 b.0 Greater (sym f ∙ e) in
      let x : min a.0 b.0 ≡ b.0 = omega arith in
      let y : max a.0 b.0 ≡ a.0 = omega arith in
      rw (ne_eqb a.0 b.0 (λ (z : a.0 ≡ b.0). omega arith), x, y) q

  pub itself : o ≡ Equal → cell.Blank ≡ cell_in a.0 b.0 es
  unfolding cell_in
  itself f = rw (eq-eqb a.0 b.0 (ranked a.0 b.0 Equal (sym f ∙ e)))

-- ---- the answer

module _ (contexts : ℕ) (list : List ℕ) (n first second : ℕ) where
  pub cell_refused : {m p : ℕ} → check.Refused m p ≡ cell_check contexts list n first second → answer.Refused m p ≡ cell_of contexts list n first second
  unfolding cell_of
  cell_refused e = rw (← e)

  pub cell_shown : {c : Cell} → check.Fine ≡ cell_check contexts list n first second → c ≡ cell_in first second (entries n list)
      → answer.Cell c ≡ cell_of contexts list n first second
  unfolding cell_of
  cell_shown e q = rw (← e) (ap answer.Cell q)
