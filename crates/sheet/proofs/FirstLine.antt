-- The first of some lines: read, or refused, or without its byte 10.
use mathlib.Core.Path.{◌≡◌, refl, sym}
use mathlib.Core.List.{List, [], ◌∷◌}
use Prim.Native.Nat.{ℕ, ◌+◌, ◌<◌}
use native.Mathlib.Omega.{arith}
use lib.ListN.{length}
use Rattle.sheet.specs.Read.{Read, value, refused}
use Rattle.sheet.specs.Reading.{Line, line, nothing}
use Rattle.sheet.proofs.Lines.{no_value, then_value}
use Rattle.sheet.proofs.Refusal.{then_refused, same_refusal}

-- no line at all
pub line_none : {A : Type 0} (read : ℕ → List ℕ → Read A) (at : ℕ) {n p : ℕ} → line read at [] ≡ refused n p → (n ≡ 9) × (p ≡ at)
unfolding line
line_none read at e = same_refusal e

module _ {A : Type 0} (read : ℕ → List ℕ → Read A) (at : ℕ) (l : List ℕ) where
  pub line_no : (ls : List (List ℕ)) {n p : ℕ} → read at l ≡ refused n p → line read at (l ∷ ls) ≡ refused n p
  unfolding line
  line_no [] e = rw e
  line_no (m ∷ more) e = rw e

  pub line_on : (ls : List (List ℕ)) {v : A} → 0 < length ls → read at l ≡ value v → line read at (l ∷ ls) ≡ value (record { got = v; next = at + length l + 1; lines = ls })
  unfolding line
  line_on [] h e = absurd (omega arith)
  line_on (m ∷ more) h e = rw e

  pub by_line : {C : Type 0} (ls : List (List ℕ)) {n p : ℕ} → line read at (l ∷ ls) ≡ refused n p
      → (read at l ≡ refused n p → C) → ((v : A) → read at l ≡ value v → length ls ≡ 0 → n ≡ 9 → p ≡ at + length l → C) → C
  unfolding line
  by_line [] e bad last = then_refused (read at l) _ e bad (λ v f g. last v f refl (same_refusal g).0 (same_refusal g).1)
  by_line (m ∷ more) e bad last = then_refused (read at l) _ e bad (λ v f g. no_value (sym g))

  pub line_got : (ls : List (List ℕ)) {x : Line A} → line read at (l ∷ ls) ≡ value x
      → (v : A) × (read at l ≡ value v) × (0 < length ls) × (x ≡ record { got = v; next = at + length l + 1; lines = ls })
  unfolding line
  line_got [] e = no_value (then_value (read at l) _ e).2
  line_got (m ∷ more) e = let r = then_value (read at l) _ e in (r.0, r.1, omega arith, cc r.2)

-- something behind the last line
pub nothing_nine : (at : ℕ) (ls : List (List ℕ)) {n p : ℕ} → nothing at ls ≡ refused n p → (n ≡ 9) × (p ≡ at)
unfolding nothing
nothing_nine at [] e = same_refusal e
nothing_nine at ([] ∷ []) e = no_value (sym e)
nothing_nine at ([] ∷ m ∷ more) e = same_refusal e
nothing_nine at ((b ∷ l) ∷ more) e = same_refusal e
