-- What a result says tells the result: its value where the value's words tell it, and its refusal by the number and the place.
use Rattle.std.proofs.Common.{◌≡◌, ℕ, Result, Ok, Err, ap, ap₂, sym}
use Rattle.refusal.specs.declared.Refusal.{Refusal}
use Rattle.refusal.specs.Numbers.{rule_number, said}
use Rattle.refusal.proofs.Numbers.{number_tells}

-- two refusals with one number and one place are one refusal
pub same_refusal : (r s : Refusal) → rule_number r.rule ≡ rule_number s.rule → r.place ≡ s.place → r ≡ s
same_refusal r s n p = ap₂ (λ rule place. record { rule = rule; place = place }) (number_tells n) p

-- the words of values and of refusals tell them apart
pub record Telling {A X : Type 0} (value : A → X) (refused : ℕ → ℕ → X) : Type 0 where
  pub told : (a b : A) → value a ≡ value b → a ≡ b
  pub apart : (a : A) (n p : ℕ) → value a ≡ refused n p → ⊥
  pub number : (n p m q : ℕ) → refused n p ≡ refused m q → n ≡ m
  pub place : (n p m q : ℕ) → refused n p ≡ refused m q → p ≡ q

pub said_tells : {A X : Type 0} {value : A → X} {refused : ℕ → ℕ → X} → Telling value refused → (u v : Result A Refusal)
    → said value refused u ≡ said value refused v → u ≡ v
said_tells t (Ok a) (Ok b) e = ap Ok (t.told a b e)
said_tells t (Ok a) (Err s) e = absurd (t.apart _ _ _ e)
said_tells t (Err r) (Ok b) e = absurd (t.apart _ _ _ (sym e))
said_tells t (Err r) (Err s) e = ap Err (same_refusal r s (t.number _ _ _ _ e) (t.place _ _ _ _ e))
