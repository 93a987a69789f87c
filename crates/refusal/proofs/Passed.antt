-- What `?` hands on is the refusal itself.
use Rattle.std.proofs.Common.{◌≡◌, ℕ, Result}
use Rattle.std.specs.Result.{IsErrAnd}
use Rattle.std.proofs.lemmas.Result.{err_from_is_err_and}
use Rattle.refusal.specs.declared.Refusal.{Refusal}
use Rattle.refusal.specs.Numbers.{rule_number, said}

pub passed : {A X : Type 0} (value : A → X) (refused : ℕ → ℕ → X) (e : Refusal) (r : Result A Refusal) → IsErrAnd r (λ d. d ≡ e)
    → said value refused r ≡ refused (rule_number e.rule) e.place
passed value refused e r h = let p = err_from_is_err_and r h in rw (p.1, p.2)
