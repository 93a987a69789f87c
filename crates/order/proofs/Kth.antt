-- The k-th of a list: it is a member, and there is one exactly where there are k.
use mathlib.Core.List.{List, [], ◌∷◌}
use mathlib.Core.List.Memᴰ.{head as here}
use mathlib.Core.List.Memᴰ.{tail as there}
use mathlib.Core.Option.{none, some, some-injective, none-ne-some as none_some}
use mathlib.Core.Path.{◌≡◌, refl, sym}
use Prim.Native.Nat.{ℕ, suc, zero, ◌≤◌, ◌<◌, zero-le, suc-le-suc}
use native.Mathlib.Nat.{le_of_suc-le-suc, not-suc-le-zero}
use native.Mathlib.Omega.{arith}
use lib.ListN.{length, get_or}
use Rattle.order.specs.Order.{◌∈◌, kth}

-- the k-th is a member, and there are k
pub kth_in : {A : Type 0} (k : ℕ) (xs : List A) {x : A} → kth k xs ≡ some x → x ∈ xs
unfolding kth
kth_in zero xs {x} e = absurd (none_some x e)
kth_in (suc k) [] {x} e = absurd (none_some x e)
kth_in (suc zero) (y ∷ ys) e = here (sym (some-injective _ _ e))
kth_in (suc (suc k)) (y ∷ ys) e = there (kth_in (suc k) ys e)

pub kth_length : {A : Type 0} (k : ℕ) (xs : List A) {x : A} → kth k xs ≡ some x → k ≤ length xs
unfolding kth
kth_length zero xs e = zero-le
kth_length (suc k) [] {x} e = absurd (none_some x e)
kth_length (suc zero) (y ∷ ys) e = omega arith
kth_length (suc (suc k)) (y ∷ ys) e = suc-le-suc (kth_length (suc k) ys e)

-- where there are k, there is a k-th; and where there are fewer, none
pub kth_is : {A : Type 0} (k : ℕ) (xs : List A) (d : A) → k < length xs → kth (suc k) xs ≡ some (get_or xs k d)
unfolding kth
kth_is k [] d h = absurd (not-suc-le-zero h)
kth_is zero (x ∷ xs) d h = refl
kth_is (suc k) (x ∷ xs) d h = kth_is k xs d (le_of_suc-le-suc h)

pub kth_none : {A : Type 0} (k : ℕ) (xs : List A) → length xs < k → kth k xs ≡ none
unfolding kth
kth_none zero xs h = refl
kth_none (suc k) [] h = refl
kth_none (suc zero) (x ∷ xs) h = absurd (not-suc-le-zero (le_of_suc-le-suc h))
kth_none (suc (suc k)) (x ∷ xs) h = kth_none (suc k) xs (le_of_suc-le-suc h)
