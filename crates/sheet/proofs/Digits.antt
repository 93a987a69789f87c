-- The digits of a number: one more digit, how many there are, and that they say the number.
use mathlib.Core.Path.{◌≡◌, ap}
use mathlib.Core.List.{List, [], ◌∷◌, ◌++◌}
use Prim.Native.Nat.{ℕ, zero, suc, ◌+◌, ◌/◌, ◌%◌, ◌≤◌, ◌<◌, zero-le}
use native.Mathlib.Nat.{not-suc-le-zero}
use native.Mathlib.Omega.{arith}
use borrow.Author.Tests.{lt-ltb, le-ltb}
use lib.ListN.{length, length-append}
use Rattle.words.proofs.Split.{by_le}
use Rattle.sheet.specs.Number.{digits_f, digits_of}

-- more digits than the number are as good
fuel : (f g n : ℕ) → n < f → n < g → digits_f f n ≡ digits_f g n
unfolding digits_f
fuel zero g n h k = absurd (not-suc-le-zero h)
fuel (suc f) zero n h k = absurd (not-suc-le-zero k)
fuel (suc f) (suc g) n h k =
    by_le 10 n
    (λ l. rw (le-ltb n 10 l) (ap (λ (t : List ℕ). t ++ ((48 + n % 10) ∷ [])) (fuel f g (n / 10) (omega arith) (omega arith))))
    (λ l. rw (lt-ltb n 10 l))

pub digits_small : (n : ℕ) → n < 10 → digits_of n ≡ (48 + n) ∷ []
unfolding digits_of digits_f
digits_small n h = rw (lt-ltb n 10 h)

pub digits_more : (n : ℕ) → 10 ≤ n → digits_of n ≡ digits_of (n / 10) ++ ((48 + n % 10) ∷ [])
unfolding digits_of digits_f
digits_more n h = rw (le-ltb n 10 h) (ap (λ (t : List ℕ). t ++ ((48 + n % 10) ∷ [])) (fuel n (suc (n / 10)) (n / 10) (omega arith) (omega arith)))

pub length_one : (n : ℕ) → n < 10 → length (digits_of n) ≡ 1
length_one n h = rw (digits_small n h)

pub length_more : (n : ℕ) → 10 ≤ n → length (digits_of n) ≡ length (digits_of (n / 10)) + 1
length_more n h = rw (digits_more n h, length-append)

few : (f n : ℕ) → length (digits_f f n) ≤ f
unfolding digits_f
few zero n = zero-le
few (suc f) n =
    by_le 10 n
    (λ l. rw (le-ltb n 10 l, length-append) (omega (arith, few f (n / 10))))
    (λ l. rw (lt-ltb n 10 l) (omega arith))

pub length_most : (n : ℕ) → length (digits_of n) ≤ n + 1
unfolding digits_of
length_most n = omega (arith, few (suc n) n)
