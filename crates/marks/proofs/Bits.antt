-- The bits of a number: what one of them tells, and one more of them set. Both go by the lowest bit.
use mathlib.Core.Bool.{Bool, true, false, ◌||◌}
use mathlib.Core.Path.{◌≡◌, refl, sym, ap, ap₂, ◌∙◌}
use Prim.Native.Nat.{ℕ, zero, suc, ◌+◌, ◌*◌, ◌/◌, ◌%◌, ◌^◌, ◌≤◌, ◌<◌, max}
use native.Mathlib.Nat.{not-suc-le-zero, le_of_suc-le-suc, pow-suc, one-mul}
use native.Mathlib.Omega.{arith}
use lib.Bits.{bit_or, or_step, or_zero_r}
use lib.Dec.{eqb, eqb-zero-suc, eqb-suc-zero, eqb-suc-suc}
use lib.Pow.{shr-shr, shl_exact}
use borrow.Author.Tests.{eq-eqb}
use Rattle.marks.specs.Marks.{bit, bits}

bit_le : (b : Bool) → bit b ≤ 1
bit_le true = omega arith
bit_le false = omega arith

pub bits_same : (n : ℕ) (p q : ℕ → Bool) → ((c : ℕ) → c < n → p c ≡ q c) → bits p n ≡ bits q n
unfolding bits
bits_same zero p q h = refl
bits_same (suc n) p q h = ap₂ (λ (a b : ℕ). a * 2 + b) (bits_same n (λ c. p (suc c)) (λ c. q (suc c)) (λ c l. h (suc c) (omega arith))) (ap bit (h 0 (omega arith)))

-- the lowest bit, and the others
module _ (p : ℕ → Bool) (n : ℕ) where
  bits_odd : bits p (suc n) % 2 ≡ bit (p 0)
  unfolding bits
  bits_odd = omega (arith, bit_le (p 0))

  bits_half : bits p (suc n) / 2 ≡ bits (λ c. p (suc c)) n
  unfolding bits
  bits_half = omega (arith, bit_le (p 0))

-- what bit b tells
pub bit_at : (n b : ℕ) (p : ℕ → Bool) → b < n → bits p n / 2 ^ b % 2 ≡ bit (p b)
bit_at zero b p h = absurd (not-suc-le-zero h)
bit_at (suc n) zero p h = let e : bits p (suc n) / 1 ≡ bits p (suc n) = omega arith in ap (λ (a : ℕ). a % 2) e ∙ bits_odd p n
bit_at (suc n) (suc b) p h =
    let s : 1 + b ≡ suc b = omega arith in
    let e : bits p (suc n) / 2 ^ suc b ≡ bits (λ c. p (suc c)) n / 2 ^ b = sym (shr-shr (bits p (suc n)) 1 b ∙ ap (λ (k : ℕ). bits p (suc n) / 2 ^ k) s) ∙ ap (λ (a : ℕ). a / 2 ^ b) (bits_half p n) in
    ap (λ (a : ℕ). a % 2) e ∙ bit_at n b (λ c. p (suc c)) (le_of_suc-le-suc h)

-- bit b is set
pub or_bit : (n b : ℕ) (p q : ℕ → Bool) → b < n → ((c : ℕ) → c < n → q c ≡ (eqb c b || p c)) → bit_or (bits p n) (2 ^ b) ≡ bits q n
unfolding bits
or_bit zero b p q h same = absurd (not-suc-le-zero h)
or_bit (suc n) zero p q h same =
    let rest : bits (λ c. p (suc c)) n ≡ bits (λ c. q (suc c)) n = bits_same n (λ c. p (suc c)) (λ c. q (suc c)) (λ c l. sym (same (suc c) (omega arith) ∙ rw (eqb-suc-zero c))) in
    let yes' : (eqb 0 0 || p 0) ≡ true = rw (eq-eqb 0 0 refl) in
    let first : bit (q 0) ≡ 1 = ap bit (same 0 (omega arith) ∙ yes') in
    let m : max (bits p (suc n) % 2) 1 ≡ 1 = omega arith in
    or_step (bits p (suc n)) 1 ∙ ap₂ (λ (a b : ℕ). a * 2 + b) (or_zero_r (bits p (suc n) / 2) ∙ bits_half p n ∙ rest) (m ∙ sym first)
or_bit (suc n) (suc b) p q h same =
    let half : 2 ^ suc b / 2 ≡ 2 ^ b = omega (arith, pow-suc 2 b) in
    let even : 2 ^ suc b % 2 ≡ 0 = omega (arith, pow-suc 2 b) in
    let rest = or_bit n b (λ c. p (suc c)) (λ c. q (suc c)) (le_of_suc-le-suc h) (λ c l. same (suc c) (omega arith) ∙ rw (eqb-suc-suc c b)) in
    let as-was : (eqb 0 (suc b) || p 0) ≡ p 0 = rw (eqb-zero-suc b) in
    let first : bit (q 0) ≡ bit (p 0) = ap bit (same 0 (omega arith) ∙ as-was) in
    let m : max (bits p (suc n) % 2) (2 ^ suc b % 2) ≡ bit (q 0) = omega (arith, even, first, bits_odd p n) in
    or_step (bits p (suc n)) (2 ^ suc b) ∙ ap₂ (λ (a b : ℕ). a * 2 + b) (ap₂ bit_or (bits_half p n) half ∙ rest) m

-- 1 shifted up by less than a word's width
pub shifted_one : (k : ℕ) → k < 16 → 1 * 2 ^ k % 2 ^ 16 ≡ 2 ^ k
shifted_one k h = shl_exact 1 k 16 (omega arith) (omega arith) ∙ one-mul (2 ^ k)
