-- The order of the refusals, and the tests of the sizes.
-- Nothing comes before a refusal where each rule is kept that could.
use mathlib.Core.Bool.{Bool, true, false, ◌||◌}
use mathlib.Core.List.{List}
use mathlib.Core.Logic.{◌⊎◌, inl, inr, ⊎_elim}
use mathlib.Core.Path.{◌≡◌, refl, sym}
use Prim.Native.Nat.{ℕ, ◌<◌}
use native.Mathlib.Omega.{arith}
use borrow.Author.Tests.{ltb-true, ltb-false, eqb-true, eqb-false}
use lib.Dec.{eqb, ltb}
use lib.ListN.{length, get_or}
use Rattle.words.proofs.Split.{by_eq, by_le}
use Rattle.tables.specs.Refusals.{WrongK, WrongSizes, WrongOffset, NotAbove, Breaks, wrong_k, wrong_sizes, wrong_offset, large_code, code_falls, turn, Earlier}

-- ---- the tests of the sizes

or_true : (a b : Bool) → (a || b) ≡ true → (a ≡ true) ⊎ (b ≡ true)
or_true true b e = inl refl
or_true false b e = inr e

or_false : (a b : Bool) → (a || b) ≡ false → (a ≡ false) × (b ≡ false)
or_false true b e = let z : ◌≡◌ {A = ℕ} 0 1 = cc e in absurd (omega arith)
or_false false b e = (refl, e)

pub k_wrong : (k : ℕ) → (eqb k 0 || ltb 64 k) ≡ true → WrongK k
k_wrong k t = ⊎_elim (λ a. inl (eqb-true k 0 a)) (λ b. inr (ltb-true 64 k b)) (or_true (eqb k 0) (ltb 64 k) t)

pub k_kept : (k : ℕ) → (eqb k 0 || ltb 64 k) ≡ false → WrongK k → ⊥
k_kept k f w = let n = or_false (eqb k 0) (ltb 64 k) f in ⊎_elim (λ a. eqb-false k 0 n.0 a) (λ b. omega (arith, ltb-false 64 k n.1)) w

pub sizes_wrong : (n m : ℕ) → (eqb n 0 || ltb 257 n || ltb 4096 m) ≡ true → WrongSizes n m
sizes_wrong n m t = ⊎_elim (λ a. ⊎_elim (λ b. inl (eqb-true n 0 b)) (λ b. inr (inl (ltb-true 257 n b))) (or_true (eqb n 0) (ltb 257 n) a)) (λ a. inr (inr (ltb-true 4096 m a))) (or_true (eqb n 0 || ltb 257 n) (ltb 4096 m) t)

pub sizes_kept : (n m : ℕ) → (eqb n 0 || ltb 257 n || ltb 4096 m) ≡ false → WrongSizes n m → ⊥
sizes_kept n m f w =
    let a = or_false (eqb n 0 || ltb 257 n) (ltb 4096 m) f in
    let b = or_false (eqb n 0) (ltb 257 n) a.0 in
    ⊎_elim (λ x. eqb-false n 0 b.0 x) (λ y. ⊎_elim (λ x. omega (arith, ltb-false 257 n b.1)) (λ x. omega (arith, ltb-false 4096 m a.1)) y) w

-- ---- what comes first

-- nothing comes before a rule of a later turn
pub later_turn : (m q n p : ℕ) → turn n < turn m → Earlier m q n p → ⊥
later_turn m q n p h e = ⊎_elim (λ a. omega arith) (λ b. omega (arith, b.0)) e

-- at one turn, it is at an earlier place, or of a smaller number
pub same_turn : {C : Type 0} (m q n p : ℕ) → turn m ≡ turn n → Earlier m q n p → (q < p → C) → (q ≡ p → m < n → C) → C
same_turn m q n p h e f g = ⊎_elim (λ a. absurd (omega arith)) (λ b. ⊎_elim f (λ x. g x.0 x.1) b.1) e

-- of two refusals one comes before the other, or they are the same
pub one_first : {C : Type 0} (m q n p : ℕ) → (Earlier m q n p → C) → (Earlier n p m q → C) → (m ≡ n → q ≡ p → C) → C
one_first m q n p f g h = by_eq (turn m) (turn n)
    (λ t. by_eq q p
    (λ e. by_eq m n (λ d. h d e) (λ d. by_le m n (λ l. f (inr (t, inr (e, omega arith)))) (λ l. g (inr (sym t, inr (sym e, l))))))
    (λ e. by_le q p (λ l. f (inr (t, inl (omega arith)))) (λ l. g (inr (sym t, inl l)))))
    (λ t. by_le (turn m) (turn n) (λ l. f (inl (omega arith))) (λ l. g (inl l)))

module _ (k : ℕ) (os cs : List ℕ) where
  -- where each rule is kept before rule n at place p, nothing comes before
  pub by_rule : (n p : ℕ) → (Earlier 1 0 n p → WrongK k → ⊥) → (Earlier 2 0 n p → WrongSizes (length os) (length cs) → ⊥)
      → ((q : ℕ) → q < length os → Earlier 3 q n p → WrongOffset os (length cs) q → ⊥)
      → ((q : ℕ) → q < length cs → Earlier 4 q n p → 4095 < get_or cs q 0 → ⊥)
      → ((q : ℕ) → q < length cs → Earlier 5 q n p → (c : ℕ) → NotAbove os cs q c → ⊥)
      → (m q : ℕ) → Breaks k os cs m q → Earlier m q n p → ⊥
  by_rule n p a b c d f m q (wrong_k w) e = a e w
  by_rule n p a b c d f m q (wrong_sizes w) e = b e w
  by_rule n p a b c d f m q (wrong_offset h w) e = c q h e w
  by_rule n p a b c d f m q (large_code h w) e = d q h e w
  by_rule n p a b c d f m q (code_falls h x w) e = f q h e x w
