-- What the value of a cell tells of its similarity. The rounding loses nothing: a greater similarity has a greater value, so two
-- cells have the same value exactly if they are equally alike (`keeps_apart`, `apart`).
use mathlib.Core.Bool.{false, true, true≢false}
use mathlib.Core.List.{[], ◌∷◌}
use mathlib.Core.Logic.{◌↔◌}
use mathlib.Core.Path.{◌≡◌, refl, sym, ◌∙◌}
use Prim.Native.Nat.{ℕ, ◌+◌, ◌*◌, ◌/◌, ◌^◌, ◌≤◌, ◌<◌, zero-le}
use native.Mathlib.Nat.{le_antisymm, lt_irrefl, lt_of_lt_of_le, lt_of_not-le, mul_assoc, mul-pos, mul-le-mul, mul-le-mul_right, le_of_mul-le-mul_right, div-mul-le_self, lt-div-mul-add}
use native.Mathlib.Omega.{arith}
use lib.Dec.{T, lt→ltb, lit≤}
use lib.Pow.{pow_pos, shl_lt}
use lib.Ieee.{Float, nan, inf, fin, binary64, up, down, round, size, units, odd, to_bits, le, lt}
use lib.Ieee.Exact.{HasValue, round_exact}
use lib.Ieee.Order.{round_mono}
use lib.Ieee.Scale.{round_same}
use lib.Ieee.Positive.{num, den, den_pos, positive, own_value, positive_of_value, first_pos, values_of_le, between}
use Rattle.words.proofs.Split.{by_eq, by_le}
use Rattle.heat.specs.Cells.{nought, one, quotient}

-- ---- some values

-- the bits of a value
abbrev pub bits : ℕ → ℕ → ℕ
bits s u = to_bits binary64 (quotient s u)

-- 1/3, 99/100, 100/101 and 65534/65535
pub some_bits : bits 1 3 ∷ bits 99 100 ∷ bits 100 101 ∷ bits 65534 65535 ∷ []
    ≡ 0x3fd5555555555555 ∷ 0x3fefae147ae147ae ∷ 0x3fefaee41e6a7498 ∷ 0x3fefffdfffdfffe0 ∷ []
unfolding quotient round size units odd to_bits
some_bits = refl

-- the least value and the greatest
ends : (quotient 0 1 ≡ nought) × (quotient 1 1 ≡ one)
unfolding quotient round size units odd
ends = (refl, refl)

-- ---- two similarities

-- equal similarities have one value
equal_alike : (s u t v : ℕ) → 0 < u → 0 < v → s * v ≡ t * u → quotient s u ≡ quotient t v
unfolding quotient
equal_alike s u t v a b e = round_same binary64 false s u t v a b e

-- a similarity that is no smaller has a value that is no smaller
keeps_order : (s u t v : ℕ) → 0 < u → 0 < v → s * v ≤ t * u → T (le (quotient s u) (quotient t v))
unfolding quotient
keeps_order s u t v a b h = round_mono binary64 s u t v a b h

-- all shared is 1.0
pub whole : (n : ℕ) → 0 < n → quotient n n ≡ one
whole n h = equal_alike n n 1 1 h (omega arith) (omega arith) ∙ ends.1

-- nothing shared is 0.0
nothing : (n : ℕ) → 0 < n → quotient 0 n ≡ nought
nothing n h = equal_alike 0 n 0 1 h (omega arith) (omega arith) ∙ ends.0

-- ---- a scale from 0 to 1

-- a shared and its union, each of 16 bits
pub record TwoCounts (shared union : ℕ) : Type 0 where
  pub some : 0 < union
  pub word : union < 2 ^ 16
  pub part : shared ≤ union

-- The steps of the scale. They are so many that of two similarities that differ one is at most at a mark and the other at least at
-- the next (`gap`), and so few that an f64 holds each mark as it is (`held`), so no value is rounded past a mark.
abbrev steps : ℕ
steps = 2 ^ 33

held : (m : ℕ) → m ≤ steps → HasValue (quotient m steps) false m steps
unfolding quotient
held m h =
    let small : m < 2 ^ 53 = omega arith in
    round_exact binary64 false m steps m 1041 (pow_pos 33) small (lt_of_lt_of_le (shl_lt 53 1041 small) (lit≤ tt)) (sym (mul_assoc m (2 ^ 1041) steps))

gap : (s u t v p : ℕ) → 0 < u → s * v < t * u → u * v * 2 ≤ p → (m : ℕ) × (0 < m) × (s * p ≤ m * u) × ((m + 1) * v ≤ t * p)
gap s u t v p U h P =
    let q = s * p / u in
    let high : s * p < q * u + u = lt-div-mul-add U in
    (q + 1, omega arith, omega arith, le_of_mul-le-mul_right {k = u} (omega (arith, mul-le-mul_right v (div-mul-le_self (s * p) u), mul-le-mul_right p h)) U)

-- what is at most at a mark is below what is at least at the next
across : (x d y e m p : ℕ) → 0 < d → 0 < e → x * p ≤ m * d → (m + 1) * e ≤ y * p → x * e < y * d
across x d y e m p D E h k =
    lt_of_not-le (λ (g : y * d ≤ x * e). omega (arith, mul-le-mul_right p g, mul-le-mul_right e h, mul-le-mul_right d k, mul-pos D E))

-- ---- a value as a fraction

-- finite and not negative
abbrev Plain : Float → Type 0
Plain x = HasValue x false (num x) (den x)

plain_lt : (x y : Float) → Plain x → Plain y → num x * den y < num y * den x → T (lt x y)
unfolding lt
plain_lt nan y p q h = absurd p
plain_lt (inf s) y p q h = absurd p
plain_lt (fin true m e) y p q h = absurd (true≢false p.0)
plain_lt (fin false m e) nan p q h = absurd q
plain_lt (fin false m e) (inf s) p q h = absurd q
plain_lt (fin false m e) (fin true n d) p q h = absurd (true≢false q.0)
plain_lt (fin false m e) (fin false n d) p q h = lt→ltb (m * up e * down d) (n * up d * down e) h

above : (s u : ℕ) → 0 < s → s ≤ u → u ≤ steps → T (positive (quotient s u))
above s u h k l =
    between (quotient 1 steps) (quotient s u) (quotient 1 1) (positive_of_value (quotient 1 steps) 1 steps (held 1 (omega arith)) (omega arith)) (rw ends.1 tt)
    (keeps_order 1 steps s u (pow_pos 33) (omega arith) (omega arith)) (keeps_order s u 1 1 (omega arith) (omega arith) (omega arith))

module _ {s u : ℕ} (c : TwoCounts s u) where
  some_shared : 0 < s → T (positive (quotient s u))
  some_shared h = above s u h c.part (omega arith)

  plain : Plain (quotient s u)
  plain = by_eq s 0 (λ (z : s ≡ 0). rw (z, nothing u c.some) (refl, refl)) (λ n. own_value (quotient s u) (some_shared (omega arith)))

  -- a similarity up to a mark has a value up to that mark
  at_most : (m : ℕ) → 0 < m → m ≤ steps → s * steps ≤ m * u → num (quotient s u) * steps ≤ m * den (quotient s u)
  at_most m M k h = by_eq s 0 (λ (z : s ≡ 0). rw (z, nothing u c.some) zero-le) (λ n.
      values_of_le (quotient s u) (quotient m steps) (num (quotient s u)) (den (quotient s u)) m steps
      (some_shared (omega arith)) (above m steps M k (omega arith)) plain (held m k) (keeps_order s u m steps c.some (pow_pos 33) h))

  -- a similarity from a mark on has a value from that mark on
  at_least : (m : ℕ) → 0 < m → m ≤ steps → m * u ≤ s * steps → m * den (quotient s u) ≤ num (quotient s u) * steps
  at_least m M k h =
      let S : 0 < s = first_pos s steps (lt_of_lt_of_le (mul-pos M c.some) h) in
      values_of_le (quotient m steps) (quotient s u) m steps (num (quotient s u)) (den (quotient s u))
      (above m steps M k (omega arith)) (some_shared S) (held m k) plain (keeps_order m steps s u (pow_pos 33) c.some h)

-- ---- two similarities that differ

module _ {s u t v : ℕ} (a : TwoCounts s u) (b : TwoCounts t v) (h : s * v < t * u) where
  below : num (quotient s u) * den (quotient t v) < num (quotient t v) * den (quotient s u)
  below =
      let few : u * v ≤ 65535 * 65535 = mul-le-mul {n₂ = 65535} {m₂ = 65535} (omega arith) (omega arith) in
      let g = gap s u t v steps a.some h (omega arith) in
      let k : g.0 + 1 ≤ steps = le_of_mul-le-mul_right {k = v} (omega (arith, g.3, mul-le-mul_right steps b.part)) b.some in
      across (num (quotient s u)) (den (quotient s u)) (num (quotient t v)) (den (quotient t v)) g.0 steps
      (den_pos (quotient s u)) (den_pos (quotient t v)) (at_most a g.0 g.1 (omega arith) g.2) (at_least b (g.0 + 1) (omega arith) k g.3)

  -- a greater similarity has a greater value
  pub keeps_apart : T (lt (quotient s u) (quotient t v))
  keeps_apart = plain_lt (quotient s u) (quotient t v) (plain a) (plain b) below

  differ : quotient s u ≡ quotient t v → ⊥
  differ e = lt_irrefl (num (quotient t v) * den (quotient t v)) (rw e at below)

-- two values are equal exactly if the similarities are
pub apart : {s u t v : ℕ} → TwoCounts s u → TwoCounts t v → (quotient s u ≡ quotient t v) ↔ (s * v ≡ t * u)
apart {s} {u} {t} {v} a b = (
  λ e. by_le (s * v) (t * u) (λ l. by_le (t * u) (s * v) (le_antisymm l) (λ g. absurd (differ a b g e))) (λ g. absurd (differ b a g (sym e))),
  equal_alike s u t v a.some b.some,
)

-- ---- one similarity

module _ {s u : ℕ} (c : TwoCounts s u) where
  -- where something is shared the value is above 0.0
  pub above_zero : 0 < s → T (lt (nought) (quotient s u))
  above_zero h =
      let none : TwoCounts 0 1 = record { some = omega arith; word = omega arith; part = omega arith } in
      rw ends.0 at (keeps_apart none c (omega arith))

  -- and it is never above 1.0
  pub up_to_one : T (le (quotient s u) (one))
  up_to_one = rw ends.1 at (keeps_order s u 1 1 c.some (omega arith) (omega arith))
