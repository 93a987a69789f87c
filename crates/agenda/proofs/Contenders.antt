-- Two contenders, one against the other: the one ahead is the winner of their words. A margin of 1 turns a tie round, for where
-- the second stands before the first. The laws of `leaf_word`, `ahead`, `play` and `play_on`.
use mathlib.Core.Bool.{true, false}
use mathlib.Core.Path.{◌≡◌, refl, sym, ap, ap₂, ◌∙◌}
use Prim.Native.Nat.{ℕ, ◌+◌, ◌*◌, ◌/◌, ◌%◌, ◌≤◌, ◌<◌}
use native.Mathlib.Nat.{mul-le-mul_right}
use native.Mathlib.Omega.{arith}
use borrow.Author.Tests.{lt-ltb, le-ltb, eq-eqb, ltb-true, ltb-false}
use Rattle.std.specs.Int.Bits.{bit_xor, xor_add_and}
use Rattle.std.proofs.lemmas.Nat.{and_mask}
use Rattle.order.proofs.Lists.{cases}
use Rattle.walk.specs.declared.Fraction.{Fraction}
use Rattle.walk.specs.Fractions.{lower}
use Rattle.words.proofs.Split.{by_eq}
use Rattle.agenda.specs.declared.Contender.{Contender}
use Rattle.agenda.specs.Tournament.{leaf_word, winner, node_word, contender_of, contender_at, ahead_by}
use Rattle.agenda.proofs.Nodes.{node_is}

-- ---- a leaf

module _ (left w : ℕ) where
  pub leaf_none : left ≡ 0 → 0 ≡ leaf_word left w
  unfolding leaf_word
  leaf_none e = rw (eq-eqb left 0 e)

-- ---- the node beside t

pub beside_is : (t : ℕ) → bit_xor t 1 + 2 * (t % 2) ≡ t + 1
beside_is t = omega (arith, xor_add_and t 1, and_mask t 1)

-- ---- who is ahead

module _ (m : ℕ) (x y : Contender) where
  pub ahead_yes : x.left.num * y.left.den < y.left.num * x.left.den + m → y ≡ ahead_by m x y
  unfolding ahead_by
  ahead_yes h = rw (lt-ltb (x.left.num * y.left.den) (y.left.num * x.left.den + m) h)

  pub ahead_no : y.left.num * x.left.den + m ≤ x.left.num * y.left.den → x ≡ ahead_by m x y
  unfolding ahead_by
  ahead_no h = rw (le-ltb (x.left.num * y.left.den) (y.left.num * x.left.den + m) h)

pub lower_yes : (p q : Fraction) → lower p q ≡ true → p.num * q.den < q.num * p.den
unfolding lower
lower_yes p q t = ltb-true _ _ t

pub lower_no : (p q : Fraction) → lower p q ≡ false → q.num * p.den ≤ p.num * q.den
unfolding lower
lower_no p q t = ltb-false _ _ t

module _ (f : ℕ → Fraction) where
  pub word_is : (w : ℕ) → (contender_of f w).word ≡ w
  unfolding contender_of
  word_is w = refl

  -- the winner of two words is ahead
  module _ (a b : ℕ) where
    wins_second : lower (f a) (f b) ≡ true → winner f a b ≡ b
    unfolding winner
    wins_second t = rw t

    wins_first : lower (f a) (f b) ≡ false → winner f a b ≡ a
    unfolding winner
    wins_first t = rw t

    ahead_even : contender_of f (winner f a b) ≡ ahead_by 0 (contender_of f a) (contender_of f b)
    unfolding contender_of
    ahead_even = cases (lower (f a) (f b))
        (λ t. rw (wins_second t) (ahead_yes 0 (contender_of f a) (contender_of f b) (omega (arith, lower_yes (f a) (f b) t))))
        (λ t. rw (wins_first t) (ahead_no 0 (contender_of f a) (contender_of f b) (omega (arith, lower_no (f a) (f b) t))))

    ahead_odd : contender_of f (winner f a b) ≡ ahead_by 1 (contender_of f b) (contender_of f a)
    unfolding contender_of
    ahead_odd = cases (lower (f a) (f b))
        (λ t. rw (wins_second t) (ahead_no 1 (contender_of f b) (contender_of f a) (omega (arith, lower_yes (f a) (f b) t))))
        (λ t. rw (wins_first t) (ahead_yes 1 (contender_of f b) (contender_of f a) (omega (arith, lower_no (f a) (f b) t))))

  -- ---- the node above two

  module _ (t : ℕ) (h : 0 < t) (l : t < 256) where
    pub above_even : contender_at f t ≡ ahead_by 0 (contender_at f (2 * t)) (contender_at f (2 * t + 1))
    above_even = ap (contender_of f) (node_is f t h l) ∙ ahead_even (node_word f (2 * t)) (node_word f (2 * t + 1))

    above_odd : contender_at f t ≡ ahead_by 1 (contender_at f (2 * t + 1)) (contender_at f (2 * t))
    above_odd = ap (contender_of f) (node_is f t h l) ∙ ahead_odd (node_word f (2 * t)) (node_word f (2 * t + 1))

    pub played : {a b : ℕ} {x y r : Contender} → a ≡ node_word f (2 * t) → b ≡ node_word f (2 * t + 1) → x ≡ contender_of f a → y ≡ contender_of f b → r ≡ ahead_by 0 x y → r.word ≡ node_word f t
    played p q e g k = ap (λ (c : Contender). c.word) (k ∙ ap₂ (ahead_by 0) (e ∙ ap (contender_of f) p) (g ∙ ap (contender_of f) q) ∙ sym above_even) ∙ word_is (node_word f t)

  -- from one of them and the one beside it
  pub played_on : (t : ℕ) → 1 < t → t < 512 → {w : ℕ} {x y r : Contender} → x ≡ contender_at f t → w ≡ node_word f (bit_xor t 1) → y ≡ contender_of f w → r ≡ ahead_by (t % 2) x y → r ≡ contender_at f (t / 2)
  played_on t h l {w} {x} {y} {r} e q p g =
      let up = t / 2 in
      let k : y ≡ contender_at f (bit_xor t 1) = p ∙ ap (contender_of f) q in
      by_eq t (2 * up)
      (λ z.
      let m : t % 2 ≡ 0 = omega arith in
      let b : bit_xor t 1 ≡ 2 * up + 1 = omega (arith, beside_is t) in
      g ∙ ap (λ (i : ℕ). ahead_by i x y) m ∙ ap₂ (ahead_by 0) (e ∙ ap (λ (i : ℕ). contender_at f i) z) (k ∙ ap (λ (i : ℕ). contender_at f i) b) ∙ sym (above_even up (omega arith) (omega arith)))
      (λ d.
      let z : t ≡ 2 * up + 1 = omega (arith, d) in
      let m : t % 2 ≡ 1 = omega arith in
      let b : bit_xor t 1 ≡ 2 * up = omega (arith, beside_is t) in
      g ∙ ap (λ (i : ℕ). ahead_by i x y) m ∙ ap₂ (ahead_by 1) (e ∙ ap (λ (i : ℕ). contender_at f i) z) (k ∙ ap (λ (i : ℕ). contender_at f i) b) ∙ sym (above_odd up (omega arith) (omega arith)))

-- ---- the product of two numbers of 16 bits, and one more, fits into 32

pub one_more : (x y m : ℕ) → x < 65536 → y < 65536 → m ≤ 1 → x * y + m < 4294967296
one_more x y m h k l = let a : x ≤ 65535 = omega arith in omega (arith, mul-le-mul_right y a, k, l)

-- the laws of `play` and `play_on`
pub ruleset playing = (beside_is, played, played_on)
