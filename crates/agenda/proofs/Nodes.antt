-- The nodes of the tournament: the word of a node is the winner of the two below it, and that of a leaf is its context's.
use mathlib.Core.Path.{◌≡◌, ap₂, ◌∙◌}
use Prim.Native.Nat.{ℕ, zero, suc, ◌+◌, ◌-◌, ◌*◌, ◌≤◌, ◌<◌}
use native.Mathlib.Omega.{arith}
use lib.Dec.{eqb}
use borrow.Author.Tests.{lt-ltb, le-ltb}
use Rattle.order.proofs.Lists.{cases}
use Rattle.walk.specs.declared.Fraction.{Fraction}
use Rattle.walk.specs.Fractions.{lower}
use Rattle.words.proofs.Split.{by_le}
use Rattle.agenda.specs.Tournament.{leaf_word, own_word, winner, word_in, node_word}

-- ---- down the levels

-- the first of the nodes that are m levels below node t
unfoldable pub doubled : ℕ → ℕ → ℕ
doubled zero t = t
doubled (suc m) t = doubled m (2 * t)

pub doubled_rises : (m t u : ℕ) → t ≤ u → doubled m t ≤ doubled m u
unfolding doubled
doubled_rises zero t u h = h
doubled_rises (suc m) t u h = doubled_rises m (2 * t) (2 * u) (omega arith)

pub doubled_least : (m t : ℕ) → t ≤ doubled m t
unfolding doubled
doubled_least zero t = omega arith
doubled_least (suc m) t = omega (arith, doubled_least m (2 * t))

-- no leaf is more than 8 levels below a node
deep : (t : ℕ) → 1 < t → 256 ≤ doubled 7 t
unfolding doubled
deep t h = omega arith

-- what holds of the leaves, and of a node if it does of those below it, holds of all nodes
module _ (C : ℕ → Type 0) (leaf : (t : ℕ) → 256 ≤ t → t < 512 → C t) (node : (t : ℕ) → 0 < t → t < 256 → C (2 * t) → C (2 * t + 1) → C t) where
  nodes_from : (m t : ℕ) → 512 ≤ t + m → 0 < t → t < 512 → C t
  nodes_from zero t h z l = absurd (omega arith)
  nodes_from (suc m) t h z l = by_le 256 t (λ k. leaf t k l) (λ k. node t z k (nodes_from m (2 * t) (omega arith) (omega arith) (omega arith)) (nodes_from m (2 * t + 1) (omega arith) (omega arith) (omega arith)))

  pub all_nodes : (t : ℕ) → 0 < t → t < 512 → C t
  all_nodes t z l = nodes_from 512 t (omega arith) z l

-- ---- a leaf has its own word, or 0

pub leaf_either : (C : ℕ → Type 0) (left w : ℕ) → C 0 → C w → C (leaf_word left w)
unfolding leaf_word
leaf_either C left w x y = cases (eqb left 0) (λ t. rw t x) (λ g. rw g y)

-- ---- a node and those below it

module _ (f : ℕ → Fraction) where
  -- more levels than there are do no harm
  levels : (m t : ℕ) → 256 ≤ doubled m t → word_in f m t ≡ word_in f (suc m) t
  unfolding doubled word_in
  levels zero t h = rw (le-ltb t 256 h)
  levels (suc m) t h = by_le 256 t (λ l. rw (le-ltb t 256 l))
      (λ l. rw (lt-ltb t 256 l) (ap₂ (winner f) (levels m (2 * t) h) (levels m (2 * t + 1) (omega (arith, h, doubled_rises m (2 * t) (2 * t + 1) (omega arith))))))

  inner : (m t : ℕ) → t < 256 → word_in f (suc m) t ≡ winner f (word_in f m (2 * t)) (word_in f m (2 * t + 1))
  unfolding word_in
  inner m t l = rw (lt-ltb t 256 l)

  -- the nodes below node t, where it has any, and else its context
  pub node_is : (t : ℕ) → 0 < t → t < 256 → node_word f t ≡ winner f (node_word f (2 * t)) (node_word f (2 * t + 1))
  unfolding node_word
  node_is t h l = inner 7 t l ∙ ap₂ (winner f) (levels 7 (2 * t) (deep (2 * t) (omega arith))) (levels 7 (2 * t + 1) (deep (2 * t + 1) (omega arith)))

  pub leaf_is : (t : ℕ) → 256 ≤ t → node_word f t ≡ own_word f (t - 255)
  unfolding node_word word_in
  leaf_is t h = rw (le-ltb t 256 h)

  -- ---- which words there are

  winner_either : (C : ℕ → Type 0) (a b : ℕ) → C a → C b → C (winner f a b)
  unfolding winner
  winner_either C a b x y = cases (lower (f a) (f b)) (λ t. rw t y) (λ g. rw g x)

  pub node_small : (t : ℕ) → 0 < t → t < 512 → node_word f t ≤ 256
  node_small = all_nodes (λ t. node_word f t ≤ 256)
      (λ t h l. rw (leaf_is t h) (leaf_either (λ w. w ≤ 256) (f (t - 255)).num (t - 255) (omega arith) (omega arith)))
      (λ t z l a b. rw (node_is t z l) (winner_either (λ w. w ≤ 256) _ _ a b))
