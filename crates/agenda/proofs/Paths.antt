-- What a change of what is left does to the nodes: a node stays as it is where nothing changes for the contexts below it.
-- So a context that moves on changes no nodes but those above it: of the nodes behind t / 2 and before t, where t is above it, none.
use mathlib.Core.Path.{◌≡◌, sym, ap, ap₂, ◌∙◌}
use Prim.Native.Nat.{ℕ, ◌+◌, ◌-◌, ◌*◌, ◌/◌, ◌≤◌, ◌<◌}
use native.Mathlib.Omega.{arith}
use Rattle.walk.specs.declared.Fraction.{Fraction}
use Rattle.words.proofs.Split.{by_le}
use Rattle.agenda.specs.declared.Contender.{Contender}
use Rattle.agenda.specs.Tournament.{leaf_word, own_word, node_word, contender_of, contender_at, ahead_by}
use Rattle.agenda.proofs.Nodes.{all_nodes, leaf_is, leaf_either}
use Rattle.agenda.proofs.Contenders.{word_is, above_even}

module _ (f g : ℕ → Fraction) where
  -- by two ways to say what is left, node t has the same contender
  abbrev pub Agrees : ℕ → Type 0
  Agrees t = contender_at f t ≡ contender_at g t

  contender_same : (w : ℕ) → f w ≡ g w → contender_of f w ≡ contender_of g w
  unfolding contender_of
  contender_same w e = λ i. record { word = w; left = e i }

  -- a leaf
  own_same : (w : ℕ) → f 0 ≡ g 0 → f w ≡ g w → contender_of f (own_word f w) ≡ contender_of g (own_word g w)
  own_same w z e = leaf_either (λ v. contender_of f v ≡ contender_of g v) (f w).num w (contender_same 0 z) (contender_same w e) ∙ ap (λ (x : Fraction). contender_of g (leaf_word x.num w)) e

  agrees_leaf : (t : ℕ) → 256 ≤ t → f 0 ≡ g 0 → f (t - 255) ≡ g (t - 255) → Agrees t
  agrees_leaf t l z e = ap (contender_of f) (leaf_is f t l) ∙ own_same (t - 255) z e ∙ sym (ap (contender_of g) (leaf_is g t l))

  -- a node, where those below it agree
  agrees_node : (t : ℕ) → 0 < t → t < 256 → Agrees (2 * t) → Agrees (2 * t + 1) → Agrees t
  agrees_node t h l u v = above_even f t h l ∙ ap₂ (ahead_by 0) u v ∙ sym (above_even g t h l)

  pub agrees_word : (t : ℕ) → Agrees t → node_word f t ≡ node_word g t
  agrees_word t e = sym (word_is f (node_word f t)) ∙ ap (λ (c : Contender). c.word) e ∙ word_is g (node_word g t)

  -- ---- nothing changes

  module _ (same : (w : ℕ) → w ≤ 256 → f w ≡ g w) where
    pub contenders_same : (t : ℕ) → 0 < t → t < 512 → Agrees t
    contenders_same = all_nodes Agrees (λ t h l. agrees_leaf t h (same 0 (omega arith)) (same (t - 255) (omega arith))) agrees_node

    pub node_same : (t : ℕ) → 0 < t → t < 512 → node_word f t ≡ node_word g t
    node_same t h l = agrees_word t (contenders_same t h l)

  -- ---- but for one context

  -- where t is above its leaf, or that leaf
  abbrev pub Apart : ℕ → Type 0
  Apart t = (u : ℕ) → t / 2 < u → u < t → Agrees u

  pub apart_up : (t : ℕ) → t < 512 → Apart t → Apart (t / 2)
  apart_up t k a u l h = agrees_node u (omega arith) (omega arith) (a (2 * u) (omega arith) (omega arith)) (a (2 * u + 1) (omega arith) (omega arith))

  module _ (w : ℕ) (some : 0 < w) (same : (v : ℕ) → v ≤ 256 → (v ≡ w → ⊥) → f v ≡ g v) where
    other : (u : ℕ) → 256 ≤ u → u < 512 → (u ≡ 255 + w → ⊥) → Agrees u
    other u l k d = agrees_leaf u l (same 0 (omega arith) (λ e. omega arith)) (same (u - 255) (omega arith) (λ e. d (omega arith)))

    pub apart_leaf : (u : ℕ) → (255 + w) / 2 < u → u < 512 → (u ≡ 255 + w → ⊥) → Agrees u
    apart_leaf u l h d = by_le 256 u (λ k. other u k h d) (λ k. agrees_node u (omega arith) k (other (2 * u) (omega arith) (omega arith) (λ e. omega arith)) (other (2 * u + 1) (omega arith) (omega arith) (λ e. omega arith)))
