-- The subtree in which so many contexts play: which node is its top, that all contexts are under it, and the way up from a leaf.
use mathlib.Core.Path.{◌≡◌, refl}
use Prim.Native.Nat.{ℕ, zero, suc, ◌+◌, ◌*◌, ◌/◌, ◌≤◌, ◌<◌}
use native.Mathlib.Omega.{arith}
use borrow.Author.Tests.{le-leb, lt-leb}
use Rattle.words.proofs.Split.{by_le}
use Rattle.agenda.specs.Tournament.{top_node}
use Rattle.agenda.proofs.Nodes.{doubled, doubled_least}

-- ---- the top of n contexts

module _ (n : ℕ) where
  pub top_8 : n ≤ 32 → 8 ≡ top_node n
  unfolding top_node
  top_8 a = rw (le-leb n 32 a)

  pub top_4 : 32 < n → n ≤ 64 → 4 ≡ top_node n
  unfolding top_node
  top_4 a b = rw (lt-leb n 32 a, le-leb n 64 b)

  pub top_2 : 64 < n → n ≤ 128 → 2 ≡ top_node n
  unfolding top_node
  top_2 a b = rw (lt-leb n 32 (omega arith), lt-leb n 64 a, le-leb n 128 b)

  pub top_1 : 128 < n → 1 ≡ top_node n
  unfolding top_node
  top_1 a = rw (lt-leb n 32 (omega arith), lt-leb n 64 (omega arith), lt-leb n 128 a)

-- ---- all contexts are under it

-- so many levels below the top are the leaves, and the first n are those of the contexts
pub record Subtree (n top : ℕ) : Type 0 where
  pub levels : ℕ
  pub starts : doubled levels top ≡ 256
  pub reaches : 256 + n ≤ doubled levels (suc top)
  pub ends : doubled levels (suc top) ≤ 512
  pub low : 0 < top
  pub high : top ≤ 8

pub subtree : (n : ℕ) → n ≤ 256 → Subtree n (top_node n)
unfolding doubled
subtree n h = by_le n 32
    (λ a. rw (← top_8 n a) (record { levels = 5; starts = refl; reaches = omega arith; ends = omega arith; low = omega arith; high = omega arith }))
    (λ a. by_le n 64
    (λ b. rw (← top_4 n a b) (record { levels = 6; starts = refl; reaches = omega arith; ends = omega arith; low = omega arith; high = omega arith }))
    (λ b. by_le n 128
    (λ c. rw (← top_2 n b c) (record { levels = 7; starts = refl; reaches = omega arith; ends = omega arith; low = omega arith; high = omega arith }))
    (λ c. rw (← top_1 n c) (record { levels = 8; starts = refl; reaches = omega arith; ends = omega arith; low = omega arith; high = omega arith }))))

-- ---- the way up

-- node t is in the subtree, so many levels below its top
pub record Under (top t : ℕ) : Type 0 where
  pub levels : ℕ
  pub from : doubled levels top ≤ t
  pub upto : t < doubled levels (suc top)

pub under_leaf : {n top : ℕ} → Subtree n top → (i : ℕ) → i < n → Under top (256 + i)
under_leaf T i h = record { levels = T.levels; from = omega (arith, T.starts); upto = omega (arith, T.reaches) }

pub under_least : {top t : ℕ} → Under top t → top ≤ t
under_least {top} {t} u = omega (arith, u.from, doubled_least u.levels top)

twice : (m t : ℕ) → doubled m (2 * t) ≡ 2 * doubled m t
unfolding doubled
twice zero t = refl
twice (suc m) t = twice m (2 * t)

half : (m top t : ℕ) → doubled m top ≤ t → t < doubled m (suc top) → top < t → Under top (t / 2)
unfolding doubled
half zero top t a b h = absurd (omega arith)
half (suc m) top t a b h = record { levels = m; from = omega (arith, a, twice m top); upto = omega (arith, b, twice m (suc top)) }

-- the node above it, where it is not the top
pub under_up : {top t : ℕ} → Under top t → top < t → Under top (t / 2)
under_up {top} {t} u h = half u.levels top t u.from u.upto h
