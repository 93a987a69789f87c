-- Two rows of cards, each cut in two. Where no card in front of one cut stands behind the other, what the rows share is
-- shared in front of both cuts or behind both, and the two counts add up.
use mathlib.Core.List.{List, [], ◌∷◌, ◌++◌}
use mathlib.Core.List.Memᴰ.{head as here}
use mathlib.Core.List.Memᴰ.{tail as there}
use mathlib.Core.Path.{◌≡◌, refl, ap₂, ◌∙◌}
use Prim.Native.Nat.{ℕ, ◌+◌}
use lib.Dec.{eqb}
use lib.ListN.{length-append}
use borrow.Author.Tests.{eqb-true, eq-eqb}
use Rattle.order.specs.Order.{◌∈◌, keep}
use Rattle.order.proofs.Lists.{cases, keep_append, keep_cong, keep_none}
use Rattle.site.specs.Site.{has, common, shared}
use Rattle.site.proofs.Contexts.{has_in}

-- no card stands in both
abbrev pub Apart : List ℕ → List ℕ → Type 0
Apart xs ys = (z : ℕ) → z ∈ xs → z ∈ ys → ⊥

-- a card that does not stand behind the cut is looked for in front of it
has_front : (z : ℕ) (ys ys' : List ℕ) → (z ∈ ys' → ⊥) → has (ys ++ ys') z ≡ has ys z
unfolding has
has_front z [] ys' h = cases (has ys' z) (λ t. absurd (h (has_in ys' z t))) (λ f. f)
has_front z (y ∷ ys) ys' h = rw (has_front z ys ys' h)

-- and one that does not stand in front of it, behind it
has_back : (z : ℕ) (ys ys' : List ℕ) → (z ∈ ys → ⊥) → has (ys ++ ys') z ≡ has ys' z
unfolding has
has_back z [] ys' h = refl
has_back z (y ∷ ys) ys' h = cases (eqb z y) (λ t. absurd (h (here (eqb-true z y t)))) (λ f. rw f (has_back z ys ys' (λ m. h (there m))))

module _ (xs xs' ys ys' : List ℕ) (p : Apart xs ys') (q : Apart ys xs') where
  pub common_cut : common (xs ++ xs') (ys ++ ys') ≡ common xs ys ++ common xs' ys'
  unfolding common
  common_cut = keep_append (has (ys ++ ys')) xs xs' ∙ ap₂ ◌++◌ (keep_cong _ _ xs (λ z m. has_front z ys ys' (p z m))) (keep_cong _ _ xs' (λ z m. has_back z ys ys' (λ n. q z n m)))

  pub shared_cut : shared (xs ++ xs') (ys ++ ys') ≡ shared xs ys + shared xs' ys'
  unfolding shared
  shared_cut = rw (common_cut, length-append)

-- ---- the shortest rows

pub none_left : (ys : List ℕ) → shared [] ys ≡ 0
unfolding shared common keep
none_left ys = refl

pub none_right : (xs : List ℕ) → shared xs [] ≡ 0
unfolding shared common has
none_right xs = rw (keep_none (has []) xs (λ x m. refl))

pub one_shared : (x : ℕ) → shared (x ∷ []) (x ∷ []) ≡ 1
unfolding shared common has keep
one_shared x = rw (eq-eqb x x refl)
