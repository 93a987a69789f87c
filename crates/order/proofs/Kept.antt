-- How many of a list pass a test: as many of the list put in order, no more of its first elements, and as many of what a map makes.
use mathlib.Core.Bool.{Bool}
use mathlib.Core.List.{List, [], ◌∷◌, map}
use mathlib.Core.Path.{◌≡◌, refl, sym, ap, ◌∙◌}
use Prim.Native.Nat.{ℕ, suc, ◌+◌, ◌≤◌}
use native.Mathlib.Omega.{arith}
use lib.ListN.{length, take, drop, take-append-drop, length-append}
use Rattle.order.specs.Order.{keep, insert_by, sort_by}
use Rattle.order.proofs.Lists.{cases, keep_append}

module _ {A : Type 0} (p : A → Bool) where
  keep_first : (x : A) (xs : List A) → length (keep p (x ∷ xs)) ≡ length (keep p (x ∷ [])) + length (keep p xs)
  keep_first x xs = ap length (keep_append p (x ∷ []) xs) ∙ length-append (keep p (x ∷ [])) (keep p xs)

  keep_insert : (before : A → A → Bool) (x : A) (xs : List A) → length (keep p (insert_by before x xs)) ≡ length (keep p (x ∷ xs))
  unfolding insert_by
  keep_insert before x [] = refl
  keep_insert before x (y ∷ ys) = cases (before x y) (λ t. rw t) (λ f. rw f (omega (arith, keep_first y (insert_by before x ys), keep_insert before x ys, keep_first x ys, keep_first x (y ∷ ys), keep_first y ys)))

  -- as many of a list put in order
  pub keep_sort : (before : A → A → Bool) (xs : List A) → length (keep p (sort_by before xs)) ≡ length (keep p xs)
  unfolding sort_by
  keep_sort before [] = refl
  keep_sort before (x ∷ xs) = omega (arith, keep_insert before x (sort_by before xs), keep_first x (sort_by before xs), keep_sort before xs, keep_first x xs)

  -- no more of the first ones
  pub keep_take : (j : ℕ) (xs : List A) → length (keep p (take j xs)) ≤ length (keep p xs)
  keep_take j xs = omega (arith, ap (λ (l : List A). length (keep p l)) (sym (take-append-drop j xs)), ap length (keep_append p (take j xs) (drop j xs)), length-append (keep p (take j xs)) (keep p (drop j xs)))

  -- what a map makes is tested
  pub keep_map : {B : Type 0} (f : B → A) (xs : List B) → length (keep p (map f xs)) ≡ length (keep (λ x. p (f x)) xs)
  unfolding keep
  keep_map f [] = refl
  keep_map f (x ∷ xs) = cases (p (f x)) (λ t. rw t (ap suc (keep_map f xs))) (λ n. rw n (keep_map f xs))
