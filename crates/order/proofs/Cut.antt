-- An insertion by a test is a cut: what stays before, the element, and the others. And how many stay before, told by one element of the list.
use mathlib.Core.Bool.{Bool, true, false, cond}
use mathlib.Core.List.{List, [], ◌∷◌, ◌++◌}
use mathlib.Core.List.Memᴰ.{head as here}
use mathlib.Core.List.Memᴰ.{tail as there}
use mathlib.Core.Path.{◌≡◌, refl, ap}
use Prim.Native.Nat.{ℕ, zero, suc, ◌≤◌, ◌<◌, zero-le, suc-le-suc}
use native.Mathlib.Nat.{le_of_suc-le-suc, not-suc-le-zero}
use lib.ListN.{length, take, drop, get_or}
use Rattle.order.specs.Order.{◌∈◌, InOrder, insert_by, rank_of, rank_by}
use Rattle.order.proofs.Kth.{kth_in, kth_is}

module _ {A : Type 0} (before : A → A → Bool) (x : A) where
  cut_by : (b : Bool) (y : A) (ys : List A) (r : ℕ) → insert_by before x ys ≡ take r ys ++ x ∷ drop r ys
      → cond b (x ∷ y ∷ ys) (y ∷ insert_by before x ys) ≡ take (rank_by b r) (y ∷ ys) ++ x ∷ drop (rank_by b r) (y ∷ ys)
  cut_by true y ys r e = refl
  cut_by false y ys r e = ap (λ (l : List A). y ∷ l) e

  pub insert_cut : (ys : List A) → insert_by before x ys ≡ take (rank_of before x ys) ys ++ x ∷ drop (rank_of before x ys) ys
  unfolding insert_by rank_of
  insert_cut [] = refl
  insert_cut (y ∷ ys) = cut_by (before x y) y ys (rank_of before x ys) (insert_cut ys)

  rank_by_lem : (b : Bool) (r n : ℕ) → r ≤ n → rank_by b r ≤ suc n
  rank_by_lem true r n h = zero-le
  rank_by_lem false r n h = suc-le-suc h

  pub rank_le : (ys : List A) → rank_of before x ys ≤ length ys
  unfolding rank_of
  rank_le [] = zero-le
  rank_le (y ∷ ys) = rank_by_lem (before x y) (rank_of before x ys) (length ys) (rank_le ys)

  -- no more than i where x comes before the element i
  pub rank_most : (ys : List A) (i : ℕ) (d : A) → i < length ys → before x (get_or ys i d) ≡ true → rank_of before x ys ≤ i
  unfolding rank_of
  rank_most [] i d h t = absurd (not-suc-le-zero h)
  rank_most (y ∷ ys) zero d h t = rw t zero-le
  rank_most (y ∷ ys) (suc i) d h t = rank_by_lem (before x y) (rank_of before x ys) i (rank_most ys i d (le_of_suc-le-suc h) t)

  -- and more than i where it does not, in a list in order, where what does not come before an element comes before none in front of it
  pub rank_more : (ys : List A) (i : ℕ) (d : A) → ((y z : A) → y ∈ ys → z ∈ ys → before z y ≡ false → before x z ≡ false → before x y ≡ false)
      → InOrder before ys → i < length ys → before x (get_or ys i d) ≡ false → i < rank_of before x ys
  unfolding rank_of
  rank_more [] i d a o h f = absurd (not-suc-le-zero h)
  rank_more (y ∷ ys) zero d a o h f = rw f (suc-le-suc zero-le)
  rank_more (y ∷ ys) (suc i) d a o h f =
      let l = le_of_suc-le-suc h in
      let m = kth_in (suc i) ys (kth_is i ys d l) in
      let g : before x y ≡ false = a y (get_or ys i d) (here refl) (there m) (o.0 (get_or ys i d) m) f in
      rw g (suc-le-suc (rank_more ys i d (λ z w j k. a z w (there j) (there k)) o.1 l f))
