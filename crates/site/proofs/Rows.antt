-- Numbers in a row, one for each number below n: what stands at an index, and what one store changes.
use mathlib.Core.List.{List, map}
use mathlib.Core.Path.{◌≡◌, sym, ap, ◌∙◌}
use Prim.Native.Nat.{ℕ, ◌<◌}
use native.Mathlib.Omega.{arith}
use lib.ListN.{length, get_or, set, replicate, length-map, length-set, length-replicate, get_or-replicate}
use lib.Seq.{ext_get_or, get_or-set_same, get_or-set_other}
use Rattle.site.specs.Site.{up_to}
use Rattle.site.proofs.Grid.{up_to_length, up_to_at}
use Rattle.words.proofs.Lists.{map_at}
use Rattle.words.proofs.Split.{by_eq}

-- ---- a row of numbers

pub row_length : (f : ℕ → ℕ) (n : ℕ) → length (map f (up_to n)) ≡ n
row_length f n = length-map (up_to n) f ∙ up_to_length n

pub row_at : (f : ℕ → ℕ) (n i : ℕ) → i < n → get_or (map f (up_to n)) i 0 ≡ f i
row_at f n i h = map_at f (up_to n) i 0 0 (omega (arith, up_to_length n)) ∙ ap f (up_to_at n i h)

-- a row is known by its numbers
pub row_is : (f : ℕ → ℕ) (n : ℕ) (l : List ℕ) → length l ≡ n → ((i : ℕ) → i < n → get_or l i 0 ≡ f i) → l ≡ map f (up_to n)
row_is f n l e h = ext_get_or 0 _ _ (e ∙ sym (row_length f n)) (λ i k. let m : i < n = omega (arith, k, e) in h i m ∙ sym (row_at f n i m))

pub row_same : (f g : ℕ → ℕ) (n : ℕ) → ((i : ℕ) → i < n → f i ≡ g i) → map f (up_to n) ≡ map g (up_to n)
row_same f g n h = row_is g n (map f (up_to n)) (row_length f n) (λ i k. row_at f n i k ∙ h i k)

pub row_zeros : (f : ℕ → ℕ) (n : ℕ) → ((i : ℕ) → i < n → f i ≡ 0) → replicate n 0 ≡ map f (up_to n)
row_zeros f n h = row_is f n (replicate n 0) (length-replicate n 0) (λ i k. get_or-replicate n i 0 0 k ∙ sym (h i k))

-- one number is changed
pub row_set : (f g : ℕ → ℕ) (n i : ℕ) → i < n → ((k : ℕ) → (k ≡ i → ⊥) → f k ≡ g k) → set (map f (up_to n)) i (g i) ≡ map g (up_to n)
row_set f g n i h same = row_is g n _ (length-set (map f (up_to n)) i (g i) ∙ row_length f n) at
  where
    at : (k : ℕ) → k < n → get_or (set (map f (up_to n)) i (g i)) k 0 ≡ g k
    at k l = by_eq k i
        (λ (e : k ≡ i). rw e (get_or-set_same (map f (up_to n)) i (g i) 0 (omega (arith, row_length f n))))
        (λ d. get_or-set_other (map f (up_to n)) i k (g i) 0 d ∙ row_at f n k l ∙ same k d)
