-- The pieces of a text: the first, and those behind it.
use mathlib.Core.Path.{◌≡◌, refl, ap}
use mathlib.Core.List.{List, [], ◌∷◌}
use Prim.Native.Nat.{ℕ, suc, ◌≤◌, ◌<◌, zero-le, suc-le-suc}
use native.Mathlib.Nat.{not-suc-le-zero, le_of_suc-le-suc}
use borrow.Author.Tests.{eq-eqb, ne_eqb}
use lib.ListN.{length, take, drop}
use Rattle.words.proofs.Split.{by_eq}
use Rattle.sheet.specs.Pieces.{front_to, on_first, split}

module _ (b : ℕ) where
  pub up_to_within : (s : List ℕ) → length (front_to b s) ≤ length s
  unfolding front_to
  up_to_within [] = zero-le
  up_to_within (x ∷ s) =
      by_eq x b (λ e. rw (eq-eqb x b e) zero-le) (λ n. rw (ne_eqb x b n) (suc-le-suc (up_to_within s)))

  pub take_up_to : (s : List ℕ) → take (length (front_to b s)) s ≡ front_to b s
  unfolding front_to
  take_up_to [] = refl
  take_up_to (x ∷ s) =
      by_eq x b (λ e. rw (eq-eqb x b e)) (λ n. rw (ne_eqb x b n) (ap (λ (l : List ℕ). x ∷ l) (take_up_to s)))

  -- no b behind the first piece
  pub split_last : (s : List ℕ) → length s ≤ length (front_to b s) → split b s ≡ front_to b s ∷ []
  unfolding front_to split on_first
  split_last [] h = refl
  split_last (x ∷ s) h =
      by_eq x b (λ e. absurd (not-suc-le-zero (rw (eq-eqb x b e) at h)))
      (λ n. rw (ne_eqb x b n, split_last s (le_of_suc-le-suc (rw (ne_eqb x b n) at h))))

  -- a b behind it
  pub split_more : (s : List ℕ) → length (front_to b s) < length s → split b s ≡ front_to b s ∷ split b (drop (suc (length (front_to b s))) s)
  unfolding front_to split on_first
  split_more [] h = absurd (not-suc-le-zero h)
  split_more (x ∷ s) h =
      by_eq x b (λ e. rw (eq-eqb x b e))
      (λ n. rw (ne_eqb x b n, split_more s (le_of_suc-le-suc (rw (ne_eqb x b n) at h))))

  -- there is always a first piece
  pub split_some : (s : List ℕ) → (p : List ℕ) × (ps : List (List ℕ)) × (split b s ≡ p ∷ ps)
  unfolding split on_first
  split_some [] = ([], [], refl)
  split_some (x ∷ s) =
      by_eq x b (λ e. ([], split b s, rw (eq-eqb x b e)))
      (λ n. let r = split_some s in (x ∷ r.0, r.1, rw (ne_eqb x b n, r.2)))
