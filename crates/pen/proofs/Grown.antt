-- A text that grows by a piece for each element of a list: the numbers of a line, the lines of a sheet.
-- What stands of it is never longer than the whole, so a piece without room means that the whole has none.
use mathlib.Core.Path.{◌≡◌, sym, ap, ◌∙◌}
use mathlib.Core.List.{List, [], ◌∷◌, ◌++◌, append-nil, append_assoc}
use Prim.Native.Nat.{ℕ, ◌+◌, ◌≤◌, ◌<◌}
use native.Mathlib.Numerals.{add-one}
use native.Mathlib.Omega.{arith}
use lib.ListN.{length, take, drop, get_or, length-append, take-append-drop}
use lib.Seq.{take-suc, length-take-le}

-- T is the text, piece i x what the element x at the index i adds
pub record Grows {A : Type 0} (T : List A → List ℕ) (piece : ℕ → A → List ℕ) : Type 0 where
  pub none : T [] ≡ []
  pub snoc : (xs : List A) (x : A) → T (xs ++ (x ∷ [])) ≡ T xs ++ piece (length xs) x

module _ {A : Type 0} {T : List A → List ℕ} {piece : ℕ → A → List ℕ} (G : Grows T piece) where
  -- a text begins with that of its first elements
  prefix : (ys xs : List A) → (rest : List ℕ) × (T (xs ++ ys) ≡ T xs ++ rest)
  prefix [] xs = ([], ap T (append-nil xs) ∙ sym (append-nil (T xs)))
  prefix (y ∷ ys) xs =
      let r = prefix ys (xs ++ (y ∷ [])) in
      (piece (length xs) y ++ r.0, sym (ap T (append_assoc xs (y ∷ []) ys)) ∙ r.1 ∙ rw (G.snoc xs y, append_assoc))

  -- one element more
  pub one_more : (xs : List A) (i : ℕ) (d : A) → i < length xs → T (take (i + 1) xs) ≡ T (take i xs) ++ piece i (get_or xs i d)
  one_more xs i d h = rw (add-one i, take-suc xs i d h, G.snoc, length-take-le i xs (omega arith))

  -- it is no longer than the whole
  pub no_longer : (xs : List A) (i : ℕ) → length (T (take i xs)) ≤ length (T xs)
  no_longer xs i =
      let p = prefix (drop i xs) (take i xs) in
      let q : T xs ≡ T (take i xs) ++ p.0 = sym (ap T (take-append-drop i xs)) ∙ p.1 in
      rw (q, length-append) (omega arith)

  pub piece_fits : (xs : List A) (i : ℕ) (d : A) → i < length xs → length (T (take i xs)) + length (piece i (get_or xs i d)) ≤ length (T xs)
  piece_fits xs i d h = let e = no_longer xs (i + 1) in let f : length (T (take (i + 1) xs)) ≡ length (T (take i xs)) + length (piece i (get_or xs i d)) = rw (one_more xs i d h, length-append) in omega arith
