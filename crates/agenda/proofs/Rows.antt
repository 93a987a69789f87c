-- Lists in a row, one behind the other: what stands at an index, and what one store changes. Nothing here knows of events.
use mathlib.Core.List.{List, [], ◌∷◌, ◌++◌}
use mathlib.Core.Path.{◌≡◌, refl, sym, ap, ◌∙◌}
use Prim.Native.Nat.{ℕ, zero, suc, ◌+◌, ◌<◌}
use native.Mathlib.Nat.{not-suc-le-zero}
use native.Mathlib.Omega.{arith}
use lib.ListN.{length, get_or, set, length-append, get_or-append}
use lib.Seq.{get_or-append-add, set-append_left}
use Rattle.site.specs.Site.{up_to}
use Rattle.words.specs.Words.{flat}
use Rattle.words.proofs.Words.{flat_append, flat_one}
use Rattle.words.proofs.Split.{by_eq}

-- ---- behind a seam

pub set_append_add : (xs ys : List ℕ) (i v : ℕ) → set (xs ++ ys) (length xs + i) v ≡ xs ++ set ys i v
set_append_add [] ys i v = let e : 0 + i ≡ i = omega arith in rw e
set_append_add (x ∷ xs) ys i v = let e : suc (length xs) + i ≡ suc (length xs + i) = omega arith in rw e (ap (λ (l : List ℕ). x ∷ l) (set_append_add xs ys i v))

-- ---- lists in a row

module _ (w : ℕ → List ℕ) where
  -- where the x-th list starts
  abbrev pub span_to : ℕ → ℕ
  span_to x = length (flat w (up_to x))

  pub rows_suc : (x : ℕ) → flat w (up_to (suc x)) ≡ flat w (up_to x) ++ w x
  unfolding up_to
  rows_suc x = flat_append w (up_to x) (x ∷ []) ∙ ap (λ (l : List ℕ). flat w (up_to x) ++ l) (flat_one w x)

  pub span_suc : (x : ℕ) → span_to (suc x) ≡ span_to x + length (w x)
  span_suc x = ap length (rows_suc x) ∙ length-append (flat w (up_to x)) (w x)

  -- it ends where the next one starts
  span_fits : (m x n : ℕ) → x < m → n < length (w x) → span_to x + n < span_to m
  span_fits zero x n h k = absurd (not-suc-le-zero h)
  span_fits (suc m) x n h k = by_eq x m (λ (e : x ≡ m). rw e (omega (arith, span_suc m, rw e at k))) (λ d. omega (arith, span_suc m, span_fits m x n (omega arith) k))

  -- the n-th word of the x-th list
  pub rows_at : (m x n : ℕ) → x < m → n < length (w x) → get_or (flat w (up_to m)) (span_to x + n) 0 ≡ get_or (w x) n 0
  rows_at zero x n h k = absurd (not-suc-le-zero h)
  rows_at (suc m) x n h k = rw (rows_suc m) (by_eq x m
      (λ (e : x ≡ m). rw e (get_or-append-add (flat w (up_to m)) (w m) n 0))
      (λ d. get_or-append (flat w (up_to m)) (w m) 0 (span_to x + n) (span_fits m x n (omega arith) k) ∙ rows_at m x n (omega arith) k))

-- lists that agree make the same row
pub rows_same : (v w : ℕ → List ℕ) (m : ℕ) → ((x : ℕ) → x < m → v x ≡ w x) → flat v (up_to m) ≡ flat w (up_to m)
unfolding up_to flat
rows_same v w zero h = refl
rows_same v w (suc m) h = rows_suc v m ∙ rw (rows_same v w m (λ x k. h x (omega arith)), h m (omega arith)) (sym (rows_suc w m))

-- one word of the x-th list is changed
pub rows_set : (v w : ℕ → List ℕ) (m x n a : ℕ) → x < m → n < length (v x) → set (v x) n a ≡ w x → ((y : ℕ) → (y ≡ x → ⊥) → v y ≡ w y)
    → set (flat v (up_to m)) (span_to v x + n) a ≡ flat w (up_to m)
rows_set v w zero x n a h k e same = absurd (not-suc-le-zero h)
rows_set v w (suc m) x n a h k e same = rw (rows_suc v m, rows_suc w m) (by_eq x m
    (λ (q : x ≡ m).
    let front : flat v (up_to m) ≡ flat w (up_to m) = rows_same v w m (λ y l. same y (λ z. omega arith)) in
    let last : set (v m) n a ≡ w m = rw q at e in
    rw q (set_append_add (flat v (up_to m)) (v m) n a ∙ rw (last, front)))
    (λ d.
    set-append_left (flat v (up_to m)) (v m) (span_to v x + n) a (span_fits v m x n (omega arith) k)
    ∙ rw (rows_set v w m x n a (omega arith) k e same, same m (λ z. d (sym z)))))
