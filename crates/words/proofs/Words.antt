-- Laws of `flat`, `padded` and `Begins`.
use mathlib.Core.List.{List, [], ◌∷◌, ◌++◌, append_assoc, append-nil}
use mathlib.Core.Path.{◌≡◌, refl, sym, ap, ◌∙◌}
use Prim.Native.Nat.{ℕ, zero, suc, ◌+◌, ◌-◌, ◌*◌, ◌≤◌, ◌<◌}
use native.Mathlib.Nat.{not-suc-le-zero, le_of_suc-le-suc, sub-zero, add_comm, mul-suc}
use native.Mathlib.Omega.{arith}
use lib.ListN.{length, get_or, set, take, drop, replicate, length-append, length-replicate, length-set, get_or-append, get_or-eq_default}
use lib.Seq.{get_or-append-add, drop-append-add, take_at, take-append_seam, set-append_left, set-append_seam, append_snoc}
use Rattle.words.specs.Words.{flat, padded, Holds, Begins}
use Rattle.words.proofs.Lists.{drop_replicate, two_sets}
use Rattle.words.proofs.Split.{by_le}

module _ {A : Type 0} (words : A → List ℕ) where
  pub flat_append : (xs ys : List A) → flat words (xs ++ ys) ≡ flat words xs ++ flat words ys
  unfolding flat
  flat_append [] ys = refl
  flat_append (x ∷ xs) ys = rw (flat_append xs ys, append_assoc)

  pub flat_one : (x : A) → flat words (x ∷ []) ≡ words x
  unfolding flat
  flat_one x = append-nil (words x)

  pub flat_length : (w : ℕ) → ((x : A) → length (words x) ≡ w) → (xs : List A) → length (flat words xs) ≡ w * length xs
  unfolding flat
  flat_length w h [] = omega arith
  flat_length w h (x ∷ xs) = length-append (words x) (flat words xs) ∙ rw (h x, flat_length w h xs, mul-suc) (add_comm w (w * length xs))

  -- the words of the j-th
  pub flat_at : (w : ℕ) → ((x : A) → length (words x) ≡ w) → (xs : List A) (j r : ℕ) (d : A) → j < length xs → r < w → get_or (flat words xs) (w * j + r) 0 ≡ get_or (words (get_or xs j d)) r 0
  unfolding flat
  flat_at w h [] j r d l k = absurd (not-suc-le-zero l)
  flat_at w h (x ∷ xs) zero r d l k = let e : w * 0 + r ≡ r = omega arith in rw e (get_or-append (words x) (flat words xs) 0 r (omega (arith, h x)))
  flat_at w h (x ∷ xs) (suc j) r d l k =
      let e : w * suc j + r ≡ length (words x) + (w * j + r) = omega (arith, h x, mul-suc w j) in
      rw e (get_or-append-add (words x) (flat words xs) (w * j + r) 0 ∙ flat_at w h xs j r d (le_of_suc-le-suc l) k)

module _ (n : ℕ) (ws : List ℕ) where
  pub padded_length : length ws ≤ n → length (padded n ws) ≡ n
  unfolding padded
  padded_length h = simp (length-append, length-replicate) (omega arith)

  -- so a buffer that is this holds the words
  pub held : {out : List ℕ} → length ws ≤ n → out ≡ padded n ws → Holds out ws
  held {out} h e = let l : length out ≡ n = ap length e ∙ padded_length h in rw l e

  get_or_zeros : (m i : ℕ) → get_or {A = ℕ} (replicate m 0) i 0 ≡ 0
  get_or_zeros zero i = get_or-eq_default [] 0 {n = i} (omega arith)
  get_or_zeros (suc m) zero = refl
  get_or_zeros (suc m) (suc i) = get_or_zeros m i

  -- a word of it is a word of what it holds, and zero behind that
  pub padded_at : (i : ℕ) → get_or (padded n ws) i 0 ≡ get_or ws i 0
  unfolding padded
  padded_at i = by_le (length ws) i
      (λ h. let e : i ≡ length ws + (i - length ws) = omega arith in
      rw e (get_or-append-add ws (replicate (n - length ws) 0) (i - length ws) 0 ∙ get_or_zeros (n - length ws) (i - length ws)) ∙ sym (get_or-eq_default ws 0 {n = i} h))
      (λ h. get_or-append ws (replicate (n - length ws) 0) 0 i h)

  -- a word of what it holds is changed
  pub padded_set : (i v : ℕ) → i < length ws → set (padded n ws) i v ≡ padded n (set ws i v)
  unfolding padded
  padded_set i v h = rw (set-append_left ws (replicate (n - length ws) 0) i v, length-set)

  -- behind what it holds
  pub padded_drop : (i : ℕ) → length ws ≤ i → drop i (padded n ws) ≡ replicate (n - i) 0
  unfolding padded
  padded_drop i h =
      let e : i ≡ length ws + (i - length ws) = omega arith in
      let m : n - length ws - (i - length ws) ≡ n - i = omega arith in
      ap (λ (j : ℕ). drop j (ws ++ replicate (n - length ws) 0)) e ∙ drop-append-add ws (replicate (n - length ws) 0) (i - length ws) ∙ drop_replicate (i - length ws) (n - length ws) 0 ∙ ap (λ (j : ℕ). replicate j 0) m

  -- more words are written over it, from its start
  pub padded_over : (vs : List ℕ) (i : ℕ) {buffer out : List ℕ} → buffer ≡ padded n ws → length ws ≤ i → i ≡ length vs → out ≡ vs ++ drop i buffer → out ≡ padded n vs
  unfolding padded
  padded_over vs i e h q o = o ∙ ap (λ (l : List ℕ). vs ++ l) (ap (drop i) e ∙ padded_drop i h ∙ ap (λ (j : ℕ). replicate (n - j) 0) q)

  -- one more word
  pub padded_push : (v : ℕ) → length ws < n → set (padded n ws) (length ws) v ≡ padded n (ws ++ v ∷ [])
  unfolding padded
  padded_push v h =
      let e : n - length ws ≡ suc (n - length (ws ++ v ∷ [])) = omega (arith, length-append ws (v ∷ [])) in
      rw e (set-append_seam ws 0 _ v) ∙ sym (append_snoc ws v _)

-- nothing but zeros
pub padded_none : (n : ℕ) → replicate n 0 ≡ padded n []
unfolding padded
padded_none n = rw sub-zero

-- ---- a buffer that begins with some words

-- as one does that holds them
pub padded_front : (n : ℕ) (ws : List ℕ) → Begins (padded n ws) ws
unfolding padded
padded_front n ws = take-append_seam ws _

module _ (buffer ws : List ℕ) {i : ℕ} (e : i ≡ length ws) (h : Begins buffer ws) where
  front : take i buffer ≡ ws
  front = rw e h

  -- two more words
  pub begins_two : (a b : ℕ) → i + 2 ≤ length buffer → Begins (set (set buffer i a) (i + 1) b) (ws ++ a ∷ b ∷ [])
  begins_two a b k =
      let w : set (set buffer i a) (i + 1) b ≡ take i buffer ++ (a ∷ b ∷ []) ++ drop (i + 2) buffer = two_sets buffer i a b k in
      rw (w, front) (take_at (ws ++ a ∷ b ∷ []) (drop (i + 2) buffer) _ refl)

  -- with zeros behind them
  pub begins_zeroed : take i buffer ++ replicate (length buffer - i) 0 ≡ padded (length buffer) ws
  unfolding padded
  begins_zeroed = rw (front, e)
