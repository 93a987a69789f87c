-- The key of a line: the scan that matches it, and what it tells of the line's reading.
-- Where the key breaks, 9 stands at that byte; behind a whole key the rest of the line is read.
use mathlib.Core.Bool.{cond}
use mathlib.Core.Path.{◌≡◌, refl, ap, ◌∙◌}
use mathlib.Core.List.{List, [], ◌∷◌}
use Prim.Native.Nat.{ℕ, suc, ◌+◌, ◌≤◌, ◌<◌, zero-le}
use native.Mathlib.Nat.{add-zero, le_of_suc-le-suc, not-suc-le-zero}
use native.Mathlib.Omega.{arith}
use borrow.Author.Tests.{eq-eqb, ne_eqb}
use lib.Dec.{eqb}
use lib.ListN.{length, drop, length-drop}
use Rattle.std.specs.List.{zip, prefix_len, take_while}
use Rattle.std.proofs.lemmas.List.Folds.{length-prefix_len}
use Rattle.words.proofs.Split.{by_eq}
use Rattle.sheet.specs.Read.{Read, refused}
use Rattle.sheet.specs.Number.{number_of}
use Rattle.sheet.specs.Reading.{behind}
use Rattle.reader.specs.Part.{Part}
use Rattle.reader.specs.Part as part
use Rattle.reader.specs.Parts.{part_by, itself, matched_by}

-- the bytes of the key that stand at the front, counted
pub matched_counted : (key l : List ℕ) {n : ℕ} → n ≡ length (take_while (λ p. eqb p.1 p.0) (zip key l)) → (n ≡ matched_by key l) × (n ≤ length l)
unfolding matched_by
matched_counted key l e =
    let m = e ∙ length-prefix_len (λ p. eqb p.1 p.0) (zip key l) ∙ matched_is key l in (m, rw m (matched_in_line key l))
  where
    matched_is : (key l : List ℕ) → prefix_len (λ p. eqb p.1 p.0) (zip key l) ≡ matched_by key l
    matched_is [] l = refl
    matched_is (x ∷ key) [] = refl
    matched_is (x ∷ key) (b ∷ l) =
        let e = matched_is key l in
        let s : 1 + prefix_len (λ (p : ℕ × ℕ). eqb p.1 p.0) (zip key l) ≡ suc (matched_by key l) = omega arith in ap (λ (n : ℕ). cond (eqb b x) n 0) s

    matched_in_line : (key l : List ℕ) → matched_by key l ≤ length l
    matched_in_line [] l = zero-le
    matched_in_line (x ∷ key) [] = zero-le
    matched_in_line (x ∷ key) (b ∷ l) =
        by_eq b x (λ e. rw (eq-eqb b x e) (omega (arith, matched_in_line key l))) (λ n. rw (ne_eqb b x n) zero-le)

-- no more bytes than the key has
matched_in_key : (key l : List ℕ) → matched_by key l ≤ length key
unfolding matched_by
matched_in_key [] l = zero-le
matched_in_key (x ∷ key) [] = zero-le
matched_in_key (x ∷ key) (b ∷ l) =
    by_eq b x (λ e. rw (eq-eqb b x e) (omega (arith, matched_in_key key l))) (λ n. rw (ne_eqb b x n) zero-le)

-- what stands behind the key, or the first byte that is not the key's
module _ {A : Type 0} (read : ℕ → List ℕ → Read A) where
  -- behind a whole key the rest is read
  key_behind : (key l : List ℕ) (at : ℕ) → length key ≤ matched_by key l → behind key read at l ≡ read (at + length key) (drop (length key) l)
  unfolding behind matched_by
  key_behind [] l at h = rw add-zero
  key_behind (x ∷ key) [] at h = absurd (not-suc-le-zero h)
  key_behind (x ∷ key) (b ∷ l) at h =
      by_eq b x
      (λ e.
      let f : suc at + length key ≡ at + suc (length key) = omega arith in
      rw (eq-eqb b x e, ← f) (key_behind key l (suc at) (le_of_suc-le-suc (rw (eq-eqb b x e) at h))))
      (λ n. absurd (not-suc-le-zero (rw (ne_eqb b x n) at h)))

  -- 9 where a key breaks
  key_broken : (key l : List ℕ) (at : ℕ) → matched_by key l < length key → behind key read at l ≡ refused 9 (at + matched_by key l)
  unfolding behind matched_by
  key_broken [] l at h = absurd (not-suc-le-zero h)
  key_broken (x ∷ key) [] at h = rw add-zero
  key_broken (x ∷ key) (b ∷ l) at h =
      by_eq b x
      (λ e.
      let f : suc at + matched_by key l ≡ at + suc (matched_by key l) = omega arith in
      rw (eq-eqb b x e, ← f) (key_broken key l (suc at) (le_of_suc-le-suc (rw (eq-eqb b x e) at h))))
      (λ n. rw (ne_eqb b x n, add-zero))

-- m bytes of the key are there; the part behind it goes to the line's end
module _ (key l : List ℕ) (at : ℕ) {m : ℕ} (q : m ≡ matched_by key l) where
  module _ {A : Type 0} (read : ℕ → List ℕ → Read A) where
    -- 9 where the key breaks
    pub line_broken : m < length key → behind key read at l ≡ refused 9 (at + m)
    line_broken h = rw q (key_broken read key l at (rw q at h))

    -- the rest of the line is read behind the key
    pub line_behind : length key ≤ m → behind key read at l ≡ read (at + m) (drop m l)
    line_behind h =
        let e : m ≡ length key = omega (arith, q, matched_in_key key l) in
        rw e (key_behind read key l at (rw q at h))

  -- the same of a line with a number
  pub number_broken : (room : ℕ) → m < length key → part.Refused 9 (at + m) ≡ part_by itself (at + length l) (behind key (number_of room) at l)
  unfolding part_by
  number_broken room h = rw (line_broken (number_of room) h)

  -- the part behind the key ends where the line does
  pub tail_end : m ≤ length l → at + m + length (drop m l) ≡ at + length l
  tail_end h = omega (arith, length-drop m l)

  -- and the number behind its key
  pub number_follows : (room : ℕ) → length key ≤ m → m ≤ length l → {place : ℕ} {rest : List ℕ} → (place ≡ at + m) × (rest ≡ drop m l)
      → {r : Part} → r ≡ part_by itself (place + length rest) (number_of room place rest)
      → r ≡ part_by itself (at + length l) (behind key (number_of room) at l)
  number_follows room h i p e = rw (line_behind (number_of room) h, ← tail_end i, ← p.0, ← p.1) e
