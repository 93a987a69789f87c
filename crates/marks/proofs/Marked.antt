-- The marks of some numbers: none of none, one number more, what a mark tells, and that the codes marked are those shared.
use mathlib.Core.Bool.{Bool, true, false, not, cond, ◌||◌}
use mathlib.Core.List.{List, [], ◌∷◌, ◌++◌, map}
use mathlib.Core.List.Memᴰ.{head as here}
use mathlib.Core.List.Memᴰ.{tail as there}
use mathlib.Core.Path.{◌≡◌, refl, sym, ap, ◌∙◌}
use Prim.Native.Nat.{ℕ, zero, suc, ◌+◌, ◌*◌, ◌/◌, ◌%◌, ◌^◌, ◌<◌}
use native.Mathlib.Omega.{arith}
use lib.Bits.{bit_or}
use lib.Dec.{eqb}
use lib.ListN.{length, set, replicate}
use borrow.Author.Tests.{eq-eqb, ne_eqb}
use Rattle.order.specs.Order.{◌∈◌, keep}
use Rattle.order.proofs.Lists.{cases, never}
use Rattle.site.specs.Site.{has, common, shared, first_code, up_to}
use Rattle.site.proofs.Contexts.{has_in}
use Rattle.site.proofs.Rows.{row_length, row_at, row_zeros, row_set}
use Rattle.words.proofs.Split.{by_eq}
use Rattle.marks.specs.Marks.{code_words, HaveMarks, bit, bits, mark_word, marks_of, with_mark, bit_of, is_marked, marked_count, marked_from}
use Rattle.marks.proofs.Bits.{bits_same, bit_at, or_bit}

pub marks_length : (n : ℕ) (xs : List ℕ) → length (marks_of n xs) ≡ n
unfolding marks_of
marks_length n xs = row_length (mark_word xs) n

-- nothing is marked
no_bits : (n : ℕ) → bits (λ b. false) n ≡ 0
unfolding bits
no_bits zero = refl
no_bits (suc n) = omega (arith, no_bits n)

pub marks_none : (n : ℕ) → replicate n 0 ≡ marks_of n []
unfolding marks_of mark_word has
marks_none n = row_zeros (mark_word []) n (λ i h. no_bits 16)

-- ---- one number more

has_more : (zs : List ℕ) (x y : ℕ) → has (zs ++ x ∷ []) y ≡ (eqb y x || has zs y)
unfolding has
has_more [] x y = refl
has_more (z ∷ zs) x y = cases (eqb y z)
    (λ t. cases (eqb y x) (λ u. rw (t, u)) (λ f. rw (t, f)))
    (λ f. rw f (has_more zs x y))

module _ (zs : List ℕ) (x : ℕ) where
  -- its own word
  word_marked : bit_or (mark_word zs (x / 16)) (2 ^ (x % 16)) ≡ mark_word (zs ++ x ∷ []) (x / 16)
  unfolding mark_word
  word_marked = or_bit 16 (x % 16) (λ b. has zs (16 * (x / 16) + b)) (λ b. has (zs ++ x ∷ []) (16 * (x / 16) + b)) (omega arith) (λ c l. has_more zs x (16 * (x / 16) + c) ∙ ap (λ (t : Bool). t || has zs (16 * (x / 16) + c)) (same c))
    where
      same : (c : ℕ) → eqb (16 * (x / 16) + c) x ≡ eqb c (x % 16)
      same c = by_eq c (x % 16)
          (λ e. eq-eqb (16 * (x / 16) + c) x (omega arith) ∙ sym (eq-eqb c (x % 16) e))
          (λ n. ne_eqb (16 * (x / 16) + c) x (λ e. n (omega arith)) ∙ sym (ne_eqb c (x % 16) n))

  -- the other words
  word_kept : (k : ℕ) → (k ≡ x / 16 → ⊥) → mark_word zs k ≡ mark_word (zs ++ x ∷ []) k
  unfolding mark_word
  word_kept k n = bits_same 16 (λ b. has zs (16 * k + b)) (λ b. has (zs ++ x ∷ []) (16 * k + b)) (λ c l. sym (has_more zs x (16 * k + c) ∙ ap (λ (t : Bool). t || has zs (16 * k + c)) (ne_eqb (16 * k + c) x (λ e. n (omega arith)))))

  pub marks_more : (n : ℕ) → x < 16 * n → with_mark (marks_of n zs) x ≡ marks_of n (zs ++ x ∷ [])
  unfolding marks_of with_mark
  marks_more n small =
      let i : x / 16 < n = omega arith in
      ap (λ (w : ℕ). set (map (mark_word zs) (up_to n)) (x / 16) w) (ap (λ (w : ℕ). bit_or w (2 ^ (x % 16))) (row_at (mark_word zs) n (x / 16) i) ∙ word_marked)
      ∙ row_set (mark_word zs) (mark_word (zs ++ x ∷ [])) n (x / 16) i word_kept

-- ---- what a mark tells

pub mark_tells : (n : ℕ) (xs : List ℕ) (x : ℕ) → x < 16 * n → bit_of (marks_of n xs) x ≡ bit (has xs x)
unfolding bit_of marks_of mark_word
mark_tells n xs x h =
    let i : x / 16 < n = omega arith in
    let e : 16 * (x / 16) + x % 16 ≡ x = omega arith in
    ap (λ (w : ℕ). w / 2 ^ (x % 16) % 2) (row_at (mark_word xs) n (x / 16) i)
    ∙ bit_at 16 (x % 16) (λ b. has xs (16 * (x / 16) + b)) (omega arith)
    ∙ ap (λ (y : ℕ). bit (has xs y)) e

-- a number that is marked is one of them
pub marked_in : (n : ℕ) (xs : List ℕ) (x : ℕ) → x < 16 * n → is_marked (marks_of n xs) x ≡ true → x ∈ xs
unfolding is_marked
marked_in n xs x h t = cases (has xs x) (has_in xs x) (λ f. never t (ap not (eq-eqb (bit_of (marks_of n xs) x) 0 (mark_tells n xs x h ∙ ap bit f))))

one_not_zero : ◌≡◌ {A = ℕ} 1 0 → ⊥
one_not_zero e = absurd (omega arith)

-- the codes marked are those that both have
pub marked_shared : (xs ys : List ℕ) → HaveMarks ys → marked_count (marks_of code_words xs) ys ≡ shared ys xs
unfolding marked_count shared common keep
marked_shared xs [] h = refl
marked_shared xs (y ∷ ys) h =
    let more = marked_shared xs ys (λ z m. h z (there m)) in
    let b = mark_tells code_words xs y (h y (here refl)) in
    cases (has xs y)
    (λ t. rw t (omega (arith, more, b ∙ ap bit t)))
    (λ f. rw f (omega (arith, more, b ∙ ap bit f)))

-- and counted from code x on they are those, if x is the first that both have
pub marked_first : (xs ys : List ℕ) (x : ℕ) → HaveMarks ys → marked_from (marks_of code_words xs) x ys ≡ cond (eqb (first_code ys xs) x) (shared ys xs) 0
unfolding marked_from first_code shared common keep
marked_first xs [] x h = cases (eqb 0 x) (λ t. rw t) (λ f. rw f)
marked_first xs (y ∷ ys) x h =
    let b = mark_tells code_words xs y (h y (here refl)) in
    let all : marked_count (marks_of code_words xs) (y ∷ ys) ≡ shared (y ∷ ys) xs = marked_shared xs (y ∷ ys) h in
    cases (has xs y)
    (λ t. rw (t, ne_eqb (bit_of (marks_of code_words xs) y) 0 (λ z. one_not_zero (sym (b ∙ ap bit t) ∙ z))) (ap (λ (n : ℕ). cond (eqb y x) n 0) (rw t at all)))
    (λ f. rw (f, eq-eqb (bit_of (marks_of code_words xs) y) 0 (b ∙ ap bit f)) (marked_first xs ys x (λ z m. h z (there m))))
