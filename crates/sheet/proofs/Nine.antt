-- A well-formed sheet, whatever its sizes, is read or refused with 10 or 11: never with 9.
use mathlib.Core.Path.{◌≡◌, ap, ◌∙◌}
use mathlib.Core.List.{List, [], ◌∷◌, ◌++◌, map, append_assoc}
use Prim.Native.Nat.{ℕ, suc, ◌+◌, min}
use native.Mathlib.Nat.{le_refl}
use native.Mathlib.Omega.{arith}
use borrow.Author.Tests.{ne_eqb, lt-ltb, le-ltb}
use lib.ListN.{length}
use Rattle.words.proofs.Split.{by_le}
use Rattle.sheet.specs.Read.{Read, value, refused, ◌then◌}
use Rattle.sheet.specs.Number.{digits_of, number_of}
use Rattle.sheet.specs.Pieces.{split}
use Rattle.sheet.specs.Text.{k_key, contexts_key, c_key, codes_text, line_text, lines_text, sheet_text}
use Rattle.sheet.specs.Reading.{behind, room_after, codes_read, context_of, line, nothing, lines_of, read_sheet}
use Rattle.sheet.proofs.Pieces.{split_some}
use Rattle.sheet.proofs.Numerals.{good, in_digits}
use Rattle.sheet.proofs.ReadsBack.{Free, words_of, context_some, codes_length, codes_free, behind_key, cut_line, free_append, digits_free, free_key}

-- not refused with 9: a value v, or another refusal
pub data Judged {A : Type 0} (v : A) : Read A → Type 0 where
  well : Judged v (value v)
  other : (n p : ℕ) → (n ≡ 9 → ⊥) → Judged v (refused n p)

judged_then : {A B : Type 0} {v : A} {x : Read A} (f : A → Read B) {w : B} → Judged v x → Judged w (f v) → Judged w (x then f)
judged_then f well j = j
judged_then f (other n p h) j = other n p h

pub never_nine : {A : Type 0} {v : A} {x : Read A} → Judged v x → (p : ℕ) → x ≡ refused 9 p → ⊥
never_nine well p e = let z : ◌≡◌ {A = ℕ} 0 1 = cc in omega arith
never_nine (other n q h) p e = h cc

number_judged : (room at n : ℕ) → Judged n (number_of room at (digits_of n))
unfolding number_of
number_judged room at n =
    let g = good n in
    let z : length (digits_of n) ≡ 0 → ⊥ = λ y. omega (arith, g.some) in
    by_le n 65535
    (λ h. by_le room n
    (λ k. rw (in_digits n, g.says, ne_eqb (length (digits_of n)) 0 z, le-ltb 65535 n h, le-ltb n room k) (other 11 at (λ e. omega arith)))
    (λ k. rw (in_digits n, g.says, ne_eqb (length (digits_of n)) 0 z, le-ltb 65535 n h, lt-ltb n room k, le-ltb (length (digits_of n)) (length (digits_of n)) (le_refl _)) well))
    (λ h. rw (in_digits n, g.says, ne_eqb (length (digits_of n)) 0 z, lt-ltb 65535 n h) (other 10 at (λ e. omega arith)))

codes_judged : (most used at : ℕ) (cs : List ℕ) → Judged cs (codes_read most used at (map digits_of cs))
unfolding codes_read
codes_judged most used at [] = well
codes_judged most used at (n ∷ ns) =
    judged_then _ (number_judged (room_after most used) at n)
    (judged_then (λ xs. value (n ∷ xs)) (codes_judged most (suc used) (at + length (digits_of n) + 1) ns) well)

context_judged : (most used at : ℕ) (cs : List ℕ) → Judged cs (context_of most used at (codes_text cs))
unfolding context_of codes_text
context_judged most used at [] = well
context_judged most used at (n ∷ ns) = rw (context_some most used at (codes_text (n ∷ ns)) (codes_length n ns), words_of n ns) (codes_judged most used at (n ∷ ns))

line_judged : {A : Type 0} (read : ℕ → List ℕ → Read A) (at : ℕ) (l t : List ℕ) {v : A} → Judged v (read at l)
    → Judged (record { got = v; next = at + length l + 1; lines = split 10 t }) (line read at (l ∷ split 10 t))
unfolding line
line_judged read at l t j = let m = split_some 10 t in rw m.2 (judged_then _ j well)

lines_judged : (most used at : ℕ) (site : List (List ℕ)) → Judged site (lines_of most (length site) used at (split 10 (lines_text site)))
unfolding lines_of lines_text line_text nothing split
lines_judged most used at [] = well
lines_judged most used at (c ∷ site) =
    let l = c_key ++ codes_text c in
    let f : Free 10 l = (λ e. omega arith, (λ e. omega arith, codes_free c)) in
    let r : Judged c (behind c_key (context_of most used) at l) = rw (behind_key c_key (context_of most used) at (codes_text c)) (context_judged most used (at + 2) c) in
    rw (cut_line l (lines_text site) f)
    (judged_then _ (line_judged (behind c_key (context_of most used)) at l (lines_text site) r)
    (judged_then (λ s. value (c ∷ s)) (lines_judged most (used + length c) (at + length l + 1) site) well))

-- a well-formed sheet is read, or refused with 10 or 11: never with 9
pub text_judged : (offsets codes k : ℕ) (site : List (List ℕ)) → Judged (record { k = k; site = site }) (read_sheet offsets codes (sheet_text k site))
unfolding read_sheet sheet_text line_text codes_text
text_judged offsets codes k site =
    let a = k_key ++ digits_of k in
    let b = contexts_key ++ digits_of (length site) in
    let fa : Free 10 a = free_append 10 k_key (digits_of k) (λ e. omega arith, (λ e. omega arith, tt)) (digits_free 10 k (omega arith)) in
    let fb : Free 10 b = free_append 10 contexts_key (digits_of (length site)) free_key (digits_free 10 (length site) (omega arith)) in
    let ra : Judged k (behind k_key (number_of 65536) 0 a) = rw (behind_key k_key (number_of 65536) 0 (digits_of k)) (number_judged 65536 _ k) in
    let rb : Judged (length site) (behind contexts_key (number_of (min 257 offsets)) (0 + length a + 1) b) = rw (behind_key contexts_key (number_of (min 257 offsets)) (0 + length a + 1) (digits_of (length site))) (number_judged (min 257 offsets) _ (length site)) in
    let cut : split 10 (sheet_text k site) ≡ a ∷ split 10 (b ++ (10 ∷ []) ++ lines_text site) = ap (split 10) (append_assoc (a ++ (10 ∷ [])) (b ++ (10 ∷ [])) (lines_text site)) ∙ cut_line a (b ++ (10 ∷ []) ++ lines_text site) fa in
    rw cut
    (judged_then _ (line_judged (behind k_key (number_of 65536)) 0 a (b ++ (10 ∷ []) ++ lines_text site) ra)
    (rw (cut_line b (lines_text site) fb)
    (judged_then _ (line_judged (behind contexts_key (number_of (min 257 offsets))) (0 + length a + 1) b (lines_text site) rb)
    (judged_then _ (lines_judged (min 4096 codes) 0 (0 + length a + 1 + length b + 1) site) well))))
