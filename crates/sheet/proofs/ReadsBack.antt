-- What is written is read back: the text of k and a site, read with room for it, is k and the site.
use mathlib.Core.Path.{◌≡◌, refl, ap, ◌∙◌}
use mathlib.Core.List.{List, [], ◌∷◌, ◌++◌, map, append_assoc}
use Prim.Native.Nat.{ℕ, suc, ◌+◌, ◌≤◌, ◌<◌, min}
use native.Mathlib.Nat.{add-zero}
use native.Mathlib.Omega.{arith}
use borrow.Author.Tests.{eq-eqb, ne_eqb, lt-ltb}
use lib.ListN.{length, length-append}
use Rattle.sheet.specs.Read.{Read, value}
use Rattle.sheet.specs.Number.{digits_of, number_of}
use Rattle.sheet.specs.Pieces.{split, on_first}
use Rattle.sheet.specs.Text.{k_key, contexts_key, c_key, codes_text, line_text, lines_text, sheet_text}
use Rattle.sheet.specs.Reading.{behind, room_after, codes_read, context_of, line, nothing, lines_of, read_sheet}
use Rattle.site.specs.Tables.{all_codes}
pub use Rattle.sheet.specs.Fits.{SiteWords, SheetFits}
use Rattle.words.specs.Words.{Words16}
use Rattle.sheet.proofs.Pieces.{split_some}
use Rattle.sheet.proofs.Numerals.{Digital, good, number_digits}

-- no byte is b
abbrev pub Free : ℕ → List ℕ → Type 0
Free b [] = Unit {0}
Free b (x ∷ l) = (x ≡ b → ⊥) × Free b l

pub free_append : (b : ℕ) (l m : List ℕ) → Free b l → Free b m → Free b (l ++ m)
free_append b [] m f g = g
free_append b (x ∷ l) m f g = (f.0, free_append b l m f.1 g)

digital_free : (b : ℕ) (l : List ℕ) → b < 48 → Digital l → Free b l
digital_free b [] h d = tt
digital_free b (x ∷ l) h d = (λ e. omega (arith, d.0.0), digital_free b l h d.1)

pub digits_free : (b n : ℕ) → b < 48 → Free b (digits_of n)
digits_free b n h = digital_free b (digits_of n) h (good n).digital

split_free : (b : ℕ) (l : List ℕ) → Free b l → split b l ≡ l ∷ []
unfolding split on_first
split_free b [] f = refl
split_free b (x ∷ l) f = rw (ne_eqb x b f.0, split_free b l f.1)

pub split_cut : (b : ℕ) (l t : List ℕ) → Free b l → split b (l ++ b ∷ t) ≡ l ∷ split b t
unfolding split on_first
split_cut b [] t f = rw (eq-eqb b b refl)
split_cut b (x ∷ l) t f = rw (ne_eqb x b f.0, split_cut b l t f.1)

pub words_of : (n : ℕ) (ns : List ℕ) → split 32 (codes_text (n ∷ ns)) ≡ map digits_of (n ∷ ns)
unfolding codes_text
words_of n [] = split_free 32 (digits_of n) (digits_free 32 n (omega arith))
words_of n (m ∷ ns) = split_cut 32 (digits_of n) (codes_text (m ∷ ns)) (digits_free 32 n (omega arith)) ∙ ap (λ (l : List (List ℕ)). digits_of n ∷ l) (words_of m ns)

codes_read_lem : (most used at : ℕ) (cs : List ℕ) → Words16 cs → used + length cs ≤ most → codes_read most used at (map digits_of cs) ≡ value cs
unfolding codes_read
codes_read_lem most used at [] w h = refl
codes_read_lem most used at (n ∷ ns) w h =
    let l : used < most = omega arith in
    let r : room_after most used ≡ 65536 = rw (lt-ltb used most l) in
    rw (r, number_digits 65536 at n w.0 (omega (arith, w.0)), codes_read_lem most (suc used) (at + length (digits_of n) + 1) ns w.1 (omega arith))

pub context_some : (most used at : ℕ) (l : List ℕ) → 0 < length l → context_of most used at l ≡ codes_read most used at (split 32 l)
unfolding context_of
context_some most used at [] h = absurd (omega arith)
context_some most used at (b ∷ l) h = refl

pub codes_length : (n : ℕ) (ns : List ℕ) → 0 < length (codes_text (n ∷ ns))
unfolding codes_text
codes_length n [] = (good n).some
codes_length n (m ∷ ns) = rw length-append (omega (arith, (good n).some))

pub context_read : (most used at : ℕ) (cs : List ℕ) → Words16 cs → used + length cs ≤ most → context_of most used at (codes_text cs) ≡ value cs
unfolding context_of codes_text
context_read most used at [] w h = refl
context_read most used at (n ∷ ns) w h = context_some most used at (codes_text (n ∷ ns)) (codes_length n ns) ∙ rw (words_of n ns) (codes_read_lem most used at (n ∷ ns) w h)

pub codes_free : (cs : List ℕ) → Free 10 (codes_text cs)
unfolding codes_text
codes_free [] = tt
codes_free (n ∷ []) = digits_free 10 n (omega arith)
codes_free (n ∷ m ∷ ns) = free_append 10 (digits_of n) (32 ∷ codes_text (m ∷ ns)) (digits_free 10 n (omega arith)) (λ e. omega arith, codes_free (m ∷ ns))

pub behind_key : {A : Type 0} (key : List ℕ) (read : ℕ → List ℕ → Read A) (at : ℕ) (l : List ℕ) → behind key read at (key ++ l) ≡ read (at + length key) l
unfolding behind
behind_key [] read at l = rw add-zero
behind_key (x ∷ key) read at l = let e : suc at + length key ≡ at + suc (length key) = omega arith in rw (eq-eqb x x refl, ← e) (behind_key key read (suc at) l)

-- a line that is read, with more behind its byte 10
pub line_first : {A : Type 0} (read : ℕ → List ℕ → Read A) (at : ℕ) (l t : List ℕ) {v : A} → read at l ≡ value v
    → line read at (l ∷ split 10 t) ≡ value (record { got = v; next = at + length l + 1; lines = split 10 t })
unfolding line
line_first read at l t e = let m = split_some 10 t in rw (m.2, e)

pub cut_line : (l t : List ℕ) → Free 10 l → split 10 (l ++ (10 ∷ []) ++ t) ≡ l ∷ split 10 t
cut_line l t f = ap (split 10) (append_assoc l (10 ∷ []) t) ∙ split_cut 10 l t f

lines_read : (most used at : ℕ) (site : List (List ℕ)) → SiteWords site → used + length (all_codes site) ≤ most
    → lines_of most (length site) used at (split 10 (lines_text site)) ≡ value site
unfolding lines_of lines_text line_text nothing split all_codes
lines_read most used at [] w h = refl
lines_read most used at (c ∷ site) w h =
    let k = rw length-append at h in
    let l = c_key ++ codes_text c in
    let f : Free 10 l = (λ e. omega arith, (λ e. omega arith, codes_free c)) in
    let r : behind c_key (context_of most used) at l ≡ value c = behind_key c_key (context_of most used) at (codes_text c) ∙ context_read most used (at + 2) c w.0 (omega arith) in
    rw (cut_line l (lines_text site) f, line_first (behind c_key (context_of most used)) at l (lines_text site) r, lines_read most (used + length c) (at + length l + 1) site w.1 (omega arith))

pub free_key : Free 10 contexts_key
free_key = (λ e. omega arith, (λ e. omega arith, (λ e. omega arith, (λ e. omega arith, (λ e. omega arith, (λ e. omega arith, (λ e. omega arith, (λ e. omega arith, (λ e. omega arith, tt)))))))))

pub reads_back : {offsets codes k : ℕ} {site : List (List ℕ)} → SheetFits offsets codes k site → read_sheet offsets codes (sheet_text k site) ≡ value (record { k = k; site = site })
unfolding read_sheet sheet_text line_text codes_text
reads_back {offsets} {codes} {k} {site} F =
    let a = k_key ++ digits_of k in
    let b = contexts_key ++ digits_of (length site) in
    let fa : Free 10 a = free_append 10 k_key (digits_of k) (λ e. omega arith, (λ e. omega arith, tt)) (digits_free 10 k (omega arith)) in
    let fb : Free 10 b = free_append 10 contexts_key (digits_of (length site)) free_key (digits_free 10 (length site) (omega arith)) in
    let ra : behind k_key (number_of 65536) 0 a ≡ value k = behind_key k_key (number_of 65536) 0 (digits_of k) ∙ number_digits 65536 _ k F.k_word (omega (arith, F.k_word)) in
    let rb : behind contexts_key (number_of (min 257 offsets)) (0 + length a + 1) b ≡ value (length site) = behind_key contexts_key (number_of (min 257 offsets)) (0 + length a + 1) (digits_of (length site)) ∙ number_digits (min 257 offsets) _ (length site) (omega (arith, F.contexts)) F.contexts in
    let cut : split 10 (sheet_text k site) ≡ a ∷ split 10 (b ++ (10 ∷ []) ++ lines_text site) = ap (split 10) (append_assoc (a ++ (10 ∷ [])) (b ++ (10 ∷ [])) (lines_text site)) ∙ cut_line a (b ++ (10 ∷ []) ++ lines_text site) fa in
    rw (
      cut,
      line_first (behind k_key (number_of 65536)) 0 a (b ++ (10 ∷ []) ++ lines_text site) ra,
      cut_line b (lines_text site) fb,
      line_first (behind contexts_key (number_of (min 257 offsets))) (0 + length a + 1) b (lines_text site) rb,
      lines_read (min 4096 codes) 0 (0 + length a + 1 + length b + 1) site F.words (omega (arith, F.room)),
    )
