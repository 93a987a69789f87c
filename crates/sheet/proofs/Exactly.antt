-- A number that is over what can be there, behind numbers in range, is refused: the sheet as a whole.
use mathlib.Core.Path.{◌≡◌, ◌∙◌}
use mathlib.Core.List.{List, [], ◌∷◌, ◌++◌, append_assoc}
use Prim.Native.Nat.{ℕ, ◌+◌, ◌≤◌, ◌<◌, min}
use native.Mathlib.Omega.{arith}
use lib.ListN.{length, length-append}
use Rattle.site.specs.Tables.{all_codes}
use Rattle.sheet.specs.Read.{value, refused}
use Rattle.sheet.specs.Number.{digits_of, digits_in, number_of}
use Rattle.sheet.specs.Pieces.{split}
use Rattle.sheet.specs.Text.{k_key, contexts_key, c_key, codes_text, line_text, number_text, lines_text}
use Rattle.sheet.specs.Reading.{behind, line, read_sheet}
use Rattle.sheet.specs.Meaning.{Which, of_k, of_contexts, of_code, spaced, text_before, InRange}
use Rattle.sheet.proofs.Numerals.{number_digits}
use Rattle.sheet.proofs.ReadsBack.{Free, free_append, digits_free, free_key, cut_line, behind_key, line_first}
use Rattle.sheet.proofs.Over.{Over}
use Rattle.sheet.proofs.NumberPlace.{room_at, five, five_length}
use Rattle.sheet.proofs.Forward.{number_line_refuses, lines_refuse}

-- a line of a number in range is read
number_line_reads : (key : List ℕ) (room at n : ℕ) (t : List ℕ) → Free 10 key → n ≤ 65535 → n < room
    → line (behind key (number_of room)) at (split 10 (number_text key n ++ t)) ≡ value (record { got = n; next = at + length (number_text key n); lines = split 10 t })
unfolding line_text codes_text
number_line_reads key room at n t f w h =
    let a = key ++ digits_of n in
    let q : at + length a + 1 ≡ at + length (a ++ (10 ∷ [])) = omega (arith, length-append a (10 ∷ [])) in
    rw (
      cut_line a t (free_append 10 key (digits_of n) f (digits_free 10 n (omega arith))),
      line_first (behind key (number_of room)) at a t (behind_key key (number_of room) at (digits_of n) ∙ number_digits room (at + length key) n w h),
      q,
    )

k_free : Free 10 k_key
k_free = (λ e. omega arith, (λ e. omega arith, tt))

module _ (offsets codes : ℕ) where
  pub refuses : (x : Which) (r : List ℕ) {n : ℕ} → InRange offsets codes x → Over (room_at offsets codes x) n (digits_in r) → read_sheet offsets codes (text_before x ++ r) ≡ refused n (length (text_before x))
  unfolding read_sheet text_before room_at
  refuses of_k r i o = rw (number_line_refuses k_key 65536 0 r k_free o)
  refuses (of_contexts k) r i o =
      let a = number_text k_key k in
      let p : 0 + length a + length contexts_key ≡ length (a ++ contexts_key) = omega (arith, length-append a contexts_key) in
      rw (append_assoc a contexts_key r, number_line_reads k_key 65536 0 k (contexts_key ++ r) k_free i (omega arith), number_line_refuses contexts_key (min 257 offsets) (0 + length a) r free_key o, p)
  refuses (of_code k m site cs) r i o =
      let a = number_text k_key k in
      let b = number_text contexts_key m in
      let t = lines_text site ++ (c_key ++ (spaced cs ++ r)) in
      let q : length (all_codes site) + length cs ≡ 0 + length (all_codes site) + length cs = omega arith in
      let p : 0 + length a + length b + length (lines_text site) + 2 + length (spaced cs) ≡ length (a ++ b ++ lines_text site ++ c_key ++ spaced cs) = omega (arith, five_length a b (lines_text site) c_key (spaced cs)) in
      rw (
        five a b (lines_text site) c_key (spaced cs) r,
        number_line_reads k_key 65536 0 k (b ++ t) k_free i.0 (omega (arith, i.0)),
        number_line_reads contexts_key (min 257 offsets) (0 + length a) m t free_key (omega (arith, i.1)) i.1,
        lines_refuse (min 4096 codes) m 0 (0 + length a + length b) site cs r i.2 i.3 i.4 (omega (arith, i.5)) (rw q at o),
        p,
      )
