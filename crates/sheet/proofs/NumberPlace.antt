-- The number at which a sheet is refused with 10 or 11: which one it is, what stands before it, and that its digits are over what can be there.
use mathlib.Core.Path.{◌≡◌, sym, ap, ◌∙◌}
use mathlib.Core.List.{List, [], ◌∷◌, ◌++◌, append_assoc}
use Prim.Native.Nat.{ℕ, ◌+◌, ◌≤◌, ◌<◌, min, zero-le}
use native.Mathlib.Omega.{arith}
use lib.ListN.{length, length-append}
use Rattle.site.specs.Tables.{all_codes}
use Rattle.sheet.specs.Read.{value, refused}
use Rattle.sheet.specs.Number.{digits_of, digits_in, number_of}
use Rattle.sheet.specs.Pieces.{split}
use Rattle.sheet.specs.Text.{k_key, contexts_key, c_key, codes_text, line_text, number_text, lines_text}
use Rattle.sheet.specs.Reading.{behind, room_after, Line, line, lines_of, read_sheet}
use Rattle.sheet.specs.Meaning.{Which, of_k, of_contexts, of_code, spaced, text_before, InRange}
use Rattle.sheet.proofs.Refusal.{then_refused}
use Rattle.sheet.proofs.Lines.{no_value, ReadSmall}
use Rattle.sheet.proofs.WritesBack.{rejoined, split_join, line_written, number_written}
use Rattle.sheet.proofs.Accepted.{number_fits}
use Rattle.sheet.proofs.Follows.{number_follows, behind_written}
use Rattle.sheet.proofs.LinesOver.{LinesOver, lines_over}
use Rattle.sheet.proofs.Over.{Over, number_over, behind_over, line_over}

-- the room for a number: it is to be below
unfoldable pub room_at : ℕ → ℕ → Which → ℕ
room_at offsets codes of_k = 65536
room_at offsets codes (of_contexts k) = min 257 offsets
room_at offsets codes (of_code k n site cs) = room_after (min 4096 codes) (length (all_codes site) + length cs)

pub record NumberFound (offsets codes n p : ℕ) (s : List ℕ) : Type 0 where
  pub x : Which
  pub rest : List ℕ
  pub whole : s ≡ text_before x ++ rest
  pub place : p ≡ length (text_before x)
  pub before : InRange offsets codes x
  pub over : Over (room_at offsets codes x) n (digits_in rest)

-- a line of a number, read
number_line_lem : (key : List ℕ) (room at : ℕ) (ls : List (List ℕ)) {x : Line ℕ} → line (behind key (number_of room)) at ls ≡ value x
    → (rejoined 10 ls ≡ number_text key x.got ++ rejoined 10 x.lines) × (x.next ≡ at + length (number_text key x.got)) × ReadSmall room x.got
unfolding line_text codes_text
number_line_lem key room at ls {x} f =
    let a = line_written (behind key (number_of room)) at ls f in
    let w = behind_written (number_follows room) key at a.0 a.1 in
    (number_written key room at ls f, a.3 ∙ rw (w, length-append (key ++ digits_of x.got) (10 ∷ [])) (omega arith), number_fits key room at ls f)

-- and refused
number_line_over : (key : List ℕ) (room at : ℕ) (ls : List (List ℕ)) {n p : ℕ} → line (behind key (number_of room)) at ls ≡ refused n p → (n ≡ 9 → ⊥)
    → (rest : List ℕ) × (rejoined 10 ls ≡ key ++ rest) × (p ≡ at + length key) × Over room n (digits_in rest)
number_line_over key room at ls f h =
    let a = line_over (behind key (number_of room)) at ls f h in
    let b = behind_over key (number_of room) at a.0 a.4 h in
    let o = number_over room (at + length key) b.0 b.2 h in
    (b.0 ++ a.1, a.2 ∙ ap (λ (l : List ℕ). l ++ a.1) b.1 ∙ append_assoc key b.0 a.1, o.0, rw (a.3 b.0) o.1)

pub five : (a b c d e r : List ℕ) → a ++ b ++ c ++ d ++ e ++ r ≡ a ++ (b ++ (c ++ (d ++ (e ++ r))))
five a b c d e r = append_assoc (a ++ b ++ c ++ d) e r ∙ append_assoc (a ++ b ++ c) d (e ++ r) ∙ append_assoc (a ++ b) c (d ++ (e ++ r)) ∙ append_assoc a b (c ++ (d ++ (e ++ r)))

pub five_length : (a b c d e : List ℕ) → length (a ++ b ++ c ++ d ++ e) ≡ length a + length b + length c + length d + length e
five_length a b c d e = rw (length-append (a ++ b ++ c ++ d) e, length-append (a ++ b ++ c) d, length-append (a ++ b) c, length-append a b)

module _ (offsets codes : ℕ) where
  found_k : (s : List ℕ) {n p : ℕ} → (rest : List ℕ) × (s ≡ k_key ++ rest) × (p ≡ 0 + length k_key) × Over 65536 n (digits_in rest) → NumberFound offsets codes n p s
  unfolding text_before room_at
  found_k s o = record { x = of_k; rest = o.0; whole = o.1; place = omega (arith, o.2); before = tt; over = o.3 }

  found_contexts : (s t : List ℕ) (k q : ℕ) {n p : ℕ} → k ≤ 65535 → s ≡ number_text k_key k ++ t → q ≡ 0 + length (number_text k_key k)
      → (rest : List ℕ) × (t ≡ contexts_key ++ rest) × (p ≡ q + length contexts_key) × Over (min 257 offsets) n (digits_in rest) → NumberFound offsets codes n p s
  unfolding text_before room_at
  found_contexts s t k q v e f o =
      record {
        x = of_contexts k;
        rest = o.0;
        whole = e ∙ rw o.1 (sym (append_assoc (number_text k_key k) contexts_key o.0));
        place = omega (arith, o.2, length-append (number_text k_key k) contexts_key);
        before = v;
        over = o.3;
      }

  found_code : (s t u : List ℕ) (k q m r : ℕ) {n p : ℕ} → k ≤ 65535 → m < min 257 offsets → s ≡ number_text k_key k ++ t → q ≡ 0 + length (number_text k_key k) → t ≡ number_text contexts_key m ++ u → r ≡ q + length (number_text contexts_key m)
      → LinesOver (min 4096 codes) m 0 n r p u → NumberFound offsets codes n p s
  unfolding text_before room_at
  found_code s t u k q m r v w e f g h o =
      let a = number_text k_key k in
      let b = number_text contexts_key m in
      let z : 0 + length (all_codes o.site) + length o.cs ≡ length (all_codes o.site) + length o.cs = omega arith in
      record {
        x = of_code k m o.site o.cs;
        rest = o.rest;
        whole = e ∙ rw (g, o.whole) (sym (five a b (lines_text o.site) c_key (spaced o.cs) o.rest));
        place = omega (arith, o.place, five_length a b (lines_text o.site) c_key (spaced o.cs));
        before = (v, w, o.more, o.site_words, o.words, omega (arith, o.fits));
        over = rw (← z) o.over;
      }

  pub found : (s : List ℕ) {n p : ℕ} → read_sheet offsets codes s ≡ refused n p → (n ≡ 9 → ⊥) → NumberFound offsets codes n p s
  unfolding read_sheet
  found s {n} {p} e h =
      then_refused (line (behind k_key (number_of 65536)) 0 (split 10 s)) _ e
      (λ f. found_k s (rw (split_join 10 s) at (number_line_over k_key 65536 0 (split 10 s) f h)))
      (λ k f g. let a = number_line_lem k_key 65536 0 (split 10 s) f in let w = sym (split_join 10 s) ∙ a.0 in
      then_refused (line (behind contexts_key (number_of (min 257 offsets))) k.next k.lines) _ g
      (λ r. found_contexts s (rejoined 10 k.lines) k.got k.next a.2.few w a.1 (number_line_over contexts_key (min 257 offsets) k.next k.lines r h))
      (λ c r z. let b = number_line_lem contexts_key (min 257 offsets) k.next k.lines r in
      then_refused (lines_of (min 4096 codes) c.got 0 c.next c.lines) _ z
      (λ i. found_code s (rejoined 10 k.lines) (rejoined 10 c.lines) k.got k.next c.got c.next a.2.few b.2.fits w a.1 b.0 b.1 (lines_over (min 4096 codes) c.got 0 c.next c.lines i h zero-le))
      (λ y i j. no_value (sym j))))
