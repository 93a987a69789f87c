-- A listing never has more than 2,048 bytes, and a refusal's number and place fit the words of its line: so the program never runs out of room.
-- The bounds are crude: an entry's number has at most four digits, any other at most five.
use mathlib.Core.List.{List, [], ◌∷◌, map}
use mathlib.Core.List.Memᴰ.{head as here}
use mathlib.Core.List.Memᴰ.{tail as there}
use mathlib.Core.Path.{◌≡◌, refl, ap, subst}
use Prim.Native.Nat.{ℕ, suc, ◌+◌, ◌*◌, ◌/◌, ◌≤◌, ◌<◌}
use native.Mathlib.Nat.{le_of_eq, mul-suc}
use native.Mathlib.Omega.{arith}
use lib.ListN.{length, length-append}
use borrow.Author.Tests.{lt-ltb, le-ltb}
use Rattle.order.specs.Order.{◌∈◌}
use Rattle.site.specs.Measure.{in_use}
use Rattle.site.specs.Site.{Site, Rising, Pair, Shares, size_of, codes_of, union, first_code_of, list_of}
use Rattle.site.specs.Events.{found, events, met}
use Rattle.site.specs.Tables.{site_of, offsets_of, all_codes}
use Rattle.site.proofs.Contexts.{first_bound}
use Rattle.site.proofs.Best.{list_shares}
use Rattle.words.specs.Words.{flat}
use Rattle.words.proofs.Split.{by_le}
use Rattle.tables.proofs.Cuts.{site_back}
use Rattle.tables.proofs.Sound.{contexts_are, size_small, first_small, sound_rises}
use Rattle.entries.specs.Entries.{width, words, entry_of}
use Rattle.sheet.specs.Read.{value}
use Rattle.sheet.specs.Number.{digits_of}
use Rattle.sheet.specs.Text.{k_key, codes_text, line_text}
use Rattle.sheet.specs.Reading.{Sheet, read_sheet}
use Rattle.sheet.proofs.Digits.{length_one, length_more}
use Rattle.sheet.proofs.Lines.{no_value, then_value}
use Rattle.pen.proofs.Lined.{line_length}
use Rattle.listing.specs.Listing.{found_key, events_key, met_key, pair_key, entry_text, entries_text, counts_text, listing_text, listed, listing_of}
use Rattle.listing.proofs.Passing.{Passed, joined_passed, found_few, events_most}

-- ---- numbers, lines

-- a number below ten times as much has one digit more
shorter : (j b : ℕ) → ((m : ℕ) → m < b → length (digits_of m) ≤ j) → (n : ℕ) → n < 10 * b → length (digits_of n) ≤ j + 1
shorter j b h n l = by_le 10 n (λ k. omega (arith, length_more n k, h (n / 10) (omega arith))) (λ k. omega (arith, length_one n k))

-- below 10,000 it has at most four digits, and as a word at most five
digits_four : (n : ℕ) → n < 10000 → length (digits_of n) ≤ 4
digits_four = shorter 3 1000 (shorter 2 100 (shorter 1 10 (λ m l. le_of_eq (length_one m l))))

pub digits_five : (n : ℕ) → n ≤ 65535 → length (digits_of n) ≤ 5
digits_five n h = shorter 4 10000 digits_four n (omega arith)

-- numbers of at most j digits
abbrev pub Digits : ℕ → List ℕ → Type 0
Digits j [] = Unit {0}
Digits j (n ∷ ns) = (length (digits_of n) ≤ j) × Digits j ns

-- each with the byte behind it
numbers_short : (j : ℕ) (ns : List ℕ) → Digits j ns → length (codes_text ns) ≤ suc j * length ns
unfolding codes_text
numbers_short j [] d = omega arith
numbers_short j (n ∷ []) d = omega (arith, d.0, mul-suc (suc j) 0)
numbers_short j (n ∷ m ∷ ns) d = rw length-append (omega (arith, d.0, numbers_short j (m ∷ ns) d.1, mul-suc (suc j) (suc (length ns))))

-- a line with its key and its end
pub line_short : (j : ℕ) (key ns : List ℕ) → Digits j ns → length (line_text key ns) ≤ length key + suc j * length ns + 1
line_short j key ns d = omega (arith, line_length key ns, numbers_short j ns d)

-- ---- the entries of the list

module _ {s : Sheet} (p : Passed s) where
  -- the site that its tables stand for
  abbrev tables : Site
  tables = site_of (offsets_of s.site) (all_codes s.site)

  -- its contexts rise
  rises : Rising s.site
  rises = subst Rising (site_back [] s.site) (sound_rises p.sound)

  -- they are at most 256
  contexts_few : length s.site ≤ 256
  contexts_few = omega (arith, contexts_are p.sound, p.sound.few, ap (λ (z : Site). length z) (site_back [] s.site))

  -- of at most 4,096 codes each
  size_few : (i : ℕ) → i < length s.site → size_of s.site i ≤ 4096
  size_few i h =
      let b = site_back [] s.site in
      let l : length tables ≡ length s.site = ap (λ (z : Site). length z) b in
      let z : size_of tables i ≡ size_of s.site i = ap (λ (z : Site). size_of z i) b in
      omega (arith, z, size_small p.sound i (omega (arith, l, contexts_are p.sound)))

  -- the first shared code of a pair is at most 4,095
  code_few : (q : Pair) → Shares s.site q → first_code_of s.site q < 4096
  code_few = subst (λ (z : Site). (q : Pair) → Shares z q → first_code_of z q < 4096) (site_back [] s.site) (first_small p.sound)

  -- so an entry's numbers have at most four digits
  entry_digits : (q : Pair) → Shares s.site q → Digits 4 (words (entry_of s.site q))
  unfolding union
  entry_digits q h =
      let few : (n : ℕ) → n < 10000 → length (digits_of n) ≤ 4 = digits_four in
      let a = size_few q.lower (omega (arith, h.rising, h.inside)) in
      let b = size_few q.higher h.inside in
      let c = first_bound (codes_of s.site q.lower) (codes_of s.site q.higher) in
      (few _ (omega (arith, h.rising, h.inside, contexts_few)), (few _ (omega (arith, h.inside, contexts_few)), (few _ (omega arith), (few _ (omega arith), (few _ (omega (arith, code_few q h)), tt)))))

  -- a pair's line: its key, five bytes a number, and its end
  abbrev row : ℕ
  row = length pair_key + 5 * width + 1

  pairs_short : (qs : List Pair) → ((q : Pair) → q ∈ qs → Shares s.site q) → length (entries_text (map (entry_of s.site) qs)) ≤ row * length qs
  unfolding entries_text flat entry_text
  pairs_short [] h = omega arith
  pairs_short (q ∷ qs) h =
      let w = line_short 4 pair_key (words (entry_of s.site q)) (entry_digits q (h q (here refl))) in
      rw length-append (omega (arith, w, pairs_short qs (λ r i. h r (there i))))

  -- ---- the whole text

  -- four lines, and one a pair
  text_short : length (listing_text s.k s.site) ≤ 2048
  unfolding listing_text counts_text
  text_short =
      let f = found_few p in
      let e = events_most p in
      let m = p.met in
      let k = p.asked in
      let a = line_short 5 k_key (s.k ∷ []) (digits_five _ (omega arith), tt) in
      let b = line_short 5 found_key (found in_use s.site s.k ∷ []) (digits_five _ (omega arith), tt) in
      let c = line_short 5 events_key (events in_use s.site s.k ∷ []) (digits_five _ (omega arith), tt) in
      let d = line_short 5 met_key (met in_use s.site s.k ∷ []) (digits_five _ (omega arith), tt) in
      let g = pairs_short (list_of in_use s.site s.k) (list_shares in_use s.site s.k) in
      rw (length-append, length-append, length-append, length-append) (omega arith)

-- what is listed passed
listed_passed : (sheet : List ℕ) {s : Sheet} → listed sheet ≡ value s → Passed s
unfolding listed
listed_passed sheet {s} e = by_le (length sheet) 24576
    (λ h. joined_passed (read_sheet 257 4096 sheet) (rw (le-ltb 24576 (length sheet) h) at e))
    (λ h. no_value (rw (lt-ltb 24576 (length sheet) h) at e))

-- so every listing is short
pub listing_short : (sheet : List ℕ) {text : List ℕ} → listing_of sheet ≡ value text → length text ≤ 2048
unfolding listing_of
listing_short sheet {text} e =
    let r = then_value (listed sheet) _ e in
    let q : listing_text r.0.k r.0.site ≡ text = cc r.2 in
    rw (← q) (text_short (listed_passed sheet r.1))
