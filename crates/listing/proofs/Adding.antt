-- A line an entry behind a pen: `Added` for the entries of a list.
use mathlib.Core.List.{List, [], ◌∷◌, ◌++◌}
use mathlib.Core.Path.{◌≡◌, refl, sym, ap, subst, ◌∙◌}
use Prim.Native.Nat.{ℕ, ◌+◌, ◌-◌, ◌*◌, ◌/◌, ◌≤◌, ◌<◌}
use native.Mathlib.Omega.{arith}
use lib.ListN.{length, get_or, take, drop, length-append, length-drop}
use lib.Seq.{take_at, drop-drop, drop-append_seam}
use Rattle.words.specs.Words.{flat}
use Rattle.words.proofs.Words.{flat_append, flat_one}
use Rattle.entries.specs.declared.Entry.{Entry}
use Rattle.entries.specs.Entries.{width, words, entry_at, entries}
use Rattle.entries.proofs.Reading.{length_entries, entry_words_lem, entries_at}
use Rattle.sheet.specs.Text.{line_text}
use Rattle.pen.specs.declared.Pen.{Pen}
use Rattle.pen.specs.Lines.{Fits}
use Rattle.pen.specs.Added.{Penned, On, Full, Added, LinedIf}
use Rattle.pen.proofs.Added.{added_on, line_added, grown_next, grown_full}
use Rattle.pen.proofs.Grown.{Grows}
use Rattle.pen.proofs.Past.{Grown, grown_start, grown_end}
use Rattle.listing.specs.Inside.{entries_in}
use Rattle.listing.specs.Listing.{pair_key, entry_text, entries_text}

-- more entries are more lines
pub entries_grow : Grows entries_text (λ i. entry_text)
unfolding entries_text flat
entries_grow = record { none = refl; snoc = λ es e. flat_append entry_text es (e ∷ []) ∙ ap (λ (t : List ℕ). entries_text es ++ t) (flat_one entry_text e) }

-- the line of an entry is that of its words in the list
entry_line : (ws : List ℕ) (n i : ℕ) (d : Entry) → i < n → width * n ≤ length ws → line_text pair_key (take width (drop (width * i) ws)) ≡ entry_text (get_or (entries n ws) i d)
unfolding entry_text
entry_line ws n i d h l =
    let e : entry_at ws (width * i) ≡ get_or (entries n ws) i d = sym (entries_at ws n i d h) in
    ap (line_text pair_key) (sym (entry_words_lem ws (width * i) (omega arith))) ∙ ap (λ (x : Entry). line_text pair_key (words x)) e

-- the lines of i entries of the list are written, the pen q is behind them, and the words left are cut into parts of so many
pub record Rows (list rest : List ℕ) (size i : ℕ) (old now : List ℕ) (p q : Pen) : Type 0 where
  pub wide : size ≡ width
  pub left : rest ≡ drop (width * i) list
  pub grown : Grown entries_text (entries_in list) old now p q i

-- nothing is written yet
pub rows_start : (list : List ℕ) {rest : List ℕ} {size : ℕ} {old : List ℕ} {p : Pen} → rest ≡ list → size ≡ width → Fits p old → Rows list rest size 0 old old p p
rows_start list r e f = record { wide = e; left = r; grown = grown_start entries_grow (entries_in list) f }

module _ {list rest : List ℕ} {size i : ℕ} {old mid : List ℕ} {p q : Pen} (f : Fits p old) (g : Rows list rest size i old mid p q) where
  -- so many words are left
  left_long : length rest ≡ length list - width * i
  left_long = ap length g.left ∙ length-drop (width * i) list

  -- the next part is an entry's, and a line has the whole part
  module _ (part left : List ℕ) (e : rest ≡ part ++ left) (l : length part ≡ size) {line : List ℕ} (same : line ≡ part) {now : List ℕ} {r : Penned} (w : LinedIf (line_text pair_key line) mid now q r) where
    abbrev d : Entry
    d = entry_at list 0

    long : length part ≡ width
    long = l ∙ g.wide

    inside : i < length (entries_in list)
    inside = omega (arith, left_long, ap length e, length-append part left, long, length_entries list 0 (length list / width))

    cut : part ≡ take width (drop (width * i) list)
    cut = sym (take_at part left width long) ∙ ap (take width) (sym e ∙ g.left)

    added : Added (entry_text (get_or (entries_in list) i d)) mid now q r
    added = subst (λ (t : List ℕ). Added t mid now q r) (ap (line_text pair_key) (same ∙ cut) ∙ entry_line list (length list / width) i d (omega (arith, inside, length_entries list 0 (length list / width))) (omega arith)) (line_added g.grown.past.fits w)

    -- one line more
    pub rows_next : {n j : ℕ} → n ≡ size → j ≡ i + 1 → {z : Pen} → r ≡ On z → Rows list left n j old now p z
    rows_next {n} {j} m k z = record {
      wide = m ∙ g.wide;
      left = sym (drop-append_seam part left) ∙ ap (λ (n : ℕ). drop n (part ++ left)) long ∙ ap (drop width) (sym e ∙ g.left) ∙ drop-drop width (width * i) list ∙ ap (λ (n : ℕ). drop n list) (omega arith);
      grown = rw k (grown_next entries_grow d f g.grown inside added z);
    }

    -- no room for it
    pub rows_full : r ≡ Full → Added (entries_text (entries_in list)) old now p Full
    rows_full = grown_full entries_grow d f g.grown inside added

  -- no entry is left
  pub rows_end : length rest < size → Added (entries_text (entries_in list)) old mid p (On q)
  rows_end h = added_on (grown_end g.grown (omega (arith, h, g.wide, left_long, length_entries list 0 (length list / width))))
