-- The listing at the front of the lent text: its answer, the refusals before it, and zeros behind it.
use mathlib.Core.List.{List, ◌++◌, map}
use mathlib.Core.Path.{◌≡◌, refl, sym, ap, ap₂, subst, ◌∙◌}
use Prim.Native.Nat.{ℕ, ◌-◌, ◌*◌, ◌/◌, ◌≤◌, ◌<◌}
use native.Mathlib.Nat.{zero-add}
use native.Mathlib.Omega.{arith}
use lib.ListN.{length, take, replicate}
use lib.Seq.{take-length}
use Rattle.std.proofs.Common.{Result, Ok, Err}
use Rattle.std.specs.Result.{result_unwrap_or}
use Rattle.refusal.specs.declared.Refusal.{Refusal}
use borrow.Author.Tests.{lt-ltb, le-ltb}
use Rattle.site.specs.Measure.{in_use}
use Rattle.site.specs.Site.{Site, Pair, list_of}
use Rattle.words.specs.Words.{padded, zeroed_from, Begins}
use Rattle.entries.specs.Entries.{width, entry_of}
use Rattle.entries.specs.Listed.{entry_words}
use Rattle.entries.proofs.Listed.{entry_length, entries_back}
use Rattle.words.proofs.Words.{padded_front}
use Rattle.search.specs.Outcome.{listed_words}
use Rattle.pen.specs.declared.Pen.{Pen}
use Rattle.sheet.specs.Read.{Read, value, refused, ◌then◌}
use Rattle.sheet.specs.Reading.{read_sheet}
use Rattle.sheet.proofs.Tables.{front_fits}
use Rattle.listing.specs.Listing.{listing_lines, listing_text, joined, listed, listing_of, fitted, listing_in}
use Rattle.listing.specs.Answers.{listing_by, bytes_of}
use Rattle.listing.specs.Inside.{room_for_list, SheetJoined, entries_in, Put, PutText}
use Rattle.pen.specs.Lines.{front_pen}
use Rattle.pen.specs.Added.{Penned, On, Full, Added}
use Rattle.listing.specs.Calls.{Lists}
use Rattle.listing.proofs.Telling.{by_text, by_refused}
use Rattle.listing.proofs.Passing.{counts_refused, counted}
use Rattle.listing.specs.Answer.{Listing, listing_said}
use Rattle.listing.specs.Answer as listing
use Rattle.listing.specs.Joined.{Joined}
use Rattle.listing.specs.Joined as told

-- ---- the two ways of a text

-- a refusal
put_refused : {x : Read (List ℕ)} {n p : ℕ} (now : List ℕ) → x ≡ refused n p → Put x now (listing.Refused n p)
unfolding listing_by bytes_of
put_refused now e = record { answer = rw e; front = rw e }

module _ {bs old now : List ℕ} {r : Penned} (w : Added bs old now (front_pen old) r) where
  -- 12
  pub put_full : r ≡ Full → PutText bs old now (listing.Refused 12 0)
  unfolding fitted
  put_full e = put_refused now (rw (lt-ltb (length old) (length bs) (w.full e)))

  -- the text
  pub put_text : {q : Pen} → r ≡ On q → PutText bs old now (listing.Text q.place)
  unfolding fitted listing_by bytes_of
  put_text {q} e =
      let h = w.on q e in
      let p : q.place ≡ length bs = h.place ∙ zero-add (length bs) in
      let x : fitted (length old) bs ≡ value bs = rw (le-ltb (length old) (length bs) (omega (arith, h.fits, h.long))) in
      record { answer = rw (x, p); front = rw x (ap (λ (n : ℕ). take n now) (sym p) ∙ h.front) }

-- ---- the listing of a sheet

-- the entries of pairs, from the part of a list that their words fill
part_entries : (site : Site) (pairs : List Pair) (list : List ℕ) {f : ℕ} → f ≡ length pairs → Begins list (entry_words site pairs)
    → entries_in (take (width * f) list) ≡ map (entry_of site) pairs
part_entries site pairs list {f} q h =
    let ws = entry_words site pairs in
    let l : width * f ≡ length ws = omega (arith, entry_length site pairs) in
    let p : take (width * f) list ≡ ws = rw l h in
    let n : length ws / width ≡ f = omega (arith, l) in
    rw (p, n) (entries_back site pairs ws q (take-length ws))

module _ (sheet : List ℕ) (room : ℕ) where
  -- 11, before all else
  pub put_long : 24576 < length sheet → (now : List ℕ) → Put (listing_in room sheet) now (listing.Refused 11 24576)
  unfolding listing_in listing_of listed
  put_long h now = put_refused now (rw (lt-ltb 24576 (length sheet) h))

  module _ (h : length sheet ≤ 24576) {list : List ℕ} {j : Joined} (t : SheetJoined (read_sheet 257 4096 sheet then joined) list j) where
    -- the reader and the join go on
    listed_is : listed sheet ≡ (read_sheet 257 4096 sheet then joined)
    unfolding listed
    listed_is = rw (le-ltb 24576 (length sheet) h)

    -- what the reader or the join refuses
    pub put_told : {n p : ℕ} → j ≡ told.Refused n p → (now : List ℕ) → Put (listing_in room sheet) now (listing.Refused n p)
    unfolding listing_in listing_of
    put_told e now = put_refused now (rw (listed_is, counts_refused _ (sym t.answer ∙ e)))

    -- what the counts and the entries are written for
    pub put_counts : {k f e m : ℕ} → j ≡ told.Counts k f e m → {now : List ℕ} {r : Listing}
        → Put (fitted room (listing_lines k f e m (entries_in (take (width * f) list)))) now r → Put (listing_in room sheet) now r
    unfolding listing_in listing_of listing_text
    put_counts {k} {f} {e} {m} q {now} {r} w =
        let c = counted _ (sym t.answer ∙ q) in
        let s = c.sheet in
        let b = part_entries s.site (list_of in_use s.site s.k) list c.found (rw (t.held s c.is) (padded_front room_for_list (listed_words s.k s.site))) in
        let x : listing_lines k f e m (entries_in (take (width * f) list)) ≡ listing_text s.k s.site = λ i. listing_lines (c.asked i) (c.found i) (c.events i) (c.met i) (b i) in
        rw (listed_is, c.is) (subst (λ (l : List ℕ). Put (fitted room l) now r) x w)

-- ---- zeros behind it

-- the length of the text that an answer tells
text_length : (x : Read (List ℕ)) {n : ℕ} → listing_by x ≡ listing.Text n → n ≡ length (bytes_of x)
unfolding bytes_of
text_length x e = let b = by_text x e in rw b.1 b.2

-- after a refusal there is none
none_length : (x : Read (List ℕ)) {n p : ℕ} → listing_by x ≡ listing.Refused n p → 0 ≡ length (bytes_of x)
unfolding bytes_of
none_length x e = rw (by_refused x e)

-- so it is what a result tells, and 0 after a refusal
told_length : (x : Read (List ℕ)) (r : Result ℕ Refusal) → listing_said r ≡ listing_by x → result_unwrap_or r 0 ≡ length (bytes_of x)
told_length x (Ok n) e = text_length x (sym e)
told_length x (Err refusal) e = none_length x (sym e)

-- zeros behind the front
zeroed : {x : Read (List ℕ)} {mid : List ℕ} {r : Listing} → Put x mid r → {room : ℕ} → length mid ≡ room → {n : ℕ} → n ≡ length (bytes_of x)
    → {now : List ℕ} → now ≡ zeroed_from mid n → now ≡ padded room (bytes_of x)
unfolding padded
zeroed {mid = mid} w l e o = o ∙ ap₂ ◌++◌ (ap (λ (j : ℕ). take j mid) e ∙ w.front) (λ i. replicate (l i - e i) 0)

module _ {x : Read (List ℕ)} {mid : List ℕ} (r : Result ℕ Refusal) (w : Put x mid (listing_said r)) {n : ℕ} (e : n ≡ result_unwrap_or r 0) where
  -- the text is within the lent text
  pub put_room : n ≤ length mid
  put_room = omega (arith, told_length x r w.answer, front_fits (length (bytes_of x)) mid (bytes_of x) w.front refl)

-- behind a text, and everywhere after a refusal
pub listing_done : {sheet text mid now : List ℕ} (r : Result ℕ Refusal) → Put (listing_in (length text) sheet) mid (listing_said r) → length mid ≡ length text
    → {n : ℕ} → n ≡ result_unwrap_or r 0 → now ≡ zeroed_from mid n → Lists sheet text (listing_said r) now
listing_done r w l e o = record { answer = w.answer; text_is = zeroed w l (e ∙ told_length _ r w.answer) o }
