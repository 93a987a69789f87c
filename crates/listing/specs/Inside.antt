-- What the functions below the calls leave: the counts and the list of a sheet that is joined, and a listing at the front of a text.
use Rattle.std.specs.Prelude.{List, ◌≡◌, ℕ, ◌*◌, ◌/◌, length}
use Rattle.site.specs.Measure.{in_use}
use Rattle.site.specs.Events.{found, events, met}
use Rattle.site.specs.Tables.{offsets_of, all_codes}
use Rattle.words.specs.Words.{padded, Begins}
use Rattle.entries.specs.declared.Entry.{Entry}
use Rattle.entries.specs.Entries.{width, entries}
use Rattle.search.specs.Outcome.{listed_words}
use Rattle.sheet.specs.Read.{Read, value, refused}
use Rattle.sheet.specs.Reading.{Sheet}
use Rattle.listing.specs.Answer.{Listing}
use Rattle.listing.specs.Joined.{Joined}
use Rattle.listing.specs.Joined as told
use Rattle.listing.specs.Listing.{joined, fitted}
use Rattle.listing.specs.Answers.{listing_by, bytes_of}

-- the words of the lent list: 64 entries
abbrev pub room_for_list : ℕ
room_for_list = 64 * width

-- k and the three counts of a sheet that is joined, or the refusal
unfoldable pub counts_of : Read Sheet → Joined
counts_of (value s) = told.Counts s.k (found in_use s.site s.k) (events in_use s.site s.k) (met in_use s.site s.k)
counts_of (refused n p) = told.Refused n p

-- what is joined, x: the counts, and the list in its buffer
pub record SheetJoined (x : Read Sheet) (list : List ℕ) (r : Joined) : Type 0 where
  pub answer : r ≡ counts_of x
  pub held : (s : Sheet) → x ≡ value s → list ≡ padded room_for_list (listed_words s.k s.site)

-- the same of a site whose tables are lent
abbrev pub TablesJoined : ℕ → List ℕ → List ℕ → List ℕ → Joined → Type 0
TablesJoined k offsets codes list r =
    (s : Sheet) → k ≡ s.k → offsets ≡ offsets_of s.site → codes ≡ all_codes s.site → SheetJoined (joined s) list r

-- the entries whose words a list is made of
abbrev pub entries_in : List ℕ → List Entry
entries_in list = entries (length list / width) list

-- a listing, x: the answer, and the bytes at the front of the lent text
pub record Put (x : Read (List ℕ)) (now : List ℕ) (r : Listing) : Type 0 where
  pub answer : r ≡ listing_by x
  pub front : Begins now (bytes_of x)

-- the same of a text that is written into old, if it has room there
abbrev pub PutText : List ℕ → List ℕ → List ℕ → Listing → Type 0
PutText text old now r = Put (fitted (length old) text) now r
