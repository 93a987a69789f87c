-- The listing of a site sheet: its text, and the order of its refusals.
use Rattle.std.specs.Prelude.{cond, List, [], ◌∷◌, ◌++◌, map, ℕ, ltb, length}
use Rattle.site.specs.Measure.{in_use}
use Rattle.site.specs.Site.{Site, list_of}
use Rattle.site.specs.Events.{found, events, met}
use Rattle.site.specs.Tables.{offsets_of, all_codes}
use Rattle.words.specs.Words.{flat}
use Rattle.tables.specs.Checks.{tables_check}
use Rattle.tables.specs.Check.{Check}
use Rattle.tables.specs.Check.{Fine, Refused}
use Rattle.entries.specs.declared.Entry.{Entry}
use Rattle.entries.specs.Entries.{entry_of, words}
use Rattle.sheet.specs.Read.{Read, value, refused, ◌then◌}
use Rattle.sheet.specs.Text.{k_key, line_text}
use Rattle.sheet.specs.Reading.{Sheet, read_sheet}

-- ---- the keys

-- `found=`
abbrev pub found_key : List ℕ
found_key = 102 ∷ 111 ∷ 117 ∷ 110 ∷ 100 ∷ 61 ∷ []

-- `events=`
abbrev pub events_key : List ℕ
events_key = 101 ∷ 118 ∷ 101 ∷ 110 ∷ 116 ∷ 115 ∷ 61 ∷ []

-- `met=`
abbrev pub met_key : List ℕ
met_key = 109 ∷ 101 ∷ 116 ∷ 61 ∷ []

-- `pair=`
abbrev pub pair_key : List ℕ
pair_key = 112 ∷ 97 ∷ 105 ∷ 114 ∷ 61 ∷ []

-- `refused=`
abbrev pub refused_key : List ℕ
refused_key = 114 ∷ 101 ∷ 102 ∷ 117 ∷ 115 ∷ 101 ∷ 100 ∷ 61 ∷ []

-- ---- the text

-- the line of an entry: lower, higher, shared, union, and the first shared code
unfoldable pub entry_text : Entry → List ℕ
entry_text e = line_text pair_key (words e)

-- one line an entry
unfoldable pub entries_text : List Entry → List ℕ
entries_text es = flat entry_text es

-- k as asked for, and the three counts
unfoldable pub counts_text : ℕ → ℕ → ℕ → ℕ → List ℕ
counts_text k f e m = line_text k_key (k ∷ []) ++ line_text found_key (f ∷ []) ++ line_text events_key (e ∷ []) ++ line_text met_key (m ∷ [])

-- k, the three counts, and one line an entry
abbrev pub listing_lines : ℕ → ℕ → ℕ → ℕ → List Entry → List ℕ
listing_lines k f e m entries = counts_text k f e m ++ entries_text entries

-- those of a site: found, events and met, and the entries of its list
unfoldable pub listing_text : ℕ → Site → List ℕ
listing_text k site =
    listing_lines k (found in_use site k) (events in_use site k) (met in_use site k) (map (entry_of site) (list_of in_use site k))

-- the one line of a refusal: number and place
unfoldable pub refused_text : ℕ → ℕ → List ℕ
refused_text n p = line_text refused_key (n ∷ p ∷ [])

-- ---- the refusals, in their order

-- goes on where a check refuses nothing
abbrev pub passed : {A : Type 0} → Check → Read A → Read A
passed Fine next = next
passed (Refused n p) next = refused n p

-- a sheet that was read: the join's refusals 1 to 5 on its tables, then 8 where over 2,048 pairs are met
unfoldable pub joined : Sheet → Read Sheet
joined s =
    passed (tables_check s.k (offsets_of s.site) (all_codes s.site))
    (cond (ltb 2048 (met in_use s.site s.k)) (refused 8 0) (value s))

-- a sheet that can be listed: 11 if it has over 24,576 bytes, before all else; then the reader's refusals; then the join's
unfoldable pub listed : List ℕ → Read Sheet
listed sheet = cond (ltb 24576 (length sheet)) (refused 11 24576) (read_sheet 257 4096 sheet then joined)

-- the listing, whatever room it needs
unfoldable pub listing_of : List ℕ → Read (List ℕ)
listing_of sheet = listed sheet then λ s. value (listing_text s.k s.site)

-- a text in some room: 12 where it does not fit
unfoldable pub fitted : ℕ → List ℕ → Read (List ℕ)
fitted room text = cond (ltb room (length text)) (refused 12 0) (value text)

-- the listing in some room: 12 comes last
unfoldable pub listing_in : ℕ → List ℕ → Read (List ℕ)
listing_in room sheet = listing_of sheet then fitted room

-- what the program prints: the listing, or the line of the refusal
unfoldable pub printed : Read (List ℕ) → List ℕ
printed (value text) = text
printed (refused n p) = refused_text n p
