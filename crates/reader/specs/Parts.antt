-- The readings of numbers and lines as the reader's functions say them: a value with the place behind it, or a refusal.
use Rattle.std.specs.Prelude.{cond, List, [], ◌∷◌, ℕ, suc, ◌+◌, min, eqb, ltb, length, drop}
use Rattle.std.specs.Borrow.{MutBor}
use denote.Triple.Both.{Both}
use Rattle.site.specs.Tables.{all_codes}
use Rattle.sheet.specs.Read.{Read, value, refused, ◌then◌}
use Rattle.sheet.specs.Number.{number_of}
use Rattle.sheet.specs.Pieces.{front_to, split}
use Rattle.sheet.specs.Text.{contexts_key, c_key}
use Rattle.sheet.specs.Reading.{Line, Sheet, behind, room_after, codes_read, context_of, line, lines_of}
use Rattle.reader.specs.Part.{Part}
use Rattle.reader.specs.Part as part
use Rattle.reader.specs.Reading.{Reading}
use Rattle.reader.specs.Reading as reading

-- in a contract: how many words of a table were lent, as an `ensures` names it
abbrev pub words_lent : {X : Type 0} → Both (MutBor (List ℕ)) X → ℕ
words_lent words = length words.entry.now

-- a reading whose value is counted by f, and behind which stands the place `next`
unfoldable pub part_by : {A : Type 0} → (A → ℕ) → ℕ → Read A → Part
part_by f next (value a) = part.Read (f a) next
part_by f next (refused n p) = part.Refused n p

-- a line's reading
unfoldable pub line_by : {A : Type 0} → (A → ℕ) → Read (Line A) → Part
line_by f (value l) = part.Read (f l.got) l.next
line_by f (refused n p) = part.Refused n p

-- a number counts as itself
abbrev pub itself : ℕ → ℕ
itself n = n

-- the codes of a context are counted on from those before it
abbrev pub codes_after : ℕ → List ℕ → ℕ
codes_after used cs = used + length cs

-- the codes of all contexts
abbrev pub codes_in : List (List ℕ) → ℕ
codes_in site = length (all_codes site)

-- over the byte 10 at `next`, behind a line that was read as v: 9 there at the sheet's end, if none stands there
unfoldable pub ended_by : ℕ → ℕ → ℕ → Part
ended_by end v next = cond (ltb next end) (part.Read v (next + 1)) (part.Refused 9 next)

-- the end of a line whose text has a reading
abbrev pub part_ended : ℕ → Part → Part
part_ended end (part.Read v next) = ended_by end v next
part_ended end (part.Refused n p) = part.Refused n p

-- how many bytes of the key stand at the front
unfoldable pub matched_by : List ℕ → List ℕ → ℕ
matched_by [] l = 0
matched_by (x ∷ key) [] = 0
matched_by (x ∷ key) (b ∷ l) = cond (eqb b x) (suc (matched_by key l)) 0

-- the line that begins at the place `at`, without its byte 10
abbrev pub line_at : ℕ → List ℕ → List ℕ
line_at at s = front_to 10 (drop at s)

-- the line of a key and a number that begins at the place `at`
abbrev pub number_line : List ℕ → ℕ → ℕ → List ℕ → Read (Line ℕ)
number_line key room at s = line (behind key (number_of room)) at (split 10 (drop at s))

-- the word that begins at the index `from` of a line, without the space behind it
abbrev pub word_at : ℕ → List ℕ → List ℕ
word_at from l = front_to 32 (drop from l)

-- the place behind that word, if the line stands at the place `at`
abbrev pub word_end : ℕ → ℕ → List ℕ → ℕ
word_end at from l = at + from + length (word_at from l)

-- with so many code words lent and used: the code that the word says
abbrev pub code_from : ℕ → ℕ → ℕ → ℕ → List ℕ → Read ℕ
code_from lent used at from l = number_of (room_after (min 4096 lent) used) (at + from) (word_at from l)

-- the codes whose words fill l
abbrev pub words_of : ℕ → ℕ → ℕ → List ℕ → Read (List ℕ)
words_of lent used at l = codes_read (min 4096 lent) used at (split 32 l)

-- the context that the text l says, behind `c=`
abbrev pub context_in : ℕ → ℕ → ℕ → List ℕ → Read (List ℕ)
context_in lent used at l = behind c_key (context_of (min 4096 lent) used) at l

-- the `c=` line that begins at the place `at`
abbrev pub context_line : ℕ → ℕ → ℕ → List ℕ → Read (Line (List ℕ))
context_line lent used at s = line (context_in lent used) at (split 10 (drop at s))

-- n `c=` lines from there on, and then nothing more
abbrev pub lines_from : ℕ → ℕ → ℕ → List ℕ → Read (List (List ℕ))
lines_from lent n at s = lines_of (min 4096 lent) n 0 at (split 10 (drop at s))

-- the rest of a sheet, behind its `k=` line from the place `at` on: the `contexts=` line, and its `c=` lines
unfoldable pub read_rest : ℕ → ℕ → ℕ → ℕ → List ℕ → Read Sheet
read_rest offsets codes k at s =
    number_line contexts_key (min 257 offsets) at s then λ n.
    lines_of (min 4096 codes) n.got 0 n.next n.lines then λ site. value (record { k = k; site = site })

-- the sheet of k and so many contexts, by the reading of its `c=` lines; or the refusal of a part
unfoldable pub whole_by : ℕ → ℕ → Part → Reading
whole_by k contexts (part.Read codes _) = reading.Sheet k contexts codes
whole_by k contexts (part.Refused n p) = reading.Refused n p
