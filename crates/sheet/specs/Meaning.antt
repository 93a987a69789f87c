-- What a refusal of a sheet means: 9 by where a well-formed sheet can go on, 10 and 11 by what stands before a number and what its
-- digits say; and that the earliest place wins.
use Rattle.std.specs.Prelude.{◌≡◌, List, [], ◌∷◌, ◌++◌, ℕ, ◌+◌, ◌≤◌, ◌<◌, min, length, take}
use Rattle.site.specs.Tables.{all_codes}
use Rattle.sheet.specs.Read.{refused}
use Rattle.sheet.specs.Number.{digits_of, value_of, digits_in}
use Rattle.sheet.specs.Text.{k_key, contexts_key, c_key, number_text, lines_text, sheet_text}
use Rattle.sheet.specs.Reading.{read_sheet}
use Rattle.sheet.specs.Fits.{SiteWords}
use Rattle.words.specs.Words.{Words16}

-- s and t have the first m bytes in common
pub record Alike (m : ℕ) (s t : List ℕ) : Type 0 where
  pub left : m ≤ length s
  pub right : m ≤ length t
  pub same : take m s ≡ take m t

-- the first m bytes of s begin a well-formed sheet: that of k and a site, of any sizes
pub record BeginsSheet (m : ℕ) (s : List ℕ) : Type 0 where
  pub k : ℕ
  pub site : List (List ℕ)
  pub alike : Alike m s (sheet_text k site)

-- a refusal at p is the earliest: the first p bytes begin a well-formed sheet of which nothing is refused before p
pub record Earliest (offsets codes : ℕ) (s : List ℕ) (p : ℕ) : Type 0 where
  pub before : BeginsSheet p s
  pub clear : (n q : ℕ) → read_sheet offsets codes (sheet_text before.k before.site) ≡ refused n q → p ≤ q

-- badly formed at p: the first byte that cannot continue a well-formed sheet, or the length of a sheet that stops early
pub record NineAt (s : List ℕ) (p : ℕ) : Type 0 where
  -- the bytes before p begin a well-formed sheet
  pub before : BeginsSheet p s
  -- with the byte at p they begin none
  pub cannot : BeginsSheet (p + 1) s → ⊥
  -- s itself is none: if p is its length, it stops early
  pub unfinished : (k : ℕ) (site : List (List ℕ)) → s ≡ sheet_text k site → ⊥

-- which number of a sheet, by the values before it
pub data Which : Type 0 where
  of_k : Which
  -- the contexts number, behind k
  of_contexts : (k : ℕ) → Which
  -- a code, behind k, the contexts number n, the contexts before its own, and the codes before it there
  of_code : (k n : ℕ) (site : List (List ℕ)) (cs : List ℕ) → Which

-- codes that one more code follows: a space behind each
unfoldable pub spaced : List ℕ → List ℕ
spaced [] = []
spaced (n ∷ ns) = digits_of n ++ 32 ∷ spaced ns

-- the text before a number
unfoldable pub text_before : Which → List ℕ
text_before of_k = k_key
text_before (of_contexts k) = number_text k_key k ++ contexts_key
text_before (of_code k n site cs) = number_text k_key k ++ number_text contexts_key n ++ lines_text site ++ c_key ++ spaced cs

-- the numbers before it are in range: words, and no more contexts and codes than there is room for; and the line of a code is owed
abbrev pub InRange : ℕ → ℕ → Which → Type 0
InRange offsets codes of_k = Unit {0}
InRange offsets codes (of_contexts k) = k ≤ 65535
InRange offsets codes (of_code k n site cs) =
    (k ≤ 65535) × (n < min 257 offsets) × (length site < n) × SiteWords site × Words16 cs
    × (length (all_codes site) + length cs ≤ min 4096 codes)

-- at p stands the first digit of the number x of s; its digits, all from there that can stand in a number, say v
pub record NumberAt (offsets codes : ℕ) (x : Which) (s : List ℕ) (p v : ℕ) : Type 0 where
  pub rest : List ℕ
  pub whole : s ≡ text_before x ++ rest
  pub place : p ≡ length (text_before x)
  -- and nothing before it is refused
  pub before : InRange offsets codes x
  pub digit : 0 < length (digits_in rest)
  pub says : v ≡ value_of (digits_in rest)

-- refusal 10 at p: the number there is above 65,535
pub record TenAt (offsets codes : ℕ) (s : List ℕ) (p : ℕ) : Type 0 where
  pub x : Which
  pub v : ℕ
  pub number : NumberAt offsets codes x s p v
  pub above : 65535 < v

-- why there is no room for a number v
pub data NoRoom (offsets codes v : ℕ) : Which → Type 0 where
  -- more than 256 contexts
  many : (k : ℕ) → 256 < v → NoRoom offsets codes v (of_contexts k)
  -- contexts that need more offset words than were lent
  wide : (k : ℕ) → offsets < v + 1 → NoRoom offsets codes v (of_contexts k)
  -- the first code that exceeds 4,096 codes or the lent codes table
  full : (k n : ℕ) (site : List (List ℕ)) (cs : List ℕ) → length (all_codes site) + length cs ≡ min 4096 codes
      → NoRoom offsets codes v (of_code k n site cs)

-- refusal 11 at p: there is no room for the number there, and 10 has no say
pub record ElevenAt (offsets codes : ℕ) (s : List ℕ) (p : ℕ) : Type 0 where
  pub x : Which
  pub v : ℕ
  pub number : NumberAt offsets codes x s p v
  pub word : v ≤ 65535
  pub cause : NoRoom offsets codes v x

-- no number up to p is refused
pub record InRangeTo (offsets codes : ℕ) (s : List ℕ) (p : ℕ) : Type 0 where
  pub no_ten : (q : ℕ) → q ≤ p → TenAt offsets codes s q → ⊥
  pub no_eleven : (q : ℕ) → q ≤ p → ElevenAt offsets codes s q → ⊥

-- what refusal n at p means: there are no other numbers, and 9 is for sheets whose numbers are in range up to there
pub data Means (offsets codes : ℕ) (s : List ℕ) (n p : ℕ) : Type 0 where
  nine : n ≡ 9 → NineAt s p → InRangeTo offsets codes s p → Means offsets codes s n p
  ten : n ≡ 10 → TenAt offsets codes s p → Means offsets codes s n p
  eleven : n ≡ 11 → ElevenAt offsets codes s p → Means offsets codes s n p
