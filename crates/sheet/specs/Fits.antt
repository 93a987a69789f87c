-- What fits: the values that a sheet can give, and the lent tables that have room for them.
use Rattle.std.specs.Prelude.{List, [], ◌∷◌, ℕ, ◌≤◌, ◌<◌, min, length}
use Rattle.site.specs.Tables.{all_codes}
use Rattle.words.specs.Words.{Words16}

-- every code of a site is at most 65,535
abbrev pub SiteWords : List (List ℕ) → Type 0
SiteWords [] = Unit {0}
SiteWords (c ∷ site) = Words16 c × SiteWords site

-- k and the site fit so many lent offset words and code words
pub record SheetFits (offsets codes k : ℕ) (site : List (List ℕ)) : Type 0 where
  pub k_word : k ≤ 65535
  pub words : SiteWords site
  -- at most 256 contexts, and an offset word more than contexts
  pub contexts : length site < min 257 offsets
  -- at most 4,096 codes, and a word for each
  pub room : length (all_codes site) ≤ min 4096 codes
