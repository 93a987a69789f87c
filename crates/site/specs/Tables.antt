-- The lent tables as a site, and a site as its tables.
use Rattle.std.specs.Prelude.{List, [], ◌∷◌, ◌++◌, ℕ, ◌+◌, length}
use Rattle.std.proofs.Math.Seq.{slice}
use Rattle.std.specs.Borrow.{Bor}
use denote.Triple.Both.{Both}
use Rattle.site.specs.Site.{Site}

-- the contexts that the offsets cut from the codes
unfoldable pub site_of : List ℕ → List ℕ → Site
site_of [] codes = []
site_of (a ∷ []) codes = []
site_of (a ∷ b ∷ offsets) codes = slice a b codes ∷ site_of (b ∷ offsets) codes

-- in a contract: the site of two lent tables, as a `requires` names them
abbrev pub site_in : Bor (List ℕ) → Bor (List ℕ) → Site
site_in offsets codes = site_of offsets.now codes.now

-- and the same of the tables at entry, as an `ensures` names them
abbrev pub site_at : {X Y : Type 0} → Both (Bor (List ℕ)) X → Both (Bor (List ℕ)) Y → Site
site_at offsets codes = site_in offsets.entry codes.entry

-- the offsets of a site whose first context begins at a
unfoldable pub offsets_from : ℕ → Site → List ℕ
offsets_from a [] = a ∷ []
offsets_from a (c ∷ site) = a ∷ offsets_from (a + length c) site

-- the offsets of a site
abbrev pub offsets_of : Site → List ℕ
offsets_of site = offsets_from 0 site

-- the codes of all its contexts, one context after the other
unfoldable pub all_codes : Site → List ℕ
all_codes [] = []
all_codes (c ∷ site) = c ++ all_codes site
