-- Tables that the checks 2 to 5 accept: a site.
use Rattle.std.specs.Prelude.{List, ◌≡◌, ℕ, ◌≤◌, ◌<◌, length}
use Rattle.tables.specs.Checks.{offsets_check, codes_check}
use Rattle.tables.specs.Check.{Fine}

-- sizes within their limits, and no offset or code that breaks its rule
pub record Sound (offsets codes : List ℕ) : Type 0 where
  pub some : 0 < length offsets
  pub few : length offsets ≤ 257
  pub short : length codes ≤ 4096
  pub cut : offsets_check offsets (length codes) ≡ Fine
  pub rising : codes_check offsets codes ≡ Fine
