-- Tables that are accepted, and the site that they are.
use Rattle.std.specs.Prelude.{ℕ, List, Result, Ok, Err}
use Rattle.refusal.specs.declared.Refusal.{Refusal}
use Rattle.site.specs.Site.{Site}
use Rattle.site.specs.Tables.{site_in}
use Rattle.tables.specs.declared.accepted.Tables.{Tables}

-- the site of accepted tables
abbrev pub the_site : Tables → Site
the_site tables = site_in tables.offsets tables.codes

-- the words of accepted tables, offsets and codes, or the refusal: what can be read from the answer that gives them
abbrev pub words_or_refusal : Result Tables Refusal → Result (List ℕ × List ℕ) Refusal
words_or_refusal (Ok tables) = Ok (tables.offsets.now, tables.codes.now)
words_or_refusal (Err refusal) = Err refusal
