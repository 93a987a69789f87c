-- When the join refuses, and where: 1 to 5 as the tables are refused, 6 and 7 for too little room, 8 for a trail that does not fit.
use Rattle.std.specs.Prelude.{List, ℕ, ◌*◌, ◌≤◌, ◌<◌, length}
use Rattle.site.specs.Tables.{site_of}
use Rattle.tables.specs.Refusals.{Broken, Unbroken}
use Rattle.entries.specs.Entries.{width}
use Rattle.search.specs.Outcome.{trail_need}
use Rattle.join.specs.Join.{JoinCall}

-- the cause of a refusal, where list, work and trail are as many words; each is looked at after those above it
pub data Cause (k : ℕ) (offsets codes : List ℕ) (list work trail : ℕ) : ℕ → ℕ → Type 0 where
  tables : {n p : ℕ} → Broken k offsets codes n p → Cause k offsets codes list work trail n p
  list_room : Unbroken k offsets codes → list < width * k → Cause k offsets codes list work trail 6 0
  work_room : Unbroken k offsets codes → width * k ≤ list → work < 10240 → Cause k offsets codes list work trail 7 0
  trail_room : Unbroken k offsets codes → width * k ≤ list → 10240 ≤ work → trail < trail_need k (site_of offsets codes)
      → Cause k offsets codes list work trail 8 0

-- the cause of a call's refusal
abbrev pub CallCause : JoinCall → ℕ → ℕ → Type 0
CallCause c n p = Cause c.k c.offsets c.codes (length c.list) (length c.work) (length c.trail) n p
