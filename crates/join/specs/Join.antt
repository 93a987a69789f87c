-- The join: its checks in their order, its answer, and every word of its buffers.
-- `join_of` is the contract as an equation, `Joins` the same of a call as a record with a field for each way out.
use Rattle.std.specs.Prelude.{List, [], ◌∷◌, ◌≡◌, ℕ, ◌*◌, ◌≤◌, ◌<◌, ltb, length}
use Rattle.site.specs.Site.{Site}
use Rattle.site.specs.Tables.{site_of}
use Rattle.words.specs.Words.{padded}
use Rattle.tables.specs.Checks.{when, ◌and_then◌, tables_check}
use Rattle.tables.specs.Check.{Check}
use Rattle.tables.specs.Check as check
use Rattle.entries.specs.Entries.{width}
use Rattle.search.specs.Outcome.{Tells, Outcome, outcome, zeros, three_counts, trail_need, listed_words, met_words, search_of}
use Rattle.search.specs.Answer.{Answer}
use Rattle.search.specs.Answer as answer

-- ---- the checks 1 to 7

-- 6: the list has no room for k entries; 7: the work area is under 10,240 words
unfoldable pub rooms_check : ℕ → ℕ → ℕ → Check
rooms_check k list work = when (ltb list (width * k)) 6 (when (ltb work 10240) 7 check.Fine)

-- 1 to 5, then 6, then 7
unfoldable pub call_check : ℕ → List ℕ → List ℕ → ℕ → ℕ → Check
call_check k offsets codes list work = tables_check k offsets codes and_then rooms_check k list work

-- ---- the outcome, as an equation

-- what a check refuses leaves the buffers as they were
abbrev pub checked : Check → List ℕ → List ℕ → List ℕ → Outcome → Outcome
checked check.Fine list work trail found = found
checked (check.Refused n p) list work trail found = outcome (answer.Refused n p) list work trail

-- the checks, then the search over the site that the tables stand for
unfoldable pub join_of : ℕ → List ℕ → List ℕ → List ℕ → List ℕ → List ℕ → Outcome
join_of k offsets codes list work trail =
    checked (call_check k offsets codes (length list) (length work)) list work trail (search_of k (site_of offsets codes) list work trail)

-- ---- a call

-- what a call of the join is given, what it answers, and its buffers at exit
pub record JoinCall : Type 0 where
  pub k : ℕ
  pub offsets : List ℕ
  pub codes : List ℕ
  pub list : List ℕ
  pub work : List ℕ
  pub trail : List ℕ
  pub answer : Answer
  pub list' : List ℕ
  pub work' : List ℕ
  pub trail' : List ℕ

module _ (c : JoinCall) where
  -- the site that its tables stand for
  abbrev pub call_site : Site
  call_site = site_of c.offsets c.codes

  -- what the checks 1 to 7 say of it
  abbrev pub call_checked : Check
  call_checked = call_check c.k c.offsets c.codes (length c.list) (length c.work)

  -- what it ends in, and what it has to end in
  abbrev pub call_outcome : Outcome
  call_outcome = outcome c.answer c.list' c.work' c.trail'

  abbrev pub call_owes : Outcome
  call_owes = join_of c.k c.offsets c.codes c.list c.work c.trail

  -- ---- the same in the paper's words

  -- refused with a number and a place, and no buffer has changed
  pub record Unchanged (n p : ℕ) : Type 0 where
    pub told : Tells c.answer n (p ∷ [])
    pub list_as_was : c.list' ≡ c.list
    pub work_as_was : c.work' ≡ c.work
    pub trail_as_was : c.trail' ≡ c.trail

  -- 8 at 0, and list, work area and trail are all zero
  pub record TrailFull : Type 0 where
    pub told : Tells c.answer 8 (0 ∷ [])
    pub list_zero : c.list' ≡ zeros c.list
    pub work_zero : c.work' ≡ zeros c.work
    pub trail_zero : c.trail' ≡ zeros c.trail

  -- the three counts; the entries of the list, then zeros; a work area of zeros; the pairs of the trail, then zeros
  pub record Found : Type 0 where
    pub told : Tells c.answer 0 (three_counts c.k call_site)
    pub list_holds : c.list' ≡ padded (length c.list) (listed_words c.k call_site)
    pub work_zero : c.work' ≡ zeros c.work
    pub trail_holds : c.trail' ≡ padded (length c.trail) (met_words c.k call_site)

  -- the contract of the join
  pub record Joins : Type 0 where
    -- 1 to 7: what the checks say
    pub refused : (n p : ℕ) → call_checked ≡ check.Refused n p → Unchanged n p
    -- 8: the whole trail does not fit
    pub no_room : call_checked ≡ check.Fine → length c.trail < trail_need c.k call_site → TrailFull
    -- else
    pub found : call_checked ≡ check.Fine → trail_need c.k call_site ≤ length c.trail → Found
