-- The worked examples P1 to P12 of document 01, with the fifth word of document 02: one table of cases, and one claim about it.
-- A case is a call of the join with junk in its buffers; the claim is about every word that its contract tells, and about
-- the ceilings of the pairs listed.
use mathlib.Core.List.{List, [], ◌∷◌, map}
use mathlib.Core.Path.{◌≡◌}
use Prim.Native.Nat.{ℕ, ◌*◌, ◌≤◌}
use lib.ListN.{length, replicate}
use borrow.Author.Tests.{le-ltb}
use Rattle.order.specs.Order.{keep, kth, sort_by, insert_by, ◌then_by◌}
use Rattle.site.specs.Ratio.{Ratio, den, ◌over◌, below, lesser, reaches}
use Rattle.site.specs.Measure.{jaccard, in_use}
use Rattle.site.specs.Site.{has, up_to, grid, common, shared, first_code, union, pairs_of, sharing, numbers_before, rank_before, ranked, top_of, list_of}
use Rattle.site.specs.Events.{ahead, events_in, event_before, events_of, later, earlier, ceiling_of, trail_before, cut_of, events_reaching, pairs_reaching, trail}
use Rattle.site.specs.Tables.{site_of}
use Rattle.words.specs.Words.{flat, padded}
use Rattle.tables.specs.Earliest.{first_of, earliest}
use Rattle.tables.specs.Checks.{sizes_check, tables_check}
use Rattle.tables.specs.Rules.{end_rule, offset_rule, member, code_rule_by, code_rule}
use Rattle.entries.specs.Entries.{width}
use Rattle.search.specs.Outcome.{Outcome, outcome, zeros, search_of}
use Rattle.search.specs.Answer.{Answer}
use Rattle.search.specs.Answer.{Listed, Refused}
use Rattle.join.specs.Join.{rooms_check, call_check, join_of}

-- ---- a case

-- the input; the answer, the words that list and trail begin with, and of each listed pair the two parts of its ceiling
pub record Case : Type 0 where
  pub k : ℕ
  pub offsets : List ℕ
  pub codes : List ℕ
  pub answer : Answer
  pub listed : List ℕ
  pub met : List ℕ
  pub ceilings : List (List ℕ)

unfoldable pub case : ℕ → List ℕ → List ℕ → Answer → List ℕ → List ℕ → List (List ℕ) → Case
case k o c a l m h = record { k = k; offsets = o; codes = c; answer = a; listed = l; met = m; ceilings = h }

-- the sheet 'Three'
unfoldable pub three : ℕ → Answer → List ℕ → List ℕ → List (List ℕ) → Case
three k a l m h = case k (0 ∷ 4 ∷ 9 ∷ 13 ∷ []) (2 ∷ 3 ∷ 4 ∷ 5 ∷ 1 ∷ 2 ∷ 3 ∷ 4 ∷ 5 ∷ 1 ∷ 2 ∷ 3 ∷ 4 ∷ []) a l m h

-- the buffers at entry: room for four entries, and for three pairs and an odd word
unfoldable pub junk_list : List ℕ
junk_list = replicate (4 * width) 7

unfoldable pub junk_trail : List ℕ
junk_trail = replicate 7 7

-- ---- the table

unfoldable pub table : List Case
table =
    case 1 (0 ∷ 4 ∷ 8 ∷ []) (1 ∷ 2 ∷ 3 ∷ 4 ∷ 2 ∷ 3 ∷ 4 ∷ 5 ∷ []) (Listed 1 4 1) (0 ∷ 1 ∷ 3 ∷ 5 ∷ 2 ∷ []) (0 ∷ 1 ∷ []) ((3 ∷ 4 ∷ []) ∷ [])  -- P1
    ∷ case 1 (0 ∷ 0 ∷ 0 ∷ []) [] (Listed 0 0 0) [] [] []  -- P2
    ∷ case 1 (0 ∷ 0 ∷ 1 ∷ []) (7 ∷ []) (Listed 0 1 0) [] [] []  -- P2
    ∷ case 1 (0 ∷ 1 ∷ 2 ∷ []) (7 ∷ 7 ∷ []) (Listed 1 2 1) (0 ∷ 1 ∷ 1 ∷ 1 ∷ 7 ∷ []) (0 ∷ 1 ∷ []) ((1 ∷ 1 ∷ []) ∷ [])  -- P3
    ∷ case 1 (0 ∷ 2 ∷ 4 ∷ []) (1 ∷ 2 ∷ 2 ∷ 3 ∷ []) (Listed 1 4 1) (0 ∷ 1 ∷ 1 ∷ 3 ∷ 2 ∷ []) (0 ∷ 1 ∷ []) ((1 ∷ 2 ∷ []) ∷ [])  -- P4
    ∷ three 1 (Listed 1 4 2) (0 ∷ 1 ∷ 4 ∷ 5 ∷ 2 ∷ []) (1 ∷ 2 ∷ 0 ∷ 1 ∷ []) ((4 ∷ 5 ∷ []) ∷ [])  -- P5
    ∷ three 2 (Listed 2 4 2) (0 ∷ 1 ∷ 4 ∷ 5 ∷ 2 ∷ 1 ∷ 2 ∷ 4 ∷ 5 ∷ 1 ∷ []) (1 ∷ 2 ∷ 0 ∷ 1 ∷ []) ((4 ∷ 5 ∷ []) ∷ (5 ∷ 5 ∷ []) ∷ [])  -- P6
    ∷ three 3 (Listed 3 7 3) (0 ∷ 1 ∷ 4 ∷ 5 ∷ 2 ∷ 1 ∷ 2 ∷ 4 ∷ 5 ∷ 1 ∷ 0 ∷ 2 ∷ 3 ∷ 5 ∷ 2 ∷ []) (1 ∷ 2 ∷ 0 ∷ 1 ∷ 0 ∷ 2 ∷ []) ((4 ∷ 5 ∷ []) ∷ (5 ∷ 5 ∷ []) ∷ (3 ∷ 4 ∷ []) ∷ [])  -- P7
    ∷ three 4 (Listed 3 13 3) (0 ∷ 1 ∷ 4 ∷ 5 ∷ 2 ∷ 1 ∷ 2 ∷ 4 ∷ 5 ∷ 1 ∷ 0 ∷ 2 ∷ 3 ∷ 5 ∷ 2 ∷ []) (1 ∷ 2 ∷ 0 ∷ 1 ∷ 0 ∷ 2 ∷ []) ((4 ∷ 5 ∷ []) ∷ (5 ∷ 5 ∷ []) ∷ (3 ∷ 4 ∷ []) ∷ [])  -- P8
    ∷ case 1 (0 ∷ []) [] (Listed 0 0 0) [] [] []  -- P9
    ∷ case 1 (0 ∷ 2 ∷ []) (5 ∷ 5 ∷ []) (Refused 5 1) junk_list junk_trail []  -- P10
    ∷ case 1 (0 ∷ 1 ∷ 2 ∷ []) (9 ∷ 3 ∷ []) (Listed 0 2 0) [] [] []  -- P11
    ∷ case 0 [] [] (Refused 1 0) junk_list junk_trail []  -- P12
    ∷ []

-- ---- the claim

-- an outcome, and the ceilings of the pairs listed
pub record Told : Type 0 where
  pub outcome : Outcome
  pub ceilings : List (List ℕ)

abbrev pub parts : Ratio → List ℕ
parts r = r.num ∷ den r ∷ []

-- what the definitions tell of a case
unfoldable pub asked : List ℕ → Case → Told
asked work c = record {
  outcome = join_of c.k c.offsets c.codes junk_list work junk_trail;
  ceilings = map (λ p. parts (ceiling_of in_use (site_of c.offsets c.codes) p)) (list_of in_use (site_of c.offsets c.codes) c.k);
}

-- after a refusal the work area is as it was
abbrev pub work_after : Answer → List ℕ → List ℕ
work_after (Listed f e m) work = zeros work
work_after (Refused n p) work = work

-- what the documents tell
unfoldable pub told : List ℕ → Case → Told
told work c = record { outcome = outcome c.answer (padded (length junk_list) c.listed) (work_after c.answer work) (padded (length junk_trail) c.met); ceilings = c.ceilings }

-- for every work area that is long enough, each case is what the documents tell
pub examples : (work : List ℕ) → 10240 ≤ length work → map (asked work) table ≡ map (told work) table
unfolding asked told table case three junk_list junk_trail join_of search_of call_check rooms_check tables_check sizes_check earliest first_of offset_rule end_rule code_rule code_rule_by member site_of flat padded jaccard ◌over◌ below lesser reaches keep kth sort_by insert_by ◌then_by◌ has up_to grid common shared first_code union pairs_of sharing numbers_before rank_before ranked top_of ahead events_in event_before events_of later earlier ceiling_of trail_before cut_of events_reaching pairs_reaching trail
examples work h = rw (le-ltb (length work) 10240 h)
