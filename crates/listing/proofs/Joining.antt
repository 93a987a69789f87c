-- The join with room for 64 entries, 2,048 pairs and a whole work area: 6 and 7 cannot arise, and what it tells of the site of a sheet.
-- Of the join it cites the contract as a record, `Joins`, and the causes of its refusals.
use mathlib.Core.List.{List, []}
use mathlib.Core.Path.{◌≡◌, sym, subst, ◌∙◌}
use Prim.Native.Nat.{ℕ, ◌≤◌, ◌<◌}
use native.Mathlib.Omega.{arith}
use lib.ListN.{length}
use borrow.Author.Tests.{lt-ltb, le-ltb}
use Rattle.order.proofs.Lists.{keep_few}
use Rattle.site.specs.Measure.{in_use}
use Rattle.site.specs.Site.{Site, sharing}
use Rattle.site.specs.Events.{events_of, events_reaching, found, events, met}
use Rattle.site.specs.Tables.{site_of, offsets_of, all_codes}
use Rattle.site.proofs.Top.{top_length}
use Rattle.words.specs.Words.{padded}
use Rattle.tables.specs.Checks.{tables_check}
use Rattle.tables.specs.Check.{Check}
use Rattle.tables.specs.Check as check
use Rattle.tables.proofs.Checks.{accepted}
use Rattle.tables.proofs.Cuts.{site_back}
use Rattle.tables.proofs.Refusals.{refused_exactly, fine_exactly}
use Rattle.agenda.proofs.Counts.{events_many}
use Rattle.search.specs.Outcome.{outcome, listed_words}
use Rattle.search.specs.Answer.{Answer}
use Rattle.search.specs.Answer as answer
use Rattle.search.proofs.Answers.{refused_tells, listed_tells}
use Rattle.join.specs.Join.{join_of, JoinCall, call_site, Joins}
use Rattle.join.specs.Refusals.{tables, list_room, work_room, trail_room, CallCause}
use Rattle.join.proofs.Outcomes.{joins, listed_only}
use Rattle.join.proofs.Causes.{fine_kept, refused_cause}
use Rattle.sheet.specs.Read.{Read, value, refused}
use Rattle.sheet.specs.Reading.{Sheet}
use Rattle.sheet.proofs.Lines.{no_value}
use Rattle.listing.specs.Listing.{joined}
use Rattle.listing.specs.Inside.{room_for_list, counts_of, SheetJoined, TablesJoined}
use Rattle.listing.specs.Joined as told

-- ---- the counts of a site

-- no more events are done than there are
pub events_few : (site : Site) (k : ℕ) → events in_use site k ≤ length (events_of in_use site)
unfolding events_reaching
events_few site k = keep_few _ (events_of in_use site)

-- counts that fit a word of a line
pub record Few (f e m : ℕ) : Type 0 where
  pub found : f ≤ 64
  pub events : e ≤ 4096
  pub met : m ≤ 2048

-- ---- a sheet that was read

module _ (s : Sheet) where
  -- what the checks 1 to 5 say of its tables
  abbrev pub sheet_checked : Check
  sheet_checked = tables_check s.k (offsets_of s.site) (all_codes s.site)

  -- its refusals, and where it has none
  pub joined_stops : {n p : ℕ} → sheet_checked ≡ check.Refused n p → joined s ≡ refused n p
  unfolding joined
  joined_stops t = rw t

  -- over 2,048 pairs are met
  pub joined_over : sheet_checked ≡ check.Fine → 2048 < met in_use s.site s.k → joined s ≡ refused 8 0
  unfolding joined
  joined_over t h = rw (t, lt-ltb 2048 (met in_use s.site s.k) h)

  -- nothing is refused
  pub joined_is : sheet_checked ≡ check.Fine → met in_use s.site s.k ≤ 2048 → joined s ≡ value s
  unfolding joined
  joined_is t h = rw (t, le-ltb 2048 (met in_use s.site s.k) h)

-- what is refused is told so
pub told_refused : {x : Read Sheet} {n p : ℕ} (l : List ℕ) → x ≡ refused n p → SheetJoined x l (told.Refused n p)
unfolding counts_of
told_refused l e = record { answer = rw e; held = λ s f. no_value (sym e ∙ f) }

-- and so are the counts of a sheet that is joined
told_value : {x : Read Sheet} {s : Sheet} {k f e m : ℕ} {l : List ℕ} → x ≡ value s → k ≡ s.k
    → f ≡ found in_use s.site s.k → e ≡ events in_use s.site s.k → m ≡ met in_use s.site s.k
    → l ≡ padded room_for_list (listed_words s.k s.site) → SheetJoined x l (told.Counts k f e m)
unfolding counts_of
told_value {x} {s} {l = l} v k a b c d = record {
  answer = rw (v, k, a, b, c);
  held = λ y g. let z : s ≡ y = cc (sym v ∙ g) in subst (λ (u : Sheet). l ≡ padded room_for_list (listed_words u.k u.site)) z d;
}

-- ---- a call of the join

-- it has room for 64 entries and 2,048 pairs, and a whole work area
record Rooms (c : JoinCall) : Type 0 where
  list : length c.list ≡ room_for_list
  work : length c.work ≡ 10240
  trail : length c.trail ≡ 4096

module _ {c : JoinCall} (j : Joins c) (rooms : Rooms c) where
  -- where counts are told
  module _ {f e m : ℕ} (q : c.answer ≡ answer.Listed f e m) where
    -- 1 to 5 refuse nothing, and the trail fits
    fine : (tables_check c.k c.offsets c.codes ≡ check.Fine) × (met in_use (call_site c) c.k ≤ 2048)
    fine =
        let a = listed_only j q in
        ((fine_kept c.k c.offsets c.codes (length c.list) (length c.work) a.0).0, omega (arith, a.1, rooms.trail))

    -- they are those of the site, and the list holds its entries
    counts : (f ≡ found in_use (call_site c) c.k) × (e ≡ events in_use (call_site c) c.k) × (m ≡ met in_use (call_site c) c.k)
        × (c.list' ≡ padded (length c.list) (listed_words c.k (call_site c)))
    counts =
        let a = listed_only j q in
        let w = j.found a.0 a.1 in
        let t = sym (listed_tells q).1 ∙ w.told.1 in
        (cc t, cc t, cc t, w.list_holds)

    -- no more pairs are found than are asked for, and no more events done than there are codes
    few : Few f e m
    few =
        let a = accepted c.k c.offsets c.codes fine.0 in
        record {
          found = omega (arith, counts.0, a.most, top_length in_use (call_site c) c.k (sharing (call_site c)));
          events = omega (arith, counts.1, a.sound.short, events_few (call_site c) c.k, events_many a.sound);
          met = omega (arith, counts.2, fine.1);
        }

  -- on the tables of a sheet
  module _ (s : Sheet) (asked : c.k ≡ s.k) (offsets : c.offsets ≡ offsets_of s.site) (codes : c.codes ≡ all_codes s.site) where
    -- they are cut as the site is
    same_site : call_site c ≡ s.site
    same_site = (λ i. site_of (offsets i) (codes i)) ∙ site_back [] s.site

    -- so as many pairs are met
    same_met : met in_use (call_site c) c.k ≡ met in_use s.site s.k
    same_met = λ i. met in_use (same_site i) (asked i)

    -- and the checks say the same
    same_check : sheet_checked s ≡ tables_check c.k c.offsets c.codes
    same_check = λ i. tables_check (sym asked i) (sym offsets i) (sym codes i)

    -- whatever causes a refusal of the join refuses the sheet: 6 and 7 cannot arise
    cause_joined : (n p : ℕ) → CallCause c n p → joined s ≡ refused n p
    cause_joined n p (tables b) = joined_stops s (same_check ∙ (refused_exactly c.k c.offsets c.codes n p).1 b)
    cause_joined n p (list_room a h) =
        let k = (accepted c.k c.offsets c.codes ((fine_exactly c.k c.offsets c.codes).1 a)).most in
        absurd (omega (arith, rooms.list))
    cause_joined n p (work_room a h w) = absurd (omega (arith, rooms.work))
    cause_joined n p (trail_room a h w t) =
        joined_over s (same_check ∙ (fine_exactly c.k c.offsets c.codes).1 a) (omega (arith, t, rooms.trail, same_met))

    -- a refusal of the join is told as one of the sheet
    stop_told : {n p : ℕ} → c.answer ≡ answer.Refused n p → SheetJoined (joined s) c.list' (told.Refused n p)
    stop_told {n} {p} q = told_refused c.list' (cause_joined n p (refused_cause j n p (refused_tells q)))

    -- the counts of the join are those of the sheet
    counts_told : {f e m : ℕ} → c.answer ≡ answer.Listed f e m → SheetJoined (joined s) c.list' (told.Counts c.k f e m)
    counts_told q =
        let f = fine q in
        let n = counts q in
        told_value (joined_is s (same_check ∙ f.0) (omega (arith, f.1, same_met))) asked
        (n.0 ∙ λ i. found in_use (same_site i) (asked i)) (n.1 ∙ λ i. events in_use (same_site i) (asked i)) (n.2 ∙ same_met)
        (n.3 ∙ λ i. padded (rooms.list i) (listed_words (asked i) (same_site i)))

-- ---- the call of `join_tables`

module _ (k : ℕ) (os cs list work trail : List ℕ) (ll : length list ≡ room_for_list) (lw : length work ≡ 10240) (lt : length trail ≡ 4096) {r : Answer} {l w t : List ℕ}
    (q : outcome r l w t ≡ join_of k os cs list work trail) where
  -- the call, and its rooms
  abbrev call : JoinCall
  call = record { k = k; offsets = os; codes = cs; list = list; work = work; trail = trail; answer = r; list' = l; work' = w; trail' = t }

  rooms : Rooms call
  rooms = record { list = ll; work = lw; trail = lt }

  -- the counts fit words
  pub counts_few : {f e m : ℕ} → r ≡ answer.Listed f e m → Few f e m
  counts_few h = few (joins call q) rooms h

  -- what it tells of the sheet whose tables are lent
  pub tables_stop : {n p : ℕ} → r ≡ answer.Refused n p → TablesJoined k os cs l (told.Refused n p)
  tables_stop h s ek eo ec = stop_told (joins call q) rooms s ek eo ec h

  pub tables_counts : {f e m : ℕ} → r ≡ answer.Listed f e m → TablesJoined k os cs l (told.Counts k f e m)
  tables_counts h s ek eo ec = counts_told (joins call q) rooms s ek eo ec h
