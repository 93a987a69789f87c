-- What a sheet has that passed all refusals but the last: sound tables, and counts that fit a word of a line.
use mathlib.Core.List.{List, []}
use mathlib.Core.Path.{◌≡◌, refl, sym, ap, subst, ◌∙◌}
use Prim.Native.Nat.{ℕ, ◌≤◌}
use native.Mathlib.Omega.{arith}
use lib.ListN.{length}
use Rattle.site.specs.Measure.{in_use}
use Rattle.site.specs.Site.{Site, sharing}
use Rattle.site.specs.Events.{events_of, found, events, met}
use Rattle.site.specs.Tables.{offsets_of, all_codes}
use Rattle.site.proofs.Top.{top_length}
use Rattle.words.proofs.Split.{by_le}
use Rattle.tables.specs.Sound.{Sound}
use Rattle.tables.specs.Check.{Check}
use Rattle.tables.specs.Check as check
use Rattle.tables.proofs.Checks.{accepted}
use Rattle.tables.proofs.Cuts.{site_back}
use Rattle.agenda.proofs.Counts.{events_many}
use Rattle.sheet.specs.Read.{Read, value, refused, ◌then◌}
use Rattle.sheet.specs.Reading.{Sheet, read_sheet}
use Rattle.sheet.proofs.Lines.{no_value, then_value}
use Rattle.listing.specs.Listing.{joined}
use Rattle.listing.specs.Inside.{counts_of, SheetJoined}
use Rattle.listing.specs.Joined.{Joined}
use Rattle.listing.specs.Joined as told
use Rattle.listing.proofs.Joining.{sheet_checked, joined_stops, joined_over, joined_is, events_few}

-- ---- the counts that were told

-- a refusal that was told
pub counts_refused : (x : Read Sheet) {n p : ℕ} → counts_of x ≡ told.Refused n p → x ≡ refused n p
unfolding counts_of
counts_refused (value s) e = let y : ◌≡◌ {A = ℕ} 0 1 = cc e in absurd (omega arith)
counts_refused (refused m q) {n} {p} e = let a : m ≡ n = cc e in let b : q ≡ p = cc e in λ i. refused (a i) (b i)

-- counts that were told are those of a sheet
pub record CountsOf (x : Read Sheet) (k f e m : ℕ) : Type 0 where
  pub sheet : Sheet
  pub is : x ≡ value sheet
  pub asked : k ≡ sheet.k
  pub found : f ≡ found in_use sheet.site sheet.k
  pub events : e ≡ events in_use sheet.site sheet.k
  pub met : m ≡ met in_use sheet.site sheet.k

pub counted : (x : Read Sheet) {k f e m : ℕ} → counts_of x ≡ told.Counts k f e m → CountsOf x k f e m
unfolding counts_of
counted (refused m q) g = let y : ◌≡◌ {A = ℕ} 0 1 = cc g in absurd (omega arith)
counted (value s) {k} {f} {e} {m} g =
    let a : s.k ≡ k = cc g in
    let b : found in_use s.site s.k ≡ f = cc g in
    let c : events in_use s.site s.k ≡ e = cc g in
    let d : met in_use s.site s.k ≡ m = cc g in
    record { sheet = s; is = refl; asked = sym a; found = sym b; events = sym c; met = sym d }

-- ---- a sheet that passed

pub record Passed (s : Sheet) : Type 0 where
  pub asked : s.k ≤ 64
  pub sound : Sound (offsets_of s.site) (all_codes s.site)
  pub met : met in_use s.site s.k ≤ 2048

-- a sheet that is joined is unchanged, and it passed
passed_by : (s : Sheet) (c : Check) → sheet_checked s ≡ c → {x : Sheet} → joined s ≡ value x → (s ≡ x) × Passed s
passed_by s (check.Refused n p) t e = no_value (sym (joined_stops s t) ∙ e)
passed_by s check.Fine t {x} e =
    let a = accepted s.k (offsets_of s.site) (all_codes s.site) t in
    by_le (met in_use s.site s.k) 2048
    (λ h. let q : s ≡ x = cc (sym (joined_is s t h) ∙ e) in (q, record { asked = a.most; sound = a.sound; met = h }))
    (λ h. no_value (sym (joined_over s t h) ∙ e))

-- so it is behind the reader
pub joined_passed : (x : Read Sheet) {s : Sheet} → (x then joined) ≡ value s → Passed s
joined_passed x e =
    let r = then_value x joined e in
    let p = passed_by r.0 _ refl r.2 in
    subst Passed p.0 p.1

module _ {s : Sheet} (p : Passed s) where
  -- its pairs fit the list
  pub found_few : found in_use s.site s.k ≤ 64
  found_few = omega (arith, p.asked, top_length in_use s.site s.k (sharing s.site))

  -- its events are no more than its codes
  pub events_most : events in_use s.site s.k ≤ 4096
  events_most =
      let b = ap (λ (z : Site). length (events_of in_use z)) (site_back [] s.site) in
      omega (arith, b, events_many p.sound, p.sound.short, events_few s.site s.k)

-- where the join told counts, the list has room for its entries
pub told_few : (sheet : List ℕ) {list : List ℕ} {j : Joined} → SheetJoined (read_sheet 257 4096 sheet then joined) list j
    → {k f e m : ℕ} → j ≡ told.Counts k f e m → f ≤ 64
told_few sheet t q = let c = counted _ (sym t.answer ∙ q) in omega (arith, c.found, found_few (joined_passed (read_sheet 257 4096 sheet) c.is))
