-- The events done at a code, read from its bucket: what `posted_at` tells.
-- A word of the bucket is one more than a context's number, or 0 where no event is done yet.
use mathlib.Core.List.{List, map}
use mathlib.Core.Path.{◌≡◌, ap, ◌∙◌}
use Prim.Native.Nat.{ℕ, suc, ◌+◌, ◌-◌, ◌≤◌, ◌<◌}
use native.Mathlib.Omega.{arith}
use lib.ListN.{length, get_or, get_elem?, length-map, get_or-eq_default}
use lib.Dec.{eqb}
use borrow.Author.Tests.{eqb-true}
use Rattle.order.proofs.Lists.{keep_out, take_in}
use Rattle.site.specs.Site.{Site}
use Rattle.site.specs.Measure.{in_use}
use Rattle.site.specs.Events.{Event, Occurs, code_at, events_of, posting_of}
use Rattle.site.specs.Tables.{site_of}
use Rattle.site.specs.declared.Context.{Context}
use Rattle.site.proofs.Measures.{in_use_lawful}
use Rattle.site.proofs.Contexts.{get_or_in}
use Rattle.site.proofs.Events.{in_occurs}
use Rattle.tables.specs.Sound.{Sound}
use Rattle.words.proofs.Lists.{map_at, get_elem?_is, get_elem?_none}
use Rattle.words.proofs.Split.{by_le}
use Rattle.agenda.specs.Postings.{At, Over}
use Rattle.agenda.specs.Agenda.{first_events, posted_of, Agenda}
use Rattle.agenda.specs.Postings.{often, codes_below, mark, posted_is}
use Rattle.agenda.specs.Next.{no_event}
use Rattle.agenda.proofs.Counting.{often_few}
use Rattle.agenda.proofs.Standing.{posted_few, start_at, end_at, mark_at, bucket_inside}

-- ---- what an answer tells of the events

module _ (events : List Event) (n : ℕ) where
  -- there is none
  pub none_posted : length events ≤ n → Over ≡ posted_is (get_elem? events n)
  none_posted h = rw (get_elem?_none events n h)

  -- there is one
  pub one_posted : n < length events → At (record { 0 = (get_or events n no_event).context }) ≡ posted_is (get_elem? events n)
  one_posted h = rw (get_elem?_is events n no_event h)

  -- and back
  pub posted_over : posted_is (get_elem? events n) ≡ Over → length events ≤ n
  posted_over e = by_le (length events) n (λ h. h) (λ h. let z : At (record { 0 = (get_or events n no_event).context }) ≡ Over = one_posted h ∙ e in let c : ◌≡◌ {A = ℕ} 0 1 = cc z in absurd (omega arith))

  pub posted_here : {d : Context} → posted_is (get_elem? events n) ≡ At d → (n < length events) × ((get_or events n no_event).context ≡ d.0)
  posted_here {d} e = by_le (length events) n
      (λ h. let z : Over ≡ At d = none_posted h ∙ e in let c : ◌≡◌ {A = ℕ} 0 1 = cc z in absurd (omega arith))
      (λ h. let z : At (record { 0 = (get_or events n no_event).context }) ≡ At d = one_posted h ∙ e in let c : (get_or events n no_event).context ≡ d.0 = cc z in (h, c))

  -- their marks
  mark_here : n < length events → get_or (map mark events) n 0 ≡ suc (get_or events n no_event).context
  mark_here h = map_at mark events n 0 no_event h

  mark_none : length events ≤ n → get_or (map mark events) n 0 ≡ 0
  mark_none h = get_or-eq_default (map mark events) 0 {n = n} (omega (arith, h, length-map events mark))

  pub mark_empty : {word : ℕ} → word ≡ get_or (map mark events) n 0 → word ≡ 0 → Over ≡ posted_is (get_elem? events n)
  mark_empty e z = by_le (length events) n none_posted (λ h. absurd (omega (arith, e, z, mark_here h)))

  pub mark_told : {word : ℕ} → word ≡ get_or (map mark events) n 0 → (word ≡ 0 → ⊥) → At (record { 0 = word - 1 }) ≡ posted_is (get_elem? events n)
  mark_told {word} e z = by_le (length events) n
      (λ h. absurd (z (e ∙ mark_none h)))
      (λ h. let c : word - 1 ≡ (get_or events n no_event).context = omega (arith, e, mark_here h) in rw c (one_posted h))

-- ---- the bucket of a code, whose word is x

module _ {os cs : List ℕ} (s : Sound os cs) {j : ℕ} {work : List ℕ} (A : Agenda (site_of os cs) j work) {code : ℕ} (h : code < 4096)
    {x start end : ℕ} (e : x ≡ code) (a : start ≡ get_or work (1026 + x) 0) (b : end ≡ get_or work (1027 + x) 0) where
  starts_at : start ≡ codes_below cs code
  starts_at = a ∙ ap (λ (y : ℕ). get_or work (1026 + y) 0) e ∙ start_at s A code (omega arith)

  ends_at : end ≡ codes_below cs code + often cs code
  ends_at = b ∙ ap (λ (y : ℕ). get_or work (1027 + y) 0) e ∙ end_at s A code h

  pub bucket_rises : start ≤ end
  bucket_rises = omega (arith, starts_at, ends_at)

  -- behind its end
  pub behind_bucket : {n : ℕ} → end - start ≤ n → Over ≡ posted_is (get_elem? (posted_of (site_of os cs) j code) n)
  behind_bucket {n} k = none_posted (posted_of (site_of os cs) j code) n (omega (arith, k, posted_few s j code, starts_at, ends_at))

  module _ {n : ℕ} (k : n < end - start) where
    within : n < often cs code
    within = omega (arith, starts_at, ends_at)

    pub word_inside : 5123 + start + n < length work
    word_inside = omega (arith, starts_at, bucket_inside s A code n h within)

    word_is : get_or work (5123 + start + n) 0 ≡ get_or (map mark (posted_of (site_of os cs) j code)) n 0
    word_is = rw starts_at (mark_at s A code n h within)

    pub word_empty : get_or work (5123 + start + n) 0 ≡ 0 → Over ≡ posted_is (get_elem? (posted_of (site_of os cs) j code) n)
    word_empty z = mark_empty (posted_of (site_of os cs) j code) n word_is z

    pub word_told : (get_or work (5123 + start + n) 0 ≡ 0 → ⊥) → At (record { 0 = get_or work (5123 + start + n) 0 - 1 }) ≡ posted_is (get_elem? (posted_of (site_of os cs) j code) n)
    word_told z = mark_told (posted_of (site_of os cs) j code) n word_is z

pub posted_short : {os cs : List ℕ} → Sound os cs → (j x : ℕ) → length (posted_of (site_of os cs) j x) ≤ 4096
posted_short {os} {cs} s j x = omega (arith, posted_few s j x, often_few cs x, s.short)

-- ---- what is known of the events at code x

-- the n-th is an event of the site, at that code
pub posted_is_lem : (site : Site) (j x n : ℕ) → n < length (posted_of site j x) → Occurs site (get_or (posted_of site j x) n no_event) × (code_at site (get_or (posted_of site j x) n no_event) ≡ x)
unfolding posting_of
posted_is_lem site j x n h =
    let g = get_or (posted_of site j x) n no_event in
    let m = keep_out (λ f. eqb (code_at site f) x) (first_events site j) (get_or_in (posted_of site j x) n no_event h) in
    (in_occurs in_use_lawful site g (take_in j (events_of in_use site) m.0), eqb-true (code_at site g) x m.1)

-- the laws of `posted_at`
pub ruleset posting = (bucket_rises, behind_bucket, word_inside, word_empty, word_told)
