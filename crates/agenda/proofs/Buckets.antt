-- The buckets: each has room for the events at its code, and one more event fills the first free word of its own.
-- A code has as many events as it has places in the table, so no bucket overflows.
use mathlib.Core.List.{List, [], ◌∷◌, ◌++◌, map, map-map, map-append, append_assoc, append-nil}
use mathlib.Core.Bool.{Bool}
use mathlib.Core.Path.{◌≡◌, refl, sym, ap, ◌∙◌}
use Prim.Native.Nat.{ℕ, zero, suc, ◌+◌, ◌≤◌, ◌<◌}
use native.Mathlib.Omega.{arith}
use lib.Dec.{eqb}
use lib.ListN.{length, get_or, set, take, replicate, length-append, length-map, replicate-append-replicate}
use lib.Seq.{take-suc, take-length}
use borrow.Author.Tests.{eq-eqb, ne_eqb}
use Rattle.order.specs.Order.{keep}
use Rattle.site.specs.Measure.{in_use}
use Rattle.site.specs.Site.{Site, codes_of, size_of, up_to, grid}
use Rattle.site.specs.Events.{Event, code_at, event_before, events_in, events_of, posting_of}
use Rattle.site.specs.Tables.{all_codes}
use Rattle.trail.proofs.Gathered.{posting_add}
use Rattle.words.specs.Words.{flat, padded}
use Rattle.words.proofs.Words.{padded_length, padded_at, padded_push, padded_none}
use Rattle.agenda.specs.Agenda.{first_events}
use Rattle.agenda.specs.Postings.{often, codes_below, mark, bucket, buckets}
use Rattle.site.proofs.Rows.{row_is}
use Rattle.agenda.proofs.Rows.{span_to, span_suc, rows_suc, rows_at, rows_set}
use Rattle.order.proofs.Kept.{keep_sort, keep_take, keep_map}
use Rattle.agenda.proofs.Counting.{below_none, below_suc}

-- ---- the codes of a site are those at its events

all_add : (site : Site) (c : List ℕ) → all_codes (site ++ c ∷ []) ≡ all_codes site ++ c
unfolding all_codes
all_add [] c = append-nil c
all_add (d ∷ site) c = rw (all_add site c) (sym (append_assoc d (all_codes site) c))

-- context by context
codes_first : (site : Site) (n : ℕ) → n ≤ length site → map (code_at site) (grid (λ i j. record { context = i; place = suc j }) (size_of site) n) ≡ all_codes (take n site)
unfolding grid all_codes
codes_first site zero h = refl
codes_first site (suc n) h =
    let make : ℕ → Event = λ j. record { context = n; place = suc j } in
    let row : map (code_at site) (map make (up_to (size_of site n))) ≡ codes_of site n = map-map (code_at site) make (up_to (size_of site n)) ∙ sym (row_is (λ j. get_or (codes_of site n) j 0) (size_of site n) (codes_of site n) refl (λ i k. refl)) in
    map-append (code_at site) (grid (λ i j. record { context = i; place = suc j }) (size_of site) n) (map make (up_to (size_of site n)))
    ∙ rw (codes_first site n (omega arith), row, take-suc site n [] h) (sym (all_add (take n site) (codes_of site n)))

pub codes_are : (site : Site) → map (code_at site) (events_in site) ≡ all_codes site
unfolding events_in
codes_are site = codes_first site (length site) (omega arith) ∙ ap all_codes (take-length site)

-- so no code has more events done than it stands
pub posting_few : (site : Site) (j x : ℕ) → length (posting_of site (first_events site j) x) ≤ often (all_codes site) x
unfolding posting_of often events_of
posting_few site j x =
    let at : Event → Bool = λ f. eqb (code_at site f) x in
    let is : ℕ → Bool = λ c. eqb c x in
    omega (arith, keep_take at j (events_of in_use site), keep_sort at (event_before in_use site) (events_in site), keep_map is (code_at site) (events_in site), ap (λ (l : List ℕ). length (keep is l)) (codes_are site))

module _ (site : Site) (done : List Event) where
  -- ---- one bucket

  -- a posting that fits
  abbrev pub PostingsFit : Type 0
  PostingsFit = (x : ℕ) → length (posting_of site done x) ≤ often (all_codes site) x

  module _ (fits : PostingsFit) where
    bucket_length : (x : ℕ) → length (bucket site done x) ≡ often (all_codes site) x
    unfolding bucket
    bucket_length x = padded_length (often (all_codes site) x) (map mark (posting_of site done x)) (omega (arith, fits x, length-map (posting_of site done x) mark))

    -- a bucket starts behind as many words as there are codes below
    pub span_is : (x : ℕ) → span_to (bucket site done) x ≡ codes_below (all_codes site) x
    unfolding flat up_to
    span_is zero = sym (below_none (all_codes site))
    span_is (suc x) = omega (arith, span_suc (bucket site done) x, span_is x, bucket_length x, below_suc (all_codes site) x)

    bucket_word : (x n : ℕ) → get_or (bucket site done x) n 0 ≡ get_or (map mark (posting_of site done x)) n 0
    unfolding bucket
    bucket_word x n = padded_at (often (all_codes site) x) (map mark (posting_of site done x)) n

    -- the n-th word of code x
    pub bucket_at : (x n : ℕ) → x < 4096 → n < often (all_codes site) x → get_or (buckets site done) (codes_below (all_codes site) x + n) 0 ≡ get_or (map mark (posting_of site done x)) n 0
    unfolding buckets
    bucket_at x n h k = rw (← span_is x) (rows_at (bucket site done) 4096 x n h (omega (arith, bucket_length x)) ∙ bucket_word x n)

-- all are empty at the start
bucket_start : (site : Site) (x : ℕ) → bucket site [] x ≡ replicate (often (all_codes site) x) 0
unfolding bucket posting_of keep
bucket_start site x = sym (padded_none (often (all_codes site) x))

rows_start : (site : Site) (m : ℕ) → flat (bucket site []) (up_to m) ≡ replicate (codes_below (all_codes site) m) 0
unfolding flat up_to
rows_start site zero = rw (below_none (all_codes site))
rows_start site (suc m) =
    let n = codes_below (all_codes site) m in
    rows_suc (bucket site []) m
    ∙ rw (rows_start site m, bucket_start site m) (replicate-append-replicate n (often (all_codes site) m) 0 ∙ ap (λ (i : ℕ). replicate i 0) (sym (below_suc (all_codes site) m)))

pub buckets_start : (site : Site) → buckets site [] ≡ replicate (codes_below (all_codes site) 4096) 0
unfolding buckets
buckets_start site = rows_start site 4096

-- ---- one event more

-- the postings of one event
module _ (site : Site) (done : List Event) (e : Event) where
  posting_here : posting_of site (done ++ e ∷ []) (code_at site e) ≡ posting_of site done (code_at site e) ++ e ∷ []
  unfolding posting_of keep
  posting_here = posting_add site done e (code_at site e) ∙ rw (eq-eqb (code_at site e) (code_at site e) refl)

  posting_other : (y : ℕ) → (y ≡ code_at site e → ⊥) → posting_of site done y ≡ posting_of site (done ++ e ∷ []) y
  unfolding posting_of keep
  posting_other y d = sym (posting_add site done e y ∙ rw (ne_eqb (code_at site e) y (λ q. d (sym q))) (append-nil _))

  module _ (fits : PostingsFit site (done ++ e ∷ [])) where
    -- there is a word for it
    pub posting_room : length (posting_of site done (code_at site e)) < often (all_codes site) (code_at site e)
    posting_room = omega (arith, fits (code_at site e), ap length posting_here, length-append (posting_of site done (code_at site e)) (e ∷ []))

    bucket_here : set (bucket site done (code_at site e)) (length (posting_of site done (code_at site e))) (mark e) ≡ bucket site (done ++ e ∷ []) (code_at site e)
    unfolding bucket
    bucket_here =
        let n = often (all_codes site) (code_at site e) in
        let f = posting_of site done (code_at site e) in
        ap (λ (i : ℕ). set (padded n (map mark f)) i (mark e)) (sym (length-map f mark))
        ∙ padded_push n (map mark f) (mark e) (omega (arith, posting_room, length-map f mark))
        ∙ ap (padded n) (sym (ap (map mark) posting_here ∙ map-append mark f (e ∷ [])))

    bucket_other : (y : ℕ) → (y ≡ code_at site e → ⊥) → bucket site done y ≡ bucket site (done ++ e ∷ []) y
    unfolding bucket
    bucket_other y d = rw (posting_other y d)

    pub buckets_next : PostingsFit site done → code_at site e < 4096
        → set (buckets site done) (codes_below (all_codes site) (code_at site e) + length (posting_of site done (code_at site e))) (mark e) ≡ buckets site (done ++ e ∷ [])
    unfolding buckets
    buckets_next old h =
        let x = code_at site e in
        rw (← span_is site done old x) (rows_set (bucket site done) (bucket site (done ++ e ∷ [])) 4096 x (length (posting_of site done x)) (mark e) h (omega (arith, bucket_length site done old x, posting_room)) bucket_here bucket_other)
