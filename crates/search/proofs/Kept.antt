-- The two buffers in the search: they start empty, and one more pair goes into both.
-- The list is the entries' matter; here are the words of the trail, which are written only where there is room.
use mathlib.Core.List.{List, [], ◌∷◌, ◌++◌}
use mathlib.Core.Path.{◌≡◌, refl, sym, ap, ◌∙◌}
use Prim.Native.Nat.{ℕ, ◌+◌, ◌*◌, ◌≤◌, ◌<◌, min}
use native.Mathlib.Omega.{arith}
use lib.ListN.{length, set, replicate, length-append}
use Rattle.site.specs.Site.{Site, Rising, Pair, shared, shared_of}
use Rattle.site.specs.Events.{pair_of}
use Rattle.site.specs.declared.Context.{Context}
use Rattle.site.proofs.Contexts.{shared_turn}
use Rattle.site.proofs.Meeting.{of_pair}
use Rattle.words.specs.Words.{flat, Begins}
use Rattle.words.proofs.Words.{flat_append, flat_one, flat_length, begins_two}
use Rattle.entries.specs.Entries.{entry_of, Inserts}
use Rattle.entries.specs.declared.Entry.{Entry}
use Rattle.entries.proofs.Alike.{union_positive}
use Rattle.entries.proofs.Listed.{listed_start, listed_add}
use Rattle.search.specs.Search.{context_is, shared_by, pairs_part, Kept, Takes, After}
use Rattle.search.specs.Outcome.{numbers, trail_words}
use Rattle.search.specs.declared.Counts.{Counts}

pub trail_length : (pairs : List Pair) → length (trail_words pairs) ≡ 2 * length pairs
trail_length pairs = flat_length numbers 2 (λ p. refl) pairs

pub kept_start : (site : Site) (k : ℕ) {list buffer : List ℕ} → list ≡ replicate (length list) 0 → Kept site k [] list buffer (record { found = 0; met = 0 })
unfolding flat
kept_start site k {list} e = record { listed = rw e (listed_start site k (length list)); trailed = λ h. refl; met = refl }

-- what two contexts share does not depend on their order
module _ {site : Site} (R : Rising site) (c d : Context) where
  pub pair_shared : shared_of site (pair_of (context_is c) (context_is d)) ≡ shared_by site c d
  pair_shared = of_pair site shared (context_is c) (context_is d) (shared_turn R d.0 c.0)

  -- where they share a code, the union of their entry is not 0
  pub entry_positive : {e : Entry} → e ≡ entry_of site (pair_of (context_is c) (context_is d)) → 0 < shared_by site c d → 0 < e.union
  entry_positive {e} q h = let s : 0 < shared_of site (pair_of (context_is c) (context_is d)) = rw pair_shared h in omega (arith, ap (λ (f : Entry). f.union) q, union_positive R (pair_of (context_is c) (context_is d)) s)

module _ {site : Site} (R : Rising site) (k : ℕ) (p : Pair) where
  pub kept_add : {list buffer out : List ℕ} {t : Counts} {e : Entry} → e ≡ entry_of site p
      → length out ≡ length buffer → (2 * t.met + 2 ≤ length buffer → out ≡ set (set buffer (2 * t.met) e.lower.0) (2 * t.met + 1) e.higher.0)
      → {found : ℕ} {list' : List ℕ} → found ≡ min k (t.found + 1) → Inserts k e t.found list list'
      → Takes site k (p ∷ []) list buffer t list' out (record { found = found; met = t.met + 1 })
  kept_add {list} {buffer} {out} {t} {e} q same put m o pairs proper kept = record {
    listed = listed_add R kept.listed p proper m (rw q at o);
    trailed = λ h. on_trail h;
    met = omega (arith, kept.met, length-append pairs (p ∷ []));
  }
    where
      on_trail : 2 * length (pairs ++ p ∷ []) ≤ length out → Begins out (trail_words (pairs ++ p ∷ []))
      on_trail h =
          let fits : 2 * t.met + 2 ≤ length buffer = omega (arith, same, kept.met, length-append pairs (p ∷ [])) in
          let w : trail_words pairs ++ numbers p ≡ trail_words (pairs ++ p ∷ []) = sym (flat_append numbers pairs (p ∷ []) ∙ ap (λ (l : List ℕ). trail_words pairs ++ l) (flat_one numbers p)) in
          let put' : out ≡ set (set buffer (2 * t.met) p.lower) (2 * t.met + 1) p.higher = rw q at (put fits) in
          rw (put', ← w) (begins_two buffer (trail_words pairs) (omega (arith, trail_length pairs, kept.met)) (kept.trailed (omega (arith, kept.met))) p.lower p.higher fits)

-- where the marks of the pairs stay as they are
pub after_same : {site : Site} {k : ℕ} {pairs : List Pair} {list work work' buffer : List ℕ} {t : Counts} → After site k pairs list work buffer t → pairs_part work' ≡ pairs_part work → After site k pairs list work' buffer t
after_same a e = record { kept = a.kept; seen = λ h. e ∙ a.seen h }
