-- The tables of a site are not refused: with `fine_is_site`, what passes the checks is the tables of a site and nothing else.
-- A site's offsets rise from 0 to the number of its codes, and cut the site again.
use mathlib.Core.List.{List, [], ◌∷◌}
use mathlib.Core.List.Memᴰ.{head as here}
use mathlib.Core.Logic.{⊎_elim}
use mathlib.Core.Path.{◌≡◌, refl, sym, ap, ◌∙◌}
use Prim.Native.Nat.{ℕ, zero, suc, ◌+◌, ◌-◌, ◌≤◌, ◌<◌}
use native.Mathlib.Numerals.{add-one}
use native.Mathlib.Omega.{arith}
use borrow.Author.Tests.{ltb-true}
use lib.Dec.{ltb}
use lib.ListN.{length, get_or, length-append}
use lib.Seq.{slice, length-slice}
use Rattle.order.specs.Order.{Sorted}
use Rattle.site.specs.Site.{Site, codes_of}
use Rattle.site.specs.Tables.{site_of, offsets_from, all_codes}
use Rattle.site.proofs.Tables.{site_codes, slice_at}
use Rattle.tables.specs.Checks.{tables_check}
use Rattle.tables.specs.Refusals.{Breaks, wrong_k, wrong_sizes, wrong_offset, large_code, code_falls, Stands}
use Rattle.tables.specs.Check.{Fine}
use Rattle.tables.proofs.Cuts.{site_back}
use Rattle.tables.proofs.Refusals.{fine_exactly}

-- ---- the offsets of a site

from_first : (a : ℕ) (site : Site) → get_or (offsets_from a site) 0 0 ≡ a
unfolding offsets_from
from_first a [] = refl
from_first a (c ∷ site) = refl

from_rises : (a : ℕ) (site : Site) (i : ℕ) → suc i < length (offsets_from a site) → get_or (offsets_from a site) i 0 ≤ get_or (offsets_from a site) (suc i) 0
unfolding offsets_from
from_rises a [] i h = absurd (omega arith)
from_rises a (c ∷ site) zero h = rw (from_first (a + length c) site) (omega arith)
from_rises a (c ∷ site) (suc i) h = from_rises (a + length c) site i (omega arith)

from_last : (a : ℕ) (site : Site) (i : ℕ) → suc i ≡ length (offsets_from a site) → get_or (offsets_from a site) i 0 ≡ a + length (all_codes site)
unfolding offsets_from all_codes
from_last a [] zero h = omega arith
from_last a [] (suc i) h = absurd (omega arith)
from_last a (c ∷ []) zero h = absurd (omega arith)
from_last a (c ∷ d ∷ site) zero h = absurd (omega arith)
from_last a (c ∷ site) (suc i) h = from_last (a + length c) site i (omega arith) ∙ omega (arith, length-append c (all_codes site))

from_within : (a : ℕ) (site : Site) (i : ℕ) → i < length (offsets_from a site) → get_or (offsets_from a site) i 0 ≤ a + length (all_codes site)
unfolding offsets_from all_codes
from_within a [] zero h = omega arith
from_within a [] (suc i) h = absurd (omega arith)
from_within a (c ∷ site) zero h = omega arith
from_within a (c ∷ site) (suc i) h = omega (arith, from_within (a + length c) site i (omega arith), length-append c (all_codes site))

-- codes that rise, step by step
steps : (xs : List ℕ) → Sorted ltb xs → (n : ℕ) → suc n < length xs → get_or xs n 0 < get_or xs (suc n) 0
steps [] s n h = absurd (omega arith)
steps (x ∷ []) s n h = absurd (omega arith)
steps (x ∷ y ∷ xs) s zero h = ltb-true x y (s.0 y (here refl))
steps (x ∷ y ∷ xs) s (suc n) h = steps (y ∷ xs) s.1 n (omega arith)

-- ---- no rule is broken

module _ {k : ℕ} {os cs : List ℕ} {site : Site} (S : Stands k os cs site) where
  first : get_or os 0 0 ≡ 0
  first = rw S.offsets_are at (from_first 0 site)

  rises : (i : ℕ) → suc i < length os → get_or os i 0 ≤ get_or os (suc i) 0
  rises i h = rw S.offsets_are at (from_rises 0 site i (rw S.offsets_are h))

  last : (i : ℕ) → suc i ≡ length os → get_or os i 0 ≡ length cs
  last i h = (rw S.offsets_are at (from_last 0 site i (rw S.offsets_are h))) ∙ rw S.codes_are (omega arith)

  within : (i : ℕ) → i < length os → get_or os i 0 ≤ length cs
  within i h = let l = rw (S.offsets_are, S.codes_are) at (from_within 0 site i (rw S.offsets_are h)) in omega arith

  cuts : site_of os cs ≡ site
  cuts = rw (S.offsets_are, S.codes_are) at (site_back [] site)

  part : (c : ℕ) → c + 1 < length os → codes_of site c ≡ slice (get_or os c 0) (get_or os (c + 1) 0) cs
  part c h = ap (λ (s : Site). codes_of s c) (sym cuts) ∙ rw (add-one c) (site_codes os cs c (omega arith))

  -- in its context each code is above the one before
  above : (c i : ℕ) → c + 1 < length os → get_or os c 0 < i → i < get_or os (c + 1) 0 → get_or cs (i - 1) 0 < get_or cs i 0
  above c i h lo hi =
      let a = get_or os c 0 in
      let b = get_or os (c + 1) 0 in
      let n = i - 1 - a in
      let s : Sorted ltb (slice a b cs) = rw (part c h) at (S.rising.rises c) in
      let l : suc n < length (slice a b cs) = rw (length-slice a b cs (within (c + 1) h)) (omega arith) in
      let x : a + n ≡ i - 1 = omega arith in
      let y : a + suc n ≡ i = omega arith in
      rw (slice_at a b cs n (omega arith), slice_at a b cs (suc n) (omega arith), x, y) at (steps (slice a b cs) s n l)

  none : (n p : ℕ) → Breaks k os cs n p → ⊥
  none n p (wrong_k w) = ⊎_elim (λ e. omega (arith, S.asked)) (λ l. omega (arith, S.most)) w
  none n p (wrong_sizes w) = ⊎_elim (λ e. omega (arith, S.contexts)) (λ r. ⊎_elim (λ l. omega (arith, S.contexts, S.few)) (λ l. omega (arith, S.short)) r) w
  none n p (wrong_offset h w) = ⊎_elim
      (λ f. f.1 (ap (λ (i : ℕ). get_or os i 0) f.0 ∙ first))
      (λ r. ⊎_elim (λ f. falls p h f.0 f.1) (λ f. f.1 (last p (omega (arith, f.0)))) r) w
    where
      falls : (p : ℕ) → p < length os → 0 < p → get_or os p 0 < get_or os (p - 1) 0 → ⊥
      falls zero h l f = omega arith
      falls (suc p) h l f = let e : suc p - 1 ≡ p = omega arith in omega (arith, rises p h, rw e at f)
  none n p (large_code h w) = omega (arith, S.small p h)
  none n p (code_falls h c w) = omega (arith, w.fallen, above c p w.context w.before w.inside)

  pub site_is_fine : tables_check k os cs ≡ Fine
  site_is_fine = (fine_exactly k os cs).1 none
