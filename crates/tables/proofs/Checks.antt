-- Checks one after the other: what a chain tells where one refuses, and where all accept.
-- Tables that pass 1 to 5 are sound.
use mathlib.Core.Bool.{Bool, true, false, ◌||◌}
use mathlib.Core.List.{List}
use mathlib.Core.Path.{◌≡◌, refl, sym, ◌∙◌}
use Prim.Native.Nat.{ℕ, ◌≤◌, ◌<◌}
use native.Mathlib.Omega.{arith}
use lib.Dec.{eqb, ltb}
use lib.ListN.{length}
use borrow.Author.Tests.{ltb-false, eqb-false}
use Rattle.tables.specs.Checks.{when, ◌and_then◌, sizes_check, offsets_check, codes_check, tables_check}
use Rattle.tables.specs.Sound.{Sound}
use Rattle.tables.specs.Check.{Check}
use Rattle.tables.specs.Check.{Fine, Refused}

-- ---- a chain of checks

-- what refuses first is what the chain says
pub refused_first : {first r : Check} (next : Check) {n p : ℕ} → r ≡ first → r ≡ Refused n p → r ≡ first and_then next
refused_first next e f = f ∙ sym (rw (← e, f))

-- where the first accepts, the chain says what the next says
pub fine_first : {first next r s : Check} → s ≡ first → s ≡ Fine → r ≡ next → r ≡ first and_then next
fine_first e f g = g ∙ sym (rw (← e, f))

-- a chain that accepts accepts twice
pub both_fine : (first next : Check) → first and_then next ≡ Fine → (first ≡ Fine) × (next ≡ Fine)
both_fine Fine next e = (refl, e)
both_fine (Refused n p) next e = let z : ◌≡◌ {A = ℕ} 0 1 = cc e in absurd (omega arith)

pub when_fine : (b : Bool) (n : ℕ) (next : Check) → when b n next ≡ Fine → (b ≡ false) × (next ≡ Fine)
when_fine true n next e = let z : ◌≡◌ {A = ℕ} 0 1 = cc e in absurd (omega arith)
when_fine false n next e = (refl, e)

-- ---- what is accepted

pub record Sizes (k offsets codes : ℕ) : Type 0 where
  pub asked : 0 < k
  pub most : k ≤ 64
  pub some : 0 < offsets
  pub few : offsets ≤ 257
  pub short : codes ≤ 4096

pub sizes_fine : (k offsets codes : ℕ) → sizes_check k offsets codes ≡ Fine → Sizes k offsets codes
unfolding sizes_check
sizes_fine k n m e =
    let a = when_fine _ 1 _ e in
    let b = when_fine _ 2 _ a.1 in
    let x = neither (eqb k 0) (ltb 64 k) a.0 in
    let y = neither (eqb n 0 || ltb 257 n) (ltb 4096 m) b.0 in
    let z = neither (eqb n 0) (ltb 257 n) y.0 in
    record { asked = positive k (eqb-false k 0 x.0); most = ltb-false 64 k x.1; some = positive n (eqb-false n 0 z.0); few = ltb-false 257 n z.1; short = ltb-false 4096 m y.1 }
  where
    positive : (n : ℕ) → (n ≡ 0 → ⊥) → 0 < n
    positive n h = omega arith

    neither : (a b : Bool) → (a || b) ≡ false → (a ≡ false) × (b ≡ false)
    neither true b e = let z : ◌≡◌ {A = ℕ} 0 1 = cc e in absurd (omega arith)
    neither false b e = (refl, e)

-- k and tables that pass 1 to 5
pub record Accepted (k : ℕ) (offsets codes : List ℕ) : Type 0 where
  pub asked : 0 < k
  pub most : k ≤ 64
  pub sound : Sound offsets codes

pub accepted : (k : ℕ) (offsets codes : List ℕ) → tables_check k offsets codes ≡ Fine → Accepted k offsets codes
unfolding tables_check
accepted k os cs e =
    let a = both_fine (sizes_check k (length os) (length cs)) _ e in
    let b = both_fine (offsets_check os (length cs)) (codes_check os cs) a.1 in
    let z = sizes_fine k (length os) (length cs) a.0 in
    record { asked = z.asked; most = z.most; sound = record { some = z.some; few = z.few; short = z.short; cut = b.0; rising = b.1 } }
