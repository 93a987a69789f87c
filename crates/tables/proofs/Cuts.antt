-- Tables and sites, both ways: the site of sound tables has these tables,
-- and the tables of a site have this site.
use mathlib.Core.Path.{◌≡◌, refl, sym, subst, ap, ap₂, ◌∙◌}
use mathlib.Core.List.{List, [], ◌∷◌, ◌++◌, append_assoc}
use Prim.Native.Nat.{ℕ, zero, suc, ◌+◌, ◌≤◌, ◌<◌}
use native.Mathlib.Nat.{not-suc-le-zero, le_of_suc-le-suc}
use native.Mathlib.Numerals.{add-one}
use native.Mathlib.Omega.{arith}
use lib.ListN.{length, get_or, drop, length-append, drop_of_length-le}
use lib.Seq.{slice, take-append_seam, drop-append_seam, take-append-add, length-slice}
use Rattle.site.specs.Tables.{site_of, offsets_from, offsets_of, all_codes}
use Rattle.tables.specs.Sound.{Sound}
use Rattle.tables.proofs.Sound.{offset_first, offset_last, offset_rises, offset_within}

-- offsets that rise to n
abbrev pub Cut : List ℕ → ℕ → Type 0
Cut [] n = ⊥
Cut (a ∷ []) n = a ≡ n
Cut (a ∷ b ∷ os) n = (a ≤ b) × (b ≤ n) × Cut (b ∷ os) n

cut_of : (os : List ℕ) (n : ℕ) → 0 < length os → ((i : ℕ) → suc i < length os → get_or os i 0 ≤ get_or os (suc i) 0)
    → ((i : ℕ) → suc i < length os → get_or os (suc i) 0 ≤ n) → ((i : ℕ) → suc i ≡ length os → get_or os i 0 ≡ n) → Cut os n
cut_of [] n s r f l = absurd (omega arith)
cut_of (a ∷ []) n s r f l = l 0 refl
cut_of (a ∷ b ∷ os) n s r f l =
    (r 0 (omega arith), f 0 (omega arith), cut_of (b ∷ os) n (omega arith) (λ i h. r (suc i) (omega arith)) (λ i h. f (suc i) (omega arith)) (λ i h. l (suc i) (omega arith)))

pub sound_cut : {os cs : List ℕ} → Sound os cs → Cut os (length cs)
sound_cut {os} {cs} S =
    cut_of os (length cs) S.some (λ i h. rw (add-one i) at (offset_rises S i (omega arith))) (λ i h. rw (add-one i) at (offset_within S (i + 1) (omega arith))) (λ i h. offset_last S i (omega arith))

-- the site's offsets are the offsets
pub offsets_back : (a : ℕ) (os cs : List ℕ) → Cut (a ∷ os) (length cs) → offsets_from a (site_of (a ∷ os) cs) ≡ a ∷ os
unfolding offsets_from site_of
offsets_back a [] cs c = refl
offsets_back a (b ∷ os) cs c =
    let e : a + length (slice a b cs) ≡ b = rw (length-slice a b cs c.1) (omega (arith, c.0)) in
    rw e (ap (λ (l : List ℕ). a ∷ l) (offsets_back b os cs c.2))

-- and its codes the codes from the first offset on
pub codes_back : (a : ℕ) (os cs : List ℕ) → Cut (a ∷ os) (length cs) → all_codes (site_of (a ∷ os) cs) ≡ drop a cs
unfolding all_codes site_of
codes_back a [] cs c = sym (drop_of_length-le cs {i = a} (omega (arith, c)))
codes_back a (b ∷ os) cs c = rw (codes_back b os cs c.2) (slice_rest a b cs c.0)
  where
    slice_rest : (a b : ℕ) (l : List ℕ) → a ≤ b → slice a b l ++ drop b l ≡ drop a l
    slice_rest zero zero l h = refl
    slice_rest zero (suc b) [] h = refl
    slice_rest zero (suc b) (x ∷ l) h = ap (λ (t : List ℕ). x ∷ t) (slice_rest zero b l (omega arith))
    slice_rest (suc a) zero l h = absurd (not-suc-le-zero h)
    slice_rest (suc a) (suc b) [] h = refl
    slice_rest (suc a) (suc b) (x ∷ l) h = slice_rest a b l (le_of_suc-le-suc h)

-- so the codes of sound tables are those of their site
codes_of : (os cs : List ℕ) → Sound os cs → all_codes (site_of os cs) ≡ cs
codes_of [] cs S = absurd (omega (arith, S.some))
codes_of (a ∷ os) cs S = codes_back a os cs (sound_cut S) ∙ ap (λ (n : ℕ). drop n cs) (offset_first S)

pub all_codes_lem : {os cs : List ℕ} → Sound os cs → all_codes (site_of os cs) ≡ cs
all_codes_lem {os} {cs} S = codes_of os cs S

-- the tables of a site cut it again
middle : (p c q : List ℕ) → slice (length p) (length p + length c) (p ++ (c ++ q)) ≡ c
middle p c q = rw (take-append-add p (c ++ q) (length c), take-append_seam c q, drop-append_seam p c)

pub site_back : (p : List ℕ) (site : List (List ℕ)) → site_of (offsets_from (length p) site) (p ++ all_codes site) ≡ site
unfolding offsets_from site_of all_codes
site_back p [] = refl
site_back p (c ∷ []) = ap (λ (l : List ℕ). l ∷ []) (middle p c [])
site_back p (c ∷ d ∷ site) = ap₂ ◌∷◌ (middle p c (d ++ all_codes site)) (rw append_assoc at
    (subst (λ (n : ℕ). site_of (offsets_from n (d ∷ site)) ((p ++ c) ++ all_codes (d ∷ site)) ≡ d ∷ site) (length-append p c) (site_back (p ++ c) (d ∷ site))))

-- sound tables are the tables of their site
pub tables_back : {os cs : List ℕ} → Sound os cs → (offsets_of (site_of os cs) ≡ os) × (all_codes (site_of os cs) ≡ cs)
tables_back {os} {cs} s = back os (sound_cut s) (offset_first s)
  where
    back : (os : List ℕ) → Cut os (length cs) → get_or os 0 0 ≡ 0 → (offsets_of (site_of os cs) ≡ os) × (all_codes (site_of os cs) ≡ cs)
    back [] c z = absurd c
    back (a ∷ os) c z = let e : a ≡ 0 = z in (subst (λ (x : ℕ). offsets_from x (site_of (a ∷ os) cs) ≡ a ∷ os) e (offsets_back a os cs c), codes_back a os cs c ∙ ap (λ (x : ℕ). drop x cs) e)
