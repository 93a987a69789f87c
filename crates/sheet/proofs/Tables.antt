-- The tables of a site: one more context.
use mathlib.Core.Path.{◌≡◌, refl, ap}
use mathlib.Core.List.{List, [], ◌∷◌, ◌++◌, append_assoc, append-nil}
use Prim.Native.Nat.{ℕ, suc, ◌+◌, ◌≤◌}
use native.Mathlib.Nat.{add-zero}
use native.Mathlib.Omega.{arith}
use lib.ListN.{length, take, length-append, length-take}
use Rattle.site.specs.Tables.{offsets_from, all_codes}

pub all_snoc : (site : List (List ℕ)) (c : List ℕ) → all_codes (site ++ (c ∷ [])) ≡ all_codes site ++ c
unfolding all_codes
all_snoc [] c = append-nil c
all_snoc (d ∷ site) c = rw (all_snoc site c, append_assoc)

pub offsets_snoc : (a : ℕ) (site : List (List ℕ)) (c : List ℕ)
    → offsets_from a (site ++ (c ∷ [])) ≡ offsets_from a site ++ ((a + length (all_codes site) + length c) ∷ [])
unfolding offsets_from all_codes
offsets_snoc a [] c = rw add-zero
offsets_snoc a (d ∷ site) c =
    let e : a + length d + length (all_codes site) + length c ≡ a + (length d + length (all_codes site)) + length c = omega arith in
    rw (offsets_snoc (a + length d) site c, length-append, e)

pub offsets_length : (a : ℕ) (site : List (List ℕ)) → length (offsets_from a site) ≡ suc (length site)
unfolding offsets_from
offsets_length a [] = refl
offsets_length a (c ∷ site) = ap suc (offsets_length (a + length c) site)

-- a front is within the whole
pub front_fits : (n : ℕ) (xs ys : List ℕ) → take n xs ≡ ys → length ys ≡ n → n ≤ length xs
front_fits n xs ys e h = omega (arith, ap length e, length-take n xs)
