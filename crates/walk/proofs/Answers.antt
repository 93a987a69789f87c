-- What the leaf's answer tells of the first shared code: its place in the first context, or that there is none.
-- Callers use these laws and never open the answer's definition.
use mathlib.Core.List.{List}
use mathlib.Core.Path.{◌≡◌, sym, ◌∙◌}
use Prim.Native.Nat.{ℕ, ◌<◌}
use native.Mathlib.Omega.{arith}
use lib.Dec.{ltb}
use lib.ListN.{length}
use borrow.Author.Tests.{ltb-false}
use Rattle.order.proofs.Lists.{cases}
use Rattle.site.specs.declared.Place.{Place}
use Rattle.site.specs.Site.{shared}
use Rattle.site.specs.Events.{meet_of, first_place}
use Rattle.site.proofs.Contexts.{first_shared}
use Rattle.words.proofs.Split.{by_le}
use Rattle.walk.specs.Meet.{Meeting, At, Nowhere, meeting_of, place}

module _ (xs ys : List ℕ) {r : Meeting} (e : r ≡ meeting_of (meet_of xs ys)) where
  -- the place found is that of the first shared code
  pub at_first : {p q : Place} → r ≡ At p q → p.0 ≡ first_place xs ys
  unfolding meet_of
  at_first {p} {q} a = cases (ltb 0 (shared xs ys))
      (λ t. let z : At p q ≡ At (place (first_place xs ys)) (place (first_place ys xs)) = sym a ∙ e ∙ rw t in cc z)
      (λ f. let z : At p q ≡ Nowhere = sym a ∙ e ∙ rw f in let n : ◌≡◌ {A = ℕ} 0 1 = cc z in absurd (omega arith))

  -- and where none is found, there is none
  pub nowhere_first : r ≡ Nowhere → length xs < first_place xs ys
  unfolding meet_of
  nowhere_first a = by_le (first_place xs ys) (length xs)
      (λ h. cases (ltb 0 (shared xs ys))
      (λ t. let z : Nowhere ≡ At (place (first_place xs ys)) (place (first_place ys xs)) = sym a ∙ e ∙ rw t in let n : ◌≡◌ {A = ℕ} 0 1 = cc z in absurd (omega arith))
      (λ f. absurd (omega (arith, ltb-false 0 (shared xs ys) f, first_shared xs ys h))))
      (λ h. h)
