-- Accepted tables of two contexts: these can be walked.
use Rattle.std.proofs.Common.{◌≡◌, ◌<◌, ◌≤◌, ℕ, List, length, arith}
use lib.Dec.{ltb}
use Rattle.order.specs.Order.{Sorted}
use Rattle.site.specs.Site.{codes_of}
use Rattle.tables.specs.declared.accepted.Tables.{Tables}
use Rattle.tables.specs.Accepted.{the_site}
use Rattle.tables.proofs.Sound.{contexts_are, two_parts}

module _ (t : Tables) {n : ℕ} (told : n ≡ length (the_site t)) (two : n < 2 → ⊥) where
  pub second : 2 < length t.offsets.now
  second = omega (arith, contexts_are t.sound, told, two)

  pub walkable : {xs ys : List ℕ} → xs ≡ codes_of (the_site t) 0 → ys ≡ codes_of (the_site t) 1
      → (Sorted ltb xs × Sorted ltb ys) × ((length xs ≤ 4096) × (length ys ≤ 4096))
  walkable d e = two_parts t.sound 0 1 (omega (arith, second)) (omega (arith, second)) d e
