-- What a measure is, and what it must satisfy. Jaccard is one.
use Rattle.std.specs.Prelude.{true, false, ◌≡◌, ℕ, suc, pred, ◌+◌, ◌-◌, ◌≤◌, ◌<◌}
use Rattle.site.specs.Ratio.{Ratio, ◌over◌, below}

-- how alike two contexts are, by what they share and by their sizes; and the most that is left to a context of some size from a place on
pub record Measure : Type 0 where
  pub ratio : ℕ → ℕ → ℕ → Ratio
  pub ceiling : ℕ → ℕ → Ratio

-- what every theorem asks of a measure
pub record Lawful (m : Measure) : Type 0 where
  -- the two contexts count alike
  pub even : (s a b : ℕ) → m.ratio s a b ≡ m.ratio s b a
  -- a pair that shares at most what is left from a place on is at most as alike as the ceiling there
  pub bounded : (s a b p : ℕ) → 0 < s → 0 < p → s ≤ b → s + p ≤ suc a → below (m.ceiling a p) (m.ratio s a b) ≡ false
  -- ceilings fall along a context
  pub falls : (a p q : ℕ) → 0 < p → p < q → q ≤ a → below (m.ceiling a q) (m.ceiling a p) ≡ true

-- the codes from a place on, which counts from 1: size - place + 1
abbrev pub left : ℕ → ℕ → ℕ
left size place = size - pred place

-- Jaccard: shared / union, with the ceiling (size - place + 1) / size
unfoldable pub jaccard : Measure
jaccard = record { ratio = λ s a b. s over (a + b - s); ceiling = λ a p. left a p over a }

-- the measure in use: what contracts and checks name
abbrev pub in_use : Measure
in_use = jaccard
