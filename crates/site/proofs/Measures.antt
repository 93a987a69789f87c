-- Jaccard satisfies what a measure must; it is the measure in use.
use mathlib.Core.Path.{◌≡◌, refl}
use Prim.Native.Nat.{◌+◌, ◌-◌}
use native.Mathlib.Nat.{add_comm, mul-le-mul, mul-lt-mul_of_pos_right}
use native.Mathlib.Omega.{arith}
use Rattle.site.specs.Ratio.{◌over◌}
use Rattle.site.specs.Measure.{Lawful, left, jaccard, in_use}
use Rattle.site.specs.Site.{Site, Pair, size_of, shared_of, union_of, union, similarity}
use Rattle.site.specs.Events.{Event, ceiling_at}
use Rattle.site.proofs.Ratios.{over_at_most, over_below}

pub jaccard_lawful : Lawful jaccard
unfolding jaccard
jaccard_lawful = record {
  even = λ s a b. rw (add_comm a b);
  bounded = λ s a b p hs hp sb sa. over_at_most s (a + b - s) (left a p) a (omega arith) (omega arith) (mul-le-mul (omega arith) (omega arith));
  falls = λ a p q hp pq qa. over_below (left a q) a (left a p) a (omega arith) (omega arith) (mul-lt-mul_of_pos_right (omega arith) (omega arith));
}

pub in_use_lawful : Lawful in_use
in_use_lawful = jaccard_lawful

-- ---- the measure in use: what the code computes with

pub similarity_is : (site : Site) (p : Pair) → similarity in_use site p ≡ shared_of site p over union_of site p
unfolding jaccard union
similarity_is site p = refl

pub ceiling_is : (site : Site) (e : Event) → ceiling_at in_use site e ≡ left (size_of site e.context) e.place over size_of site e.context
unfolding jaccard
ceiling_is site e = refl
