-- The test of two fractions is the order of the site's ratios, where no denominator is 0.
-- It tells 99/100 and 100/101 apart, which have the same quotient in hundredths.
use mathlib.Core.Bool.{true}
use mathlib.Core.Path.{◌≡◌, refl, sym}
use Prim.Native.Nat.{◌<◌}
use Rattle.site.specs.Ratio.{below}
use Rattle.site.proofs.Ratios.{below_cross}
use Rattle.walk.specs.declared.Fraction.{Fraction}
use Rattle.walk.specs.Fractions.{ratio_of, hundredths, lower}

pub lower_below : (a b : Fraction) → 0 < a.den → 0 < b.den → lower a b ≡ below (ratio_of a) (ratio_of b)
unfolding lower
lower_below a b x y = sym (below_cross a.num a.den b.num b.den x y)

abbrev pub ninety_nine : Fraction
ninety_nine = record { num = 99; den = 100 }

abbrev pub hundred : Fraction
hundred = record { num = 100; den = 101 }

pub rounded_tie : hundredths ninety_nine ≡ hundredths hundred
rounded_tie = refl

pub exact_apart : lower ninety_nine hundred ≡ true
unfolding lower
exact_apart = refl
