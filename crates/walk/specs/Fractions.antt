-- Fractions of the code, and the site's ratios that they stand for.
use Rattle.std.specs.Prelude.{Bool, ℕ, ◌*◌, ◌/◌, ltb}
use Rattle.site.specs.Ratio.{Ratio, ◌over◌}
use Rattle.walk.specs.declared.Fraction.{Fraction}

-- the ratio of a fraction
abbrev pub ratio_of : Fraction → Ratio
ratio_of a = a.num over a.den

-- the quotient in hundredths: it tells too little to compare by
abbrev pub hundredths : Fraction → ℕ
hundredths a = 100 * a.num / a.den

-- a is below b, by their cross products
unfoldable pub lower : Fraction → Fraction → Bool
lower a b = ltb (a.num * b.den) (b.num * a.den)
