-- The division of two counts that were cast to f64 is their quotient, rounded once: an f64 holds both counts as they are.
use mathlib.Core.Bool.{true, false, true≢false}
use mathlib.Core.Path.{◌≡◌, refl, sym, ◌∙◌}
use Prim.Native.Nat.{ℕ, ◌*◌, ◌^◌, ◌<◌}
use native.Mathlib.Nat.{lt_irrefl, mul-pos, mul-one, zero-mul}
use native.Mathlib.Omega.{arith}
use borrow.Author.Tests.{ne_eqb}
use lib.IntN.{pos}
use lib.Ieee.{Float, nan, inf, fin, Format, binary64, up, down, round, div, of_int, of_bits}
use lib.Ieee.Fits.{down_pos}
use lib.Ieee.Exact.{HasValue}
use lib.Ieee.Back.{round_whole}
use lib.Ieee.Scale.{round_same}
use Rattle.std.proofs.Common.{Result, Ok, Err}
use Rattle.refusal.specs.declared.Refusal.{Refusal}
use Rattle.heat.specs.declared.Cell.{Cell}
use Rattle.heat.specs.CellAnswer.{cell_said}
use Rattle.heat.specs.Answers.{cell_value, value_shown}
use Rattle.heat.specs.Cells.{nought, quotient}

cross : (a b x y p q : ℕ) → x ≡ a * p → y ≡ b * q → x * q * b ≡ a * (y * p)
cross a b x y p q e f = rw (e, f) (omega arith)

-- of two floats that are whole numbers and not negative
div_whole : (f : Format) (x y : Float) (a b : ℕ) → 0 < b → HasValue x false a 1 → HasValue y false b 1 → div f x y ≡ round f false a b
unfolding div
div_whole f nan y a b B h k = absurd h
div_whole f (inf s) y a b B h k = absurd h
div_whole f (fin true m e) y a b B h k = absurd (true≢false h.0)
div_whole f (fin false m e) nan a b B h k = absurd k
div_whole f (fin false m e) (inf t) a b B h k = absurd k
div_whole f (fin false m e) (fin true n d) a b B h k = absurd (true≢false k.0)
div_whole f (fin false m e) (fin false n d) a b B h k =
    let x : m * up e ≡ a * down e = sym (mul-one (m * up e)) ∙ h.1 in
    let y : n * up d ≡ b * down d = sym (mul-one (n * up d)) ∙ k.1 in
    let some : 0 < n * up d = rw y (mul-pos B (down_pos d)) in
    rw (ne_eqb n 0 (λ (z : n ≡ 0). lt_irrefl 0 (rw (z, zero-mul (up d)) at some)))
    (round_same f false (m * up e * down d) (n * up d * down e) a b (mul-pos some (down_pos e)) B (cross a b (m * up e) (n * up d) (down e) (down d) x y))

-- two counts of the code, cast and divided
pub divided : (s u : ℕ) → s < 2 ^ 16 → u < 2 ^ 16 → 0 < u → div binary64 (of_int binary64 (pos s)) (of_int binary64 (pos u)) ≡ quotient s u
unfolding quotient of_int
divided s u S U h = div_whole binary64 _ _ s u h (round_whole binary64 false s (omega arith)) (round_whole binary64 false u (omega arith))

-- and 0.0 is nought
pub zero_is : of_bits binary64 0 ≡ nought
unfolding of_bits
zero_is = refl

-- the value of what a result holds is that of what it says
pub value_told : (r : Result Cell Refusal) → value_shown r ≡ cell_value (cell_said r)
unfolding cell_value
value_told (Ok c) = refl
value_told (Err e) = refl
