-- The digits at a front, and the number that they say: its scan says of the whole what is still to be said of the rest from i on.
use mathlib.Core.Bool.{Bool, true, false, cond}
use mathlib.Core.Path.{◌≡◌, refl, ◌∙◌}
use mathlib.Core.List.{List, [], ◌∷◌}
use Prim.Native.Nat.{ℕ, suc, ◌+◌, ◌-◌, ◌*◌, ◌≤◌, ◌<◌, min}
use native.Mathlib.Nat.{le_refl}
use native.Mathlib.Numerals.{add-one}
use native.Mathlib.Omega.{arith}
use borrow.Author.Tests.{ne_eqb}
use lib.ListN.{length, get_or, drop, drop_of_length-le}
use lib.Seq.{drop-cons, take_all}
use Rattle.std.specs.Char.{is_ascii_digit}
use Rattle.std.specs.List.{prefix_len, take_while}
use Rattle.std.proofs.lemmas.List.Folds.{length-prefix_len}
use Rattle.sheet.specs.Number.{value_from, value_of, is_digit, digit_run, most_digits, digits_in}
use Rattle.sheet.proofs.Numbers.{cap}

-- the digits at the front, counted
pub run_counted : (w : List ℕ) {n : ℕ} → n ≡ length (take_while is_ascii_digit w) → n ≡ length (digit_run w)
unfolding digit_run
run_counted w e = e ∙ length-prefix_len is_ascii_digit w ∙ run_is w
  where
    one : (t : Bool) (b : ℕ) {n : ℕ} (bs : List ℕ) → n ≡ length bs → cond t (1 + n) 0 ≡ length (cond t (b ∷ bs) [])
    one true b bs e = omega arith
    one false b bs e = refl

    run_is : (w : List ℕ) → prefix_len is_ascii_digit w ≡ length (digit_run w)
    run_is [] = refl
    run_is (b ∷ bs) = one (is_digit b) b (digit_run bs) (run_is bs)

-- how many can stand in a number
pub digits_none : (w : List ℕ) → length w ≡ 0 → 0 ≡ length (digits_in w)
unfolding digits_in most_digits digit_run
digits_none [] z = refl
digits_none (b ∷ w) z = absurd (omega arith)

-- a 0 stands alone
pub digits_zero : (w : List ℕ) → (length w ≡ 0 → ⊥) → get_or w 0 0 ≡ 48 → 1 ≡ length (digits_in w)
unfolding digits_in most_digits digit_run
digits_zero [] s e = absurd (s refl)
digits_zero (b ∷ w) s e = let f : b ≡ 48 = e in rw f

-- any other digit stands with those behind it
pub digits_all : (w : List ℕ) → (get_or w 0 0 ≡ 48 → ⊥) → {n : ℕ} → n ≡ length (digit_run w) → n ≡ length (digits_in w)
unfolding digits_in most_digits
digits_all w d e = e ∙ rw (ne_eqb (get_or w 0 0) 48 d, take_all (length w) w (le_refl (length w)))

-- the digits up to i say v, or more than is counted
pub record Valued (bs : List ℕ) (v i : ℕ) : Type 0 where
  pub within : i ≤ length bs
  pub few : v ≤ 65536
  pub same : min 65536 (value_of bs) ≡ min 65536 (value_from v (drop i bs))

module _ {bs : List ℕ} {v i : ℕ} (w : Valued bs v i) where
  -- all digits are counted
  pub valued_end : length bs ≤ i → v ≡ min 65536 (value_of bs)
  unfolding value_from
  valued_end h = let e = rw (drop_of_length-le bs h) at w.same in omega (arith, w.few)

  -- one digit more
  pub valued_next : {u : ℕ} → i < length bs → u ≡ min 65536 (v * 10 + (get_or bs i 0 - 48)) → Valued bs u (i + 1)
  unfolding value_from
  valued_next {u} h e =
      record {
        within = omega arith;
        few = omega arith;
        same = w.same ∙ rw (drop-cons bs i 0, cap (v * 10 + (get_or bs i 0 - 48)) (drop (suc i) bs), ← e, add-one);
      }
