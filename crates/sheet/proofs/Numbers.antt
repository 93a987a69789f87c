-- The number that digits say, and the digits at a front.
use mathlib.Core.Path.{◌≡◌, refl, sym, ap, ◌∙◌}
use mathlib.Core.Bool.{true, false}
use mathlib.Core.List.{List, [], ◌∷◌}
use Prim.Native.Nat.{ℕ, zero, suc, ◌+◌, ◌-◌, ◌*◌, ◌≤◌, min, zero-le, suc-le-suc}
use native.Mathlib.Nat.{le_refl, le_trans, not-suc-le-zero, le_of_suc-le-suc}
use native.Mathlib.Omega.{arith}
use borrow.Author.Tests.{le-leb, lt-leb, eq-eqb, ne_eqb}
use lib.ListN.{length, take, length-take}
use lib.Seq.{take-take, take-length}
use Rattle.words.proofs.Split.{by_eq, by_le}
use Rattle.sheet.specs.Number.{value_from, is_digit, AllDigits, digit_run, most_digits, digits_in}

pub value_ge : (v : ℕ) (bs : List ℕ) → v ≤ value_from v bs
unfolding value_from
value_ge v [] = le_refl v
value_ge v (b ∷ bs) = le_trans (omega arith) (value_ge (v * 10 + (b - 48)) bs)

-- a sum past the cap stays past it
pub cap : (v : ℕ) (bs : List ℕ) → min 65536 (value_from v bs) ≡ min 65536 (value_from (min 65536 v) bs)
cap v bs =
    by_le v 65536
    (λ l. let e : min 65536 v ≡ v = omega arith in rw e)
    (λ l. let e : min 65536 v ≡ 65536 = omega arith in rw e (omega (arith, value_ge v bs, value_ge 65536 bs)))

-- a byte is a digit, or it is below or above the digits
pub by_digit {ℓ} : {X : Type ℓ} (b : ℕ) → (48 ≤ b → b ≤ 57 → is_digit b ≡ true → X) → (is_digit b ≡ false → X) → X
by_digit b digit other =
    by_le 48 b
    (λ l. by_le b 57 (λ m. digit l m (rw (le-leb 48 b l, le-leb b 57 m))) (λ m. other (rw (le-leb 48 b l, lt-leb b 57 m))))
    (λ l. other (rw (lt-leb 48 b l)))

pub run_within : (s : List ℕ) → length (digit_run s) ≤ length s
unfolding digit_run
run_within [] = zero-le
run_within (b ∷ s) = by_digit b (λ l m e. rw e (suc-le-suc (run_within s))) (λ e. rw e zero-le)

pub take_run : (s : List ℕ) → take (length (digit_run s)) s ≡ digit_run s
unfolding digit_run
take_run [] = refl
take_run (b ∷ s) = by_digit b (λ l m e. rw e (ap (λ (t : List ℕ). b ∷ t) (take_run s))) (λ e. rw e)

digits_cons : (b : ℕ) (s : List ℕ) → 48 ≤ b → b ≤ 57 → AllDigits s → AllDigits (b ∷ s)
digits_cons b s l m d zero h = (l, m)
digits_cons b s l m d (suc i) h = d i (le_of_suc-le-suc h)

pub run_digits : (s : List ℕ) → AllDigits (digit_run s)
unfolding digit_run
run_digits [] = λ i h. absurd (not-suc-le-zero h)
run_digits (b ∷ s) = by_digit b (λ l m e. rw e (digits_cons b (digit_run s) l m (run_digits s))) (λ e. rw e (λ i h. absurd (not-suc-le-zero h)))

pub most_within : (w : List ℕ) → most_digits w ≤ length w
unfolding most_digits
most_within [] = le_refl 0
most_within (b ∷ w) = by_eq b 48 (λ e. rw (eq-eqb b 48 e) (omega arith)) (λ n. rw (ne_eqb b 48 n) (le_refl _))

pub in_within : (w : List ℕ) → length (digits_in w) ≤ length w
unfolding digits_in
in_within w = let m = most_within w in omega (arith, run_within (take (most_digits w) w), length-take (most_digits w) w)

pub take_in : (w : List ℕ) → take (length (digits_in w)) w ≡ digits_in w
unfolding digits_in
take_in w =
    let h : length (digit_run (take (most_digits w) w)) ≤ most_digits w = omega (arith, run_within (take (most_digits w) w), length-take (most_digits w) w) in
    sym (take-take (length (digit_run (take (most_digits w) w))) (most_digits w) w h) ∙ take_run (take (most_digits w) w)

pub in_none : digits_in [] ≡ []
unfolding digits_in most_digits digit_run
in_none = refl

-- a 0 stands alone, any other digit with those behind it
pub in_zero : (w : List ℕ) → digits_in (48 ∷ w) ≡ 48 ∷ []
unfolding digits_in most_digits digit_run
in_zero w = refl

pub in_run : (b : ℕ) (w : List ℕ) → (b ≡ 48 → ⊥) → digits_in (b ∷ w) ≡ digit_run (b ∷ w)
unfolding digits_in most_digits
in_run b w n = rw (ne_eqb b 48 n, take-length (b ∷ w))
