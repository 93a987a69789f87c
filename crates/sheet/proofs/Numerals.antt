-- Digits and numbers, both ways: the digits of a number say it, and digits without a leading zero are those of the number that they say.
use mathlib.Core.Path.{◌≡◌, refl, sym, ap, ◌∙◌}
use mathlib.Core.List.{List, [], ◌∷◌, ◌++◌, append_assoc, append-nil}
use Prim.Native.Nat.{ℕ, zero, suc, ◌+◌, ◌-◌, ◌*◌, ◌/◌, ◌%◌, ◌≤◌, ◌<◌}
use native.Mathlib.Nat.{not-suc-le-zero, le_refl, zero-add}
use native.Mathlib.Omega.{arith}
use borrow.Author.Tests.{lt-ltb, le-ltb, le-leb, eq-eqb, ne_eqb}
use lib.ListN.{length, get_or, take, length-append, length-take, get_or-append}
use lib.Seq.{take-length, take_all, get_or-take}
use Rattle.words.proofs.Split.{by_eq, by_le}
use Rattle.sheet.specs.Read.{value}
use Rattle.sheet.specs.Number.{digits_of, value_from, value_of, digit_run, most_digits, digits_in, number_of}
use Rattle.sheet.proofs.Digits.{digits_small, digits_more}
use Rattle.sheet.proofs.Numbers.{by_digit, run_within, take_in}
use Rattle.sheet.proofs.Lines.{no_value}

-- every byte is a digit
abbrev pub Digital : List ℕ → Type 0
Digital [] = Unit {0}
Digital (b ∷ bs) = ((48 ≤ b) × (b ≤ 57)) × Digital bs

digital_snoc : (xs : List ℕ) (d : ℕ) → d < 10 → Digital xs → Digital (xs ++ ((48 + d) ∷ []))
digital_snoc [] d h a = ((omega arith, omega arith), tt)
digital_snoc (x ∷ xs) d h a = (a.0, digital_snoc xs d h a.1)

run_digital : (s : List ℕ) → Digital (digit_run s)
unfolding digit_run
run_digital [] = tt
run_digital (b ∷ s) = by_digit b (λ l m e. rw e ((l, m), run_digital s)) (λ e. rw e tt)

run_all : (s : List ℕ) → Digital s → digit_run s ≡ s
unfolding digit_run
run_all [] d = refl
run_all (b ∷ s) d = rw (le-leb 48 b d.0.0, le-leb b 57 d.0.1) (ap (λ (t : List ℕ). b ∷ t) (run_all s d.1))

value_snoc : (v : ℕ) (xs : List ℕ) (b : ℕ) → value_from v (xs ++ (b ∷ [])) ≡ value_from v xs * 10 + (b - 48)
unfolding value_from
value_snoc v [] b = refl
value_snoc v (x ∷ xs) b = value_snoc (v * 10 + (x - 48)) xs b

pub record Good (n : ℕ) : Type 0 where
  pub says : value_of (digits_of n) ≡ n
  pub digital : Digital (digits_of n)
  pub some : 0 < length (digits_of n)
  pub one : n < 10 → length (digits_of n) ≡ 1
  pub first : 0 < n → get_or (digits_of n) 0 0 ≡ 48 → ⊥

small : (n : ℕ) → n < 10 → Good n
unfolding value_from
small n h =
    let e = digits_small n h in
    record { says = rw e (omega arith); digital = rw e ((omega arith, omega arith), tt); some = rw e (omega arith); one = λ l. rw e; first = λ p. rw e (λ q. omega arith) }

large : (n : ℕ) → 10 ≤ n → Good (n / 10) → Good n
large n h g =
    let d = digits_of (n / 10) in
    let e = digits_more n h in
    record {
      says = rw (e, value_snoc, g.says) (omega arith);
      digital = rw e (digital_snoc d (n % 10) (omega arith) g.digital);
      some = rw (e, length-append) (omega arith);
      one = λ l. absurd (omega arith);
      first = λ p. rw (e, get_or-append d ((48 + n % 10) ∷ []) 0 0 g.some) (g.first (omega arith));
    }

good_below : (f n : ℕ) → n < f → Good n
good_below zero n h = absurd (not-suc-le-zero h)
good_below (suc f) n h = by_le 10 n (λ l. large n l (good_below f (n / 10) (omega arith))) (λ l. small n l)

pub good : (n : ℕ) → Good n
good n = good_below (suc n) n (le_refl (suc n))

most_all : (n : ℕ) → most_digits (digits_of n) ≡ length (digits_of n)
unfolding most_digits
most_all n =
    by_eq (get_or (digits_of n) 0 0) 48
    (λ e. rw (eq-eqb _ 48 e) (by_eq n 0 (λ z. sym ((good n).one (omega arith))) (λ z. absurd ((good n).first (omega arith) e))))
    (λ z. rw (ne_eqb _ 48 z))

-- the digits of n are all digits of their number
pub in_digits : (n : ℕ) → digits_in (digits_of n) ≡ digits_of n
unfolding digits_in
in_digits n = rw (most_all n, take-length (digits_of n)) (run_all (digits_of n) (good n).digital)

pub number_digits : (room at n : ℕ) → n ≤ 65535 → n < room → number_of room at (digits_of n) ≡ value n
unfolding number_of
number_digits room at n h k =
    let g = good n in
    rw (in_digits n, g.says, ne_eqb (length (digits_of n)) 0 (λ z. omega (arith, g.some)), le-ltb 65535 n h, lt-ltb n room k, le-ltb (length (digits_of n)) (length (digits_of n)) (le_refl _))

-- digits behind those of v
digits_behind : (v : ℕ) (bs : List ℕ) → 0 < v → Digital bs → digits_of (value_from v bs) ≡ digits_of v ++ bs
unfolding value_from
digits_behind v [] h d = sym (append-nil _)
digits_behind v (b ∷ bs) h d =
    let u = v * 10 + (b - 48) in
    let l = d.0.0 in
    let m = d.0.1 in
    let q : u / 10 ≡ v = omega arith in
    let p : 48 + u % 10 ≡ b = omega arith in
    digits_behind u bs (omega arith) d.1 ∙ rw (digits_more u (omega arith), q, p, append_assoc)

-- a whole piece of digits without a leading zero
numeral : (w : List ℕ) → (length w ≡ 0 → ⊥) → Digital w → (get_or w 0 0 ≡ 48 → length w ≡ 1) → digits_of (value_of w) ≡ w
unfolding value_from
numeral [] s d z = absurd (s refl)
numeral (b ∷ bs) s d z =
    let l = d.0.0 in
    let m = d.0.1 in
    let p : 48 + (b - 48) ≡ b = omega arith in
    let o : digits_of (b - 48) ≡ b ∷ [] = digits_small (b - 48) (omega arith) ∙ rw p in
    rw zero-add (by_eq b 48
    (λ e. alone bs (omega (arith, z e)) o)
    (λ n. digits_behind (b - 48) bs (omega arith) d.1 ∙ rw o))
  where
    alone : (bs : List ℕ) → length bs ≡ 0 → digits_of (b - 48) ≡ b ∷ [] → digits_of (value_from (b - 48) bs) ≡ b ∷ bs
    alone [] h o = o
    alone (x ∷ xs) h o = absurd (omega arith)

-- the digits that can stand in a number are those of the number that they say
pub in_numeral : (w : List ℕ) → 0 < length (digits_in w) → digits_of (value_of (digits_in w)) ≡ digits_in w
unfolding digits_in most_digits
in_numeral w h =
    let front : get_or (digits_in w) 0 0 ≡ get_or w 0 0 = ap (λ (t : List ℕ). get_or t 0 0) (sym (take_in w)) ∙ get_or-take (length (digits_in w)) w 0 0 h in
    let lead : get_or (digits_in w) 0 0 ≡ 48 → length (digits_in w) ≡ 1 = λ q. omega (arith, run_within (take (most_digits w) w), length-take (most_digits w) w, one (sym front ∙ q)) in
    numeral (digits_in w) (λ z. omega arith) (run_digital (take (most_digits w) w)) lead
  where
    one : get_or w 0 0 ≡ 48 → most_digits w ≡ 1
    one q = rw (eq-eqb _ 48 q)

-- what a number's reading says of its piece
pub number_read : (room at : ℕ) (w : List ℕ) {v : ℕ} → number_of room at w ≡ value v → w ≡ digits_of v
unfolding number_of
number_read room at w {v} e =
    by_eq (length (digits_in w)) 0 (λ z. no_value (rw (eq-eqb _ _ z) at e)) (λ z.
    by_le (value_of (digits_in w)) 65535 (λ f.
    by_le room (value_of (digits_in w)) (λ g. no_value (rw (ne_eqb _ _ z, le-ltb 65535 _ f, le-ltb _ room g) at e)) (λ g.
    by_le (length w) (length (digits_in w))
    (λ h. let u : value_of (digits_in w) ≡ v = cc (rw (ne_eqb _ _ z, le-ltb 65535 _ f, lt-ltb _ room g, le-ltb _ _ h) at e) in sym (take_all (length (digits_in w)) w h) ∙ take_in w ∙ sym (in_numeral w (omega arith)) ∙ ap digits_of u)
    (λ h. no_value (rw (ne_eqb _ _ z, le-ltb 65535 _ f, lt-ltb _ room g, lt-ltb _ _ h) at e))))
    (λ f. no_value (rw (ne_eqb _ _ z, lt-ltb 65535 _ f) at e)))
