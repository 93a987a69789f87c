-- A refusal: of two readings, or of a number, where it is one of four.
use mathlib.Core.Path.{◌≡◌, refl, sym}
use mathlib.Core.List.{List}
use Prim.Native.Nat.{ℕ, ◌+◌, ◌≤◌, ◌<◌}
use native.Mathlib.Omega.{arith}
use borrow.Author.Tests.{eq-eqb, ne_eqb, lt-ltb, le-ltb}
use lib.ListN.{length}
use Rattle.words.proofs.Split.{by_eq, by_le}
use Rattle.sheet.specs.Read.{Read, value, refused, ◌then◌}
use Rattle.sheet.specs.Number.{value_of, digits_in, number_of}
use Rattle.sheet.proofs.Lines.{no_value}

-- refused at p or behind it, or not at all
abbrev pub Late : {A : Type 0} → ℕ → Read A → Type 0
Late p x = (n q : ℕ) → x ≡ refused n q → p ≤ q

-- a refusal of two readings is one of the first, or of the second
pub then_refused : {A B C : Type 0} (x : Read A) (f : A → Read B) {n p : ℕ} → (x then f) ≡ refused n p → (x ≡ refused n p → C) → ((a : A) → x ≡ value a → f a ≡ refused n p → C) → C
then_refused (value a) f e g h = h a refl e
then_refused (refused n p) f e g h = g cc

pub late_then : {A B : Type 0} {p : ℕ} (x : Read A) (f : A → Read B) → Late p x → ((a : A) → x ≡ value a → Late p (f a)) → Late p (x then f)
late_then x f g h = λ n q e. then_refused x f e (g n q) (λ a r. h a r n q)

pub same_refusal : {A : Type 0} {a b n p : ℕ} → ◌≡◌ {A = Read A} (refused a b) (refused n p) → (n ≡ a) × (p ≡ b)
same_refusal e = (cc, cc)

-- why a number is refused
pub by_refusal : {C : Type 0} (room at : ℕ) (w : List ℕ) {n p : ℕ} → number_of room at w ≡ refused n p
    → (length (digits_in w) ≡ 0 → n ≡ 9 → p ≡ at → C)
    → (0 < length (digits_in w) → 65535 < value_of (digits_in w) → n ≡ 10 → p ≡ at → C)
    → (0 < length (digits_in w) → value_of (digits_in w) ≤ 65535 → room ≤ value_of (digits_in w) → n ≡ 11 → p ≡ at → C)
    → (0 < length (digits_in w) → value_of (digits_in w) ≤ 65535 → value_of (digits_in w) < room → length (digits_in w) < length w → n ≡ 9 → p ≡ at + length (digits_in w) → C)
    → C
unfolding number_of
by_refusal room at w {n} {p} e no_digit above no_room more =
    by_eq (length (digits_in w)) 0 (λ z. let f = same_refusal (rw (eq-eqb _ _ z) at e) in no_digit z f.0 f.1) (λ z.
    by_le (value_of (digits_in w)) 65535 (λ s.
    by_le room (value_of (digits_in w)) (λ r. let f = same_refusal (rw (ne_eqb _ _ z, le-ltb 65535 _ s, le-ltb _ room r) at e) in no_room (omega arith) s r f.0 f.1) (λ r.
    by_le (length w) (length (digits_in w))
    (λ h. no_value (sym (rw (ne_eqb _ _ z, le-ltb 65535 _ s, lt-ltb _ room r, le-ltb _ _ h) at e)))
    (λ h. let f = same_refusal (rw (ne_eqb _ _ z, le-ltb 65535 _ s, lt-ltb _ room r, lt-ltb _ _ h) at e) in more (omega arith) s r h f.0 f.1)))
    (λ s. let f = same_refusal (rw (ne_eqb _ _ z, lt-ltb 65535 _ s) at e) in above (omega arith) s f.0 f.1))

pub number_from : (room at : ℕ) (w : List ℕ) → Late at (number_of room at w)
number_from room at w n p e = by_refusal room at w e (λ z m q. omega arith) (λ s a m q. omega arith) (λ s a b m q. omega arith) (λ s a b c m q. omega arith)
