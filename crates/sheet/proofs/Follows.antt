-- Readings of a piece that follow a text: what is read is the text of the value, and a refusal's place is right. Numbers, the codes of a context, and either behind a key.
use mathlib.Core.Path.{◌≡◌, refl, sym, ap, ◌∙◌}
use mathlib.Core.List.{List, [], ◌∷◌, ◌++◌}
use Prim.Native.Nat.{ℕ, zero, suc, ◌+◌}
use native.Mathlib.Omega.{arith}
use borrow.Author.Tests.{eq-eqb, ne_eqb}
use Rattle.words.proofs.Split.{by_eq}
use Rattle.sheet.specs.Read.{Read, value, refused}
use Rattle.sheet.specs.Number.{digits_of, number_of}
use Rattle.sheet.specs.Text.{codes_text}
use Rattle.sheet.specs.Reading.{behind, context_of}
use Rattle.sheet.specs.Meaning.{Alike}
use Rattle.sheet.proofs.Alike.{alike_cons}
use Rattle.sheet.proofs.Refusal.{Late, same_refusal}
use Rattle.sheet.proofs.Numerals.{number_read}
use Rattle.sheet.proofs.ReadsBack.{Free, free_append, digits_free, codes_free}
use Rattle.sheet.proofs.WritesBack.{context_written, behind_read}
use Rattle.sheet.proofs.Begun.{Begun, begun_none, number_begun, context_begun}
use Rattle.sheet.proofs.Steady.{alike_rest, number_steady, context_steady}

pub record Follows {A : Type 0} (text : A → List ℕ) (read : ℕ → List ℕ → Read A) : Type 0 where
  -- some value, to complete a text by
  pub plain : A
  pub free : (v : A) → Free 10 (text v)
  pub written : (at : ℕ) (l : List ℕ) {v : A} → read at l ≡ value v → l ≡ text v
  pub begun : (at : ℕ) (l : List ℕ) {n p : ℕ} → read at l ≡ refused n p → Begun text read at l p
  pub steady : (at m : ℕ) (l u : List ℕ) {p : ℕ} → read at l ≡ refused 9 p → suc p ≡ at + m → Alike m l u → read at u ≡ refused 9 p

pub number_follows : (room : ℕ) → Follows digits_of (number_of room)
number_follows room =
    record { plain = 0; free = λ n. digits_free 10 n (omega arith); written = number_read room; begun = number_begun room; steady = number_steady room }

pub context_follows : (most used : ℕ) → Follows codes_text (context_of most used)
context_follows most used =
    record { plain = []; free = codes_free; written = context_written most used; begun = context_begun most used; steady = context_steady most used }

module _ {A : Type 0} {text : A → List ℕ} {read : ℕ → List ℕ → Read A} (R : Follows text read) where
  behind_from : (key : List ℕ) (at : ℕ) (l : List ℕ) → Late at (behind key read at l)
  unfolding behind
  behind_from [] at l n p e = let b = R.begun at l e in omega (arith, b.place)
  behind_from (x ∷ key) at [] n p e = omega (arith, (same_refusal e).1)
  behind_from (x ∷ key) at (b ∷ l) n p e =
      by_eq b x
      (λ q. omega (arith, behind_from key (suc at) l n p (rw (eq-eqb b x q) at e)))
      (λ q. omega (arith, (same_refusal (rw (ne_eqb b x q) at e)).1))

  behind_begun : (key : List ℕ) (at : ℕ) (l : List ℕ) {n p : ℕ} → behind key read at l ≡ refused n p → Begun (λ v. key ++ text v) (behind key read) at l p
  unfolding behind
  behind_begun [] at l e = let b = R.begun at l e in record { v = b.v; m = b.m; place = b.place; alike = b.alike; late = b.late }
  behind_begun (x ∷ key) at [] e = begun_none _ _ at [] R.plain (same_refusal e).1 (behind_from (x ∷ key) at (x ∷ (key ++ text R.plain)))
  behind_begun (x ∷ key) at (b ∷ l) e =
      by_eq b x
      (λ q. let c = behind_begun key (suc at) l (rw (eq-eqb b x q) at e) in
      record { v = c.v; m = suc c.m; place = omega (arith, c.place); alike = alike_cons q c.alike; late = rw (eq-eqb x x refl) c.late })
      (λ q. begun_none _ _ at (b ∷ l) R.plain (same_refusal (rw (ne_eqb b x q) at e)).1 (behind_from (x ∷ key) at (x ∷ (key ++ text R.plain))))

  behind_steady : (key : List ℕ) (at m : ℕ) (l u : List ℕ) {p : ℕ} → behind key read at l ≡ refused 9 p → suc p ≡ at + m → Alike m l u → behind key read at u ≡ refused 9 p
  unfolding behind
  behind_steady [] at m l u e h a = R.steady at m l u e h a
  behind_steady (x ∷ key) at m [] u e h a = absurd (omega (arith, a.left, (same_refusal e).1))
  behind_steady (x ∷ key) at m (b ∷ l) [] {p} e h a = absurd (omega (arith, a.right, behind_from (x ∷ key) at (b ∷ l) 9 p e))
  behind_steady (x ∷ key) at zero (b ∷ l) (c ∷ u) {p} e h a = absurd (omega (arith, behind_from (x ∷ key) at (b ∷ l) 9 p e))
  behind_steady (x ∷ key) at (suc m) (b ∷ l) (c ∷ u) e h a =
      let r = alike_rest a in
      by_eq b x
      (λ q. rw (eq-eqb c x (sym r.0 ∙ q)) (behind_steady key (suc at) m l u (rw (eq-eqb b x q) at e) (omega arith) r.1))
      (λ q. rw (ne_eqb c x (λ z. q (r.0 ∙ z))) (rw (ne_eqb b x q) at e))

  pub behind_written : (key : List ℕ) (at : ℕ) (l : List ℕ) {v : A} → behind key read at l ≡ value v → l ≡ key ++ text v
  behind_written key at l e = let r = behind_read key read at l e in r.2 ∙ ap (λ (t : List ℕ). key ++ t) (R.written r.0 r.1 r.3)

  pub behind_follows : (key : List ℕ) → Free 10 key → Follows (λ v. key ++ text v) (behind key read)
  behind_follows key f =
      record { plain = R.plain; free = λ v. free_append 10 key (text v) f (R.free v); written = behind_written key; begun = behind_begun key; steady = behind_steady key }
