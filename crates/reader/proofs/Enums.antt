-- A reading back from what a function's answer says, and a reading that goes on behind what is done.
-- Rests on the definitions of Parts alone.
use mathlib.Core.Path.{◌≡◌, refl, sym, ap}
use mathlib.Core.List.{List, [], ◌∷◌, ◌++◌, append_assoc}
use Prim.Native.Nat.{ℕ}
use native.Mathlib.Omega.{arith}
use Rattle.sheet.specs.Read.{Read, value, refused, ◌then◌}
use Rattle.sheet.specs.Reading.{Line}
use Rattle.reader.specs.Part as part
use Rattle.reader.specs.Parts.{part_by, line_by}

module _ {A : Type 0} (f : A → ℕ) where
  -- what is read, as f counts it, and the place behind it
  pub part_value : {next : ℕ} (x : Read A) {v m : ℕ} → part_by f next x ≡ part.Read v m → (a : A) × (x ≡ value a) × (v ≡ f a) × (m ≡ next)
  unfolding part_by
  part_value (value a) e = (a, refl, sym (cc), sym (cc))
  part_value (refused n p) e = let z : ◌≡◌ {A = ℕ} 0 1 = cc in absurd (omega arith)

  -- a refusal is the refusal of the reading
  pub part_refused : (next : ℕ) (x : Read A) {n p : ℕ} → part_by f next x ≡ part.Refused n p → x ≡ refused n p
  unfolding part_by
  part_refused next (value a) e = let z : ◌≡◌ {A = ℕ} 0 1 = cc in absurd (omega arith)
  part_refused next (refused m q) {n} {p} e = let g : m ≡ n = cc in let h : q ≡ p = cc in rw (g, h)

  -- the same of a line: its value, and the place behind its byte 10
  pub line_value : (x : Read (Line A)) {v m : ℕ} → line_by f x ≡ part.Read v m → (l : Line A) × (x ≡ value l) × (v ≡ f l.got) × (m ≡ l.next)
  unfolding line_by
  line_value (value l) e = (l, refl, sym (cc), sym (cc))
  line_value (refused n p) e = let z : ◌≡◌ {A = ℕ} 0 1 = cc in absurd (omega arith)

  -- and of a line that is refused
  pub line_refused : (x : Read (Line A)) {n p : ℕ} → line_by f x ≡ part.Refused n p → x ≡ refused n p
  unfolding line_by
  line_refused (value l) e = let z : ◌≡◌ {A = ℕ} 0 1 = cc in absurd (omega arith)
  line_refused (refused m q) {n} {p} e = let g : m ≡ n = cc in let h : q ≡ p = cc in rw (g, h)

-- what is read behind what is done
unfoldable pub after : {A : Type 0} → List A → Read (List A) → Read (List A)
after done x = x then λ xs. value (done ++ xs)

-- one more is done
pub after_cons : {A : Type 0} (done : List A) (a : A) (x : Read (List A)) → after done (x then λ xs. value (a ∷ xs)) ≡ after (done ++ (a ∷ [])) x
unfolding after
after_cons done a (value xs) = ap value (sym (append_assoc done (a ∷ []) xs))
after_cons done a (refused n p) = refl

-- nothing is done
pub after_none : {A : Type 0} (x : Read (List A)) → after [] x ≡ x
unfolding after
after_none (value xs) = refl
after_none (refused n p) = refl
