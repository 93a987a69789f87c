-- A cell is refused with m at p exactly if that has its cause; where nothing is a cause there is a cell.
use mathlib.Core.List.{List}
use mathlib.Core.Path.{◌≡◌, refl}
use Prim.Native.Nat.{ℕ, ◌*◌, ◌/◌, ◌≤◌, ◌<◌, zero-le}
use native.Mathlib.Omega.{arith}
use lib.ListN.{length}
use borrow.Author.Tests.{lt-ltb, le-ltb}
use Rattle.words.proofs.Split.{by_le}
use Rattle.tables.specs.Check.{Check}
use Rattle.tables.specs.Check as check
use Rattle.tables.proofs.Meaning.{refused_means, means_refused, FirstBreak}
use Rattle.entries.specs.Entries.{width, entry_at}
use Rattle.heat.specs.Checks.{numbers_check, count_check, rule_at, cell_check}
use Rattle.heat.specs.Refusals.{NoCell, first_number, second_number, count, entry}
use Rattle.heat.proofs.Rules.{wrong_is, right_is, is_wrong, is_right}

module _ (contexts : ℕ) (list : List ℕ) (n first second : ℕ) where
  abbrev the_check : Check
  the_check = cell_check contexts list n first second

  abbrev TheCause : ℕ → ℕ → Type 0
  TheCause = NoCell contexts list n first second

  enough : width * n ≤ length list → n ≤ length list / width
  enough h = omega arith

  too_few : length list < width * n → length list / width < n
  too_few h = omega arith

  -- what the checks say is moved to what they are known to say
  moved : {a b m p : ℕ} → check.Refused a b ≡ check.Refused m p → TheCause a b → TheCause m p
  moved {a} {b} {m} {p} e c = let x : a ≡ m = cc e in let y : b ≡ p = cc e in rw (← x, ← y) c

  pub cause_of : {m p : ℕ} → the_check ≡ check.Refused m p → TheCause m p
  unfolding cell_check numbers_check count_check rule_at
  cause_of {m} {p} e =
      by_le contexts first
      (λ l. moved (rw (le-ltb first contexts l) at e) (first_number l))
      (λ h. by_le contexts second
      (λ l. moved (rw (lt-ltb first contexts h, le-ltb second contexts l) at e) (second_number h l))
      (λ k. by_le (width * n) (length list)
      (λ r. let g = rw (lt-ltb first contexts h, lt-ltb second contexts k, le-ltb (length list / width) n (enough r)) at e in
      let f = refused_means (rule_at contexts list) 0 n zero-le g in
      let w = is_wrong contexts (entry_at list (width * p)) f.number f.some in
      rw w.1 (entry h k r f.below w.0 (λ q s. is_right contexts (entry_at list (width * q)) (f.earlier q zero-le s))))
      (λ s. moved (rw (lt-ltb first contexts h, lt-ltb second contexts k, lt-ltb (length list / width) n (too_few s)) at e) (count h k s))))

  pub of_cause : {m p : ℕ} → TheCause m p → the_check ≡ check.Refused m p
  unfolding cell_check numbers_check count_check rule_at
  of_cause (first_number l) = rw (le-ltb first contexts l)
  of_cause (second_number h l) = rw (lt-ltb first contexts h, le-ltb second contexts l)
  of_cause (count h k s) = rw (lt-ltb first contexts h, lt-ltb second contexts k, lt-ltb (length list / width) n (too_few s))
  of_cause (entry {p} h k r l w f) =
      let b : FirstBreak (rule_at contexts list) 0 n 17 p = record { from = zero-le; below = l; number = wrong_is contexts (entry_at list (width * p)) w; some = λ z. omega arith; earlier = λ q x s. right_is contexts (entry_at list (width * q)) (f q s) } in
      rw (lt-ltb first contexts h, lt-ltb second contexts k, le-ltb (length list / width) n (enough r)) (means_refused (rule_at contexts list) 0 n zero-le b)

  -- without a cause nothing is refused
  pub fine_without : ((m p : ℕ) → TheCause m p → ⊥) → the_check ≡ check.Fine
  fine_without none = go the_check refl
    where
      go : (x : Check) → the_check ≡ x → the_check ≡ check.Fine
      go check.Fine e = e
      go (check.Refused m p) e = absurd (none m p (cause_of e))
