-- What `earliest` means: `Fine` exactly if every index keeps the rule, and else the earliest that breaks it, with its number.
-- It holds of any rule.
use mathlib.Core.Path.{◌≡◌, refl, ◌∙◌}
use mathlib.Core.Logic.{⊎_elim}
use Prim.Native.Nat.{ℕ, zero, suc, ◌+◌, ◌-◌, ◌≤◌, ◌<◌}
use native.Mathlib.Nat.{add-sub_of_le, le_refl, eq-or-lt_of_le, le_of_lt, sub_self, zero-add, add-zero, suc-add, add-suc}
use native.Mathlib.Omega.{arith}
use borrow.Author.Tests.{eq-eqb, ne_eqb}
use Rattle.words.proofs.Split.{by_eq}
use Rattle.tables.specs.Earliest.{first_of, earliest}
use Rattle.tables.specs.Check.{Fine, Refused}

-- the rule is kept from a up to, and without, e
abbrev pub RuleKept : (ℕ → ℕ) → ℕ → ℕ → Type 0
RuleKept rule a e = (j : ℕ) → a ≤ j → j < e → rule j ≡ 0

-- k is the earliest index from a up to e that breaks the rule, which refuses it with b
pub record FirstBreak (rule : ℕ → ℕ) (a e b k : ℕ) : Type 0 where
  pub from : a ≤ k
  pub below : k < e
  pub number : rule k ≡ b
  pub some : b ≡ 0 → ⊥
  pub earlier : RuleKept rule a k

kept_more : {rule : ℕ → ℕ} {a e : ℕ} → rule a ≡ 0 → RuleKept rule (suc a) e → RuleKept rule a e
kept_more z k j h l = ⊎_elim (λ q. rw (← q) z) (λ q. k j q l) (eq-or-lt_of_le h)

module _ (rule : ℕ → ℕ) where
  skip_n : (i n m : ℕ) → RuleKept rule i (i + n) → first_of rule i (n + m) ≡ first_of rule (i + n) m
  unfolding first_of
  skip_n i zero m k = rw (zero-add, add-zero)
  skip_n i (suc n) m k =
      rw (suc-add, add-suc, eq-eqb (rule i) 0 (k i (le_refl i) (omega arith)))
      (rw suc-add at (skip_n (suc i) n m (λ j h l. k j (omega arith) (omega arith))))

  fine_n : (i n : ℕ) → first_of rule i n ≡ Fine → RuleKept rule i (i + n)
  unfolding first_of
  fine_n i zero f = λ j h l. absurd (omega arith)
  fine_n i (suc n) f =
      by_eq (rule i) 0
      (λ z. kept_more z (λ j h l. fine_n (suc i) n (rw (eq-eqb (rule i) 0 z) at f) j h (omega arith)))
      (λ z. let g = rw (ne_eqb (rule i) 0 z) at f in let e : ◌≡◌ {A = ℕ} 0 1 = cc g in absurd (omega arith))

  broken_n : (i n b k : ℕ) → first_of rule i n ≡ Refused b k → FirstBreak rule i (i + n) b k
  unfolding first_of
  broken_n i zero b k f = let e : ◌≡◌ {A = ℕ} 0 1 = cc in absurd (omega arith)
  broken_n i (suc n) b k f =
      by_eq (rule i) 0
      (λ z. let r = broken_n (suc i) n b k (rw (eq-eqb (rule i) 0 z) at f) in
      record { from = omega arith; below = omega arith; number = r.number; some = r.some; earlier = kept_more z r.earlier })
      (λ z. let g = rw (ne_eqb (rule i) 0 z) at f in
      let e : i ≡ k = cc g in
      let m : rule i ≡ b = cc g in
      record { from = omega arith; below = omega arith; number = rw (← e) m; some = λ q. z (m ∙ q); earlier = λ j h l. absurd (omega arith) })

module _ (rule : ℕ → ℕ) (a e : ℕ) (h : a ≤ e) where
  pub skip : (b : ℕ) → a ≤ b → b ≤ e → RuleKept rule a b → earliest rule a e ≡ earliest rule b e
  unfolding earliest
  skip b p q k =
      let x : e - a ≡ (b - a) + (e - b) = omega arith in
      let y : a + (b - a) ≡ b = omega arith in
      rw x (rw y at (skip_n rule a (b - a) (e - b) (rw y k)))

  pub fine_means : earliest rule a e ≡ Fine → RuleKept rule a e
  unfolding earliest
  fine_means f = rw (add-sub_of_le h) at (fine_n rule a (e - a) f)

  pub means_fine : RuleKept rule a e → earliest rule a e ≡ Fine
  unfolding earliest first_of
  means_fine k = skip e h (le_refl e) k ∙ rw (sub_self e)

  pub refused_means : {b k : ℕ} → earliest rule a e ≡ Refused b k → FirstBreak rule a e b k
  unfolding earliest
  refused_means {b} {k} f = rw (add-sub_of_le h) at (broken_n rule a (e - a) b k f)

  pub means_refused : {b k : ℕ} → FirstBreak rule a e b k → earliest rule a e ≡ Refused b k
  unfolding earliest first_of
  means_refused {b} {k} r =
      let x : e - k ≡ suc (e - suc k) = omega (arith, r.below) in
      skip k r.from (le_of_lt r.below) r.earlier ∙ rw (x, r.number, ne_eqb b 0 r.some)

-- rules that agree from a up to e
ext_n : (f g : ℕ → ℕ) (i n : ℕ) → ((j : ℕ) → i ≤ j → j < i + n → f j ≡ g j) → first_of f i n ≡ first_of g i n
unfolding first_of
ext_n f g i zero same = refl
ext_n f g i (suc n) same =
    rw (same i (le_refl i) (omega arith), ext_n f g (suc i) n (λ j h l. same j (omega arith) (omega arith)))

pub earliest_ext : (f g : ℕ → ℕ) (a e : ℕ) → a ≤ e → ((j : ℕ) → a ≤ j → j < e → f j ≡ g j) → earliest f a e ≡ earliest g a e
unfolding earliest
earliest_ext f g a e h same = ext_n f g a (e - a) (rw (add-sub_of_le h) same)
