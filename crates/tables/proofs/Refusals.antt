-- What the checks 1 to 5 mean. A refusal with its place is given exactly if its rule is broken there and no earlier rule or place is;
-- where nothing is refused, no rule is broken anywhere, and the tables are those of a site.
use mathlib.Core.Bool.{◌||◌}
use mathlib.Core.List.{List}
use mathlib.Core.Logic.{inl, ⊎_elim, ◌↔◌}
use mathlib.Core.Path.{◌≡◌, refl, sym, subst, ◌∙◌}
use Prim.Native.Nat.{ℕ, ◌<◌, zero-le, ◌≤◌}
use native.Mathlib.Omega.{arith}
use lib.Dec.{eqb, ltb}
use lib.ListN.{length, get_or}
use Rattle.order.proofs.Lists.{cases}
use Rattle.words.proofs.Split.{by_eq, by_le}
use Rattle.site.specs.Tables.{site_of}
use Rattle.tables.specs.Rules.{offset_rule, code_rule}
use Rattle.tables.specs.Checks.{◌and_then◌, sizes_check, offsets_check, codes_check, tables_check}
use Rattle.tables.specs.Refusals.{WrongK, WrongSizes, WrongOffset, NotAbove, Breaks, wrong_k, wrong_sizes, wrong_offset, large_code, code_falls, Broken, Stands, Unbroken}
use Rattle.tables.specs.Check.{Check}
use Rattle.tables.specs.Check.{Fine, Refused}
use Rattle.tables.proofs.Meaning.{FirstBreak, fine_means, refused_means}
use Rattle.tables.proofs.Rulings.{offset_said, large_refused, fall_refused, code_said}
use Rattle.tables.proofs.Turns.{k_wrong, k_kept, sizes_wrong, sizes_kept, later_turn, same_turn, one_first, by_rule}
use Rattle.tables.proofs.Checks.{accepted}
use Rattle.tables.proofs.Sound.{contexts_are, sound_rises}
use Rattle.tables.proofs.Cuts.{tables_back}

-- the numbers of the rules are 1 to 5
pub breaks_number : (k : ℕ) (os cs : List ℕ) (n p : ℕ) → Breaks k os cs n p → (0 < n) × (n ≤ 5)
breaks_number k os cs n p (wrong_k w) = (omega arith, omega arith)
breaks_number k os cs n p (wrong_sizes w) = (omega arith, omega arith)
breaks_number k os cs n p (wrong_offset h w) = (omega arith, omega arith)
breaks_number k os cs n p (large_code h w) = (omega arith, omega arith)
breaks_number k os cs n p (code_falls h c w) = (omega arith, omega arith)

module _ (k : ℕ) (os cs : List ℕ) where
  -- what a check's answer says
  abbrev Said : Check → Type 0
  Said Fine = Unbroken k os cs
  Said (Refused n p) = Broken k os cs n p

  -- ---- 1 and 2

  one_said : WrongK k → Broken k os cs 1 0
  one_said w = record {
    here = wrong_k w;
    first = by_rule k os cs 1 0
        (λ e x. same_turn 1 0 1 0 refl e (λ l. omega arith) (λ d l. omega arith))
        (λ e x. later_turn 2 0 1 0 (omega arith) e)
        (λ q h e x. later_turn 3 q 1 0 (omega arith) e)
        (λ q h e x. later_turn 4 q 1 0 (omega arith) e)
        (λ q h e c x. later_turn 5 q 1 0 (omega arith) e);
  }

  module _ (kept : WrongK k → ⊥) where
    two_said : WrongSizes (length os) (length cs) → Broken k os cs 2 0
    two_said w = record {
      here = wrong_sizes w;
      first = by_rule k os cs 2 0
          (λ e x. kept x)
          (λ e x. same_turn 2 0 2 0 refl e (λ l. omega arith) (λ d l. omega arith))
          (λ q h e x. later_turn 3 q 2 0 (omega arith) e)
          (λ q h e x. later_turn 4 q 2 0 (omega arith) e)
          (λ q h e c x. later_turn 5 q 2 0 (omega arith) e);
    }

    -- ---- 3

    module _ (sized : WrongSizes (length os) (length cs) → ⊥) where
      -- a kept rule is not broken
      offset_kept : (q : ℕ) → offset_rule os (length cs) q ≡ 0 → WrongOffset os (length cs) q → ⊥
      offset_kept q z w = ⊎_elim (λ a. a.1 w) (λ b. omega (arith, z, b.0)) (offset_said os (length cs) q)

      three_said : {b i : ℕ} → FirstBreak (offset_rule os (length cs)) 0 (length os) b i → Broken k os cs b i
      three_said {b} {i} f =
          let s : (b ≡ 3) × WrongOffset os (length cs) i = ⊎_elim (λ a. absurd (f.some (sym f.number ∙ a.0))) (λ a. (sym f.number ∙ a.0, a.1)) (offset_said os (length cs) i) in
          let t : Broken k os cs 3 i = record {
            here = wrong_offset f.below s.1;
            first = by_rule k os cs 3 i
                (λ e x. kept x)
                (λ e x. sized x)
                (λ q h e x. same_turn 3 q 3 i refl e (λ l. offset_kept q (f.earlier q zero-le l) x) (λ d l. omega arith))
                (λ q h e x. later_turn 4 q 3 i (omega arith) e)
                (λ q h e c x. later_turn 5 q 3 i (omega arith) e);
          } in
          subst (λ (n : ℕ). Broken k os cs n i) (sym s.0) t

      -- ---- 4 and 5

      module _ (fine : offsets_check os (length cs) ≡ Fine) where
        some : 0 < length os
        some = by_eq (length os) 0 (λ e. absurd (sized (inl e))) (λ e. omega arith)

        offsets_kept : (q : ℕ) → q < length os → WrongOffset os (length cs) q → ⊥
        offsets_kept q h = offset_kept q (fine_means (offset_rule os (length cs)) 0 (length os) zero-le fine q zero-le h)

        large_kept : (q : ℕ) → code_rule os cs q ≡ 0 → 4095 < get_or cs q 0 → ⊥
        large_kept q z w = omega (arith, z, large_refused os cs some fine q w)

        codes_said : {b i : ℕ} → FirstBreak (code_rule os cs) 0 (length cs) b i → Broken k os cs b i
        codes_said {b} {i} f = ⊎_elim
            (λ a. absurd (f.some (sym f.number ∙ a)))
            (λ r. ⊎_elim
            (λ a. subst (λ (n : ℕ). Broken k os cs n i) (sym a.0 ∙ f.number) (four a.1))
            (λ a. subst (λ (n : ℕ). Broken k os cs n i) (sym a.0 ∙ f.number) (five a.0 a.1.0 a.1.1))
            r)
            (code_said os cs some fine i f.below)
          where
            earlier_kept : (q : ℕ) → q < i → code_rule os cs q ≡ 0
            earlier_kept q l = f.earlier q zero-le l

            four : 4095 < get_or cs i 0 → Broken k os cs 4 i
            four w = record {
              here = large_code f.below w;
              first = by_rule k os cs 4 i
                  (λ e x. kept x)
                  (λ e x. sized x)
                  (λ q h e x. offsets_kept q h x)
                  (λ q h e x. same_turn 4 q 4 i refl e (λ l. large_kept q (earlier_kept q l) x) (λ d l. omega arith))
                  (λ q h e c x. same_turn 5 q 4 i refl e (λ l. fall_refused os cs some fine q c x (earlier_kept q l)) (λ d l. omega arith));
            }

            five : code_rule os cs i ≡ 5 → (c : ℕ) → NotAbove os cs i c → Broken k os cs 5 i
            five z c w = record {
              here = code_falls f.below c w;
              first = by_rule k os cs 5 i
                  (λ e x. kept x)
                  (λ e x. sized x)
                  (λ q h e x. offsets_kept q h x)
                  (λ q h e x. same_turn 4 q 5 i refl e (λ l. large_kept q (earlier_kept q l) x) (λ (d : q ≡ i) l. omega (arith, z, large_refused os cs some fine i (rw d at x))))
                  (λ q h e c x. same_turn 5 q 5 i refl e (λ l. fall_refused os cs some fine q c x (earlier_kept q l)) (λ d l. omega arith));
            }

        fine_said : codes_check os cs ≡ Fine → Unbroken k os cs
        fine_said r n p b = none n p b
          where
            rule_kept : (q : ℕ) → q < length cs → code_rule os cs q ≡ 0
            rule_kept q h = fine_means (code_rule os cs) 0 (length cs) zero-le r q zero-le h

            none : Unbroken k os cs
            none n p (wrong_k w) = kept w
            none n p (wrong_sizes w) = sized w
            none n p (wrong_offset h w) = offsets_kept p h w
            none n p (large_code h w) = large_kept p (rule_kept p h) w
            none n p (code_falls h c w) = fall_refused os cs some fine p c w (rule_kept p h)

        by_codes : (c : Check) → c ≡ codes_check os cs → Said c
        by_codes Fine e = fine_said (sym e)
        by_codes (Refused n p) e = codes_said (refused_means (code_rule os cs) 0 (length cs) zero-le (sym e))

      by_offsets : (c : Check) → c ≡ offsets_check os (length cs) → Said (c and_then codes_check os cs)
      by_offsets Fine e = by_codes (sym e) (codes_check os cs) refl
      by_offsets (Refused n p) e = three_said (refused_means (offset_rule os (length cs)) 0 (length os) zero-le (sym e))

  -- ---- the whole

  said : Said (tables_check k os cs)
  unfolding tables_check sizes_check
  said = cases (eqb k 0 || ltb 64 k)
      (λ t. rw t (one_said (k_wrong k t)))
      (λ f. rw f (cases (eqb (length os) 0 || ltb 257 (length os) || ltb 4096 (length cs))
      (λ t. rw t (two_said (k_kept k f) (sizes_wrong (length os) (length cs) t)))
      (λ g. rw g (by_offsets (k_kept k f) (sizes_kept (length os) (length cs) g) (offsets_check os (length cs)) refl))))

  -- a refusal is given exactly if its rule is broken at its place, and no earlier rule or place is
  pub refused_exactly : (n p : ℕ) → (tables_check k os cs ≡ Refused n p) ↔ Broken k os cs n p
  refused_exactly n p = (λ e. subst Said e said, λ b. same b (tables_check k os cs) said)
    where
      same : Broken k os cs n p → (c : Check) → Said c → c ≡ Refused n p
      same b Fine s = absurd (s n p b.here)
      same b (Refused m q) s = one_first m q n p (λ x. absurd (b.first m q s.here x)) (λ x. absurd (s.first n p b.here x)) (λ d e i. Refused (d i) (e i))

  -- nothing is refused exactly if no rule is broken
  pub fine_exactly : (tables_check k os cs ≡ Fine) ↔ Unbroken k os cs
  fine_exactly = (λ e. subst Said e said, λ none. same none (tables_check k os cs) said)
    where
      same : Unbroken k os cs → (c : Check) → Said c → c ≡ Fine
      same none Fine s = refl
      same none (Refused n p) s = absurd (none n p s.here)

  -- and then the tables are those of a site
  pub fine_is_site : tables_check k os cs ≡ Fine → Stands k os cs (site_of os cs)
  fine_is_site e =
      let a = accepted k os cs e in
      let s = a.sound in
      record {
        asked = a.asked;
        most = a.most;
        contexts = contexts_are s;
        few = omega (arith, contexts_are s, s.few);
        short = s.short;
        small = λ i h. by_le (get_or cs i 0) 4095 (λ l. l) (λ l. absurd (fine_exactly.0 e 4 i (large_code h l)));
        rising = sound_rises s;
        offsets_are = (tables_back s).0;
        codes_are = (tables_back s).1;
      }
