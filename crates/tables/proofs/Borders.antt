-- The checks on both sides of their borders: one table of cases, and one claim about it.
-- P10 to P12 of the paper are among them.
use mathlib.Core.List.{List, [], ◌∷◌, map}
use mathlib.Core.Path.{◌≡◌, refl}
use Prim.Native.Nat.{ℕ}
use Rattle.tables.specs.Earliest.{first_of, earliest}
use Rattle.tables.specs.Rules.{end_rule, offset_rule, member, code_rule_by, code_rule}
use Rattle.tables.specs.Checks.{sizes_check, tables_check}
use Rattle.tables.specs.Check.{Check}
use Rattle.tables.specs.Check.{Fine, Refused}

pub record Border : Type 0 where
  pub k : ℕ
  pub offsets : List ℕ
  pub codes : List ℕ
  pub answer : Check

abbrev given : ℕ → List ℕ → List ℕ → Check → Border
given k os cs a = record { k = k; offsets = os; codes = cs; answer = a }

-- k, offsets, codes, and what the checks answer
unfoldable pub borders : List Border
borders =
    given 1 (0 ∷ []) [] Fine
    ∷ given 64 (0 ∷ []) [] Fine
    ∷ given 65 (0 ∷ []) [] (Refused 1 0)
    ∷ given 0 [] [] (Refused 1 0)
    ∷ given 1 [] [] (Refused 2 0)
    ∷ given 1 (7 ∷ []) [] (Refused 3 0)
    ∷ given 1 (0 ∷ []) (5 ∷ []) (Refused 3 0)
    ∷ given 1 (1 ∷ 2 ∷ []) (5 ∷ 6 ∷ []) (Refused 3 0)
    ∷ given 1 (0 ∷ 9 ∷ 3 ∷ []) (5 ∷ 6 ∷ 7 ∷ []) (Refused 3 2)
    ∷ given 1 (0 ∷ 1 ∷ []) (5 ∷ 6 ∷ []) (Refused 3 1)
    ∷ given 1 (0 ∷ 3 ∷ []) (5 ∷ 6 ∷ []) (Refused 3 1)
    ∷ given 1 (0 ∷ 1 ∷ []) (4095 ∷ []) Fine
    ∷ given 1 (0 ∷ 1 ∷ []) (4096 ∷ []) (Refused 4 0)
    ∷ given 1 (0 ∷ 3 ∷ []) (5 ∷ 4 ∷ 4096 ∷ []) (Refused 5 1)
    ∷ given 1 (0 ∷ 3 ∷ []) (5 ∷ 4096 ∷ 4 ∷ []) (Refused 4 1)
    ∷ given 1 (0 ∷ 2 ∷ []) (5 ∷ 5 ∷ []) (Refused 5 1)
    ∷ given 1 (0 ∷ 1 ∷ 2 ∷ []) (9 ∷ 3 ∷ []) Fine
    ∷ given 1 (0 ∷ 1 ∷ 1 ∷ 2 ∷ []) (9 ∷ 9 ∷ []) Fine
    ∷ []

pub borders_kept : map (λ (c : Border). tables_check c.k c.offsets c.codes) borders ≡ map (λ (c : Border). c.answer) borders
unfolding borders tables_check sizes_check earliest first_of offset_rule end_rule code_rule code_rule_by member
borders_kept = refl
