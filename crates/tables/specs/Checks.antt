-- Refusals 1 to 5 in the order of the checks.
use Rattle.std.specs.Prelude.{Bool, cond, ◌||◌, List, ℕ, eqb, ltb, length}
use Rattle.tables.specs.Earliest.{earliest}
use Rattle.tables.specs.Rules.{offset_rule, code_rule}
use Rattle.tables.specs.Check.{Check}
use Rattle.tables.specs.Check.{Fine, Refused}

infixr 20 ◌and_then◌
-- the paper's number of an answer; 0 where nothing is refused
abbrev pub check_number : Check → ℕ
check_number Fine = 0
check_number (Refused n p) = n

-- and its place
abbrev pub check_place : Check → ℕ
check_place Fine = 0
check_place (Refused n p) = p

-- refused with the number n, at place 0, where a test holds
abbrev pub when : Bool → ℕ → Check → Check
when b n next = cond b (Refused n 0) next

-- a check, and the next where nothing is refused
abbrev pub ◌and_then◌ : Check → Check → Check
Fine and_then next = next
Refused n p and_then next = Refused n p

-- 1: k is 0 or above 64; 2: no offset or over 257, or over 4,096 codes
unfoldable pub sizes_check : ℕ → ℕ → ℕ → Check
sizes_check k offsets codes = when (eqb k 0 || ltb 64 k) 1 (when (eqb offsets 0 || ltb 257 offsets || ltb 4096 codes) 2 Fine)

-- 3: the earliest offset that breaks its rule
abbrev pub offsets_check : List ℕ → ℕ → Check
offsets_check offsets codes = earliest (offset_rule offsets codes) 0 (length offsets)

-- 4 and 5 together: the earliest code that breaks its rule
abbrev pub codes_check : List ℕ → List ℕ → Check
codes_check offsets codes = earliest (code_rule offsets codes) 0 (length codes)

-- 1 and 2, then 3, then 4 and 5
unfoldable pub tables_check : ℕ → List ℕ → List ℕ → Check
tables_check k offsets codes =
    sizes_check k (length offsets) (length codes) and_then (offsets_check offsets (length codes) and_then codes_check offsets codes)
