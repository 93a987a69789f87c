-- The refusals 1 to 5 in the paper's words, without a loop: what each rule says of a place, which rule and place comes first,
-- and what it is to be refused. Tables that are not refused are those of a site.
use Rattle.std.specs.Prelude.{List, ◌⊎◌, ◌≡◌, ℕ, ◌+◌, ◌-◌, ◌≤◌, ◌<◌, min, length, get_or}
use Rattle.site.specs.Site.{Site, Rising}
use Rattle.site.specs.Tables.{offsets_of, all_codes}

-- 1: k is 0 or above 64
abbrev pub WrongK : ℕ → Type 0
WrongK k = (k ≡ 0) ⊎ (64 < k)

-- 2: offsets has 0 or over 257 words, or codes over 4,096
abbrev pub WrongSizes : ℕ → ℕ → Type 0
WrongSizes offsets codes = (offsets ≡ 0) ⊎ ((257 < offsets) ⊎ (4096 < codes))

-- 3: the first offset is not 0, an offset is below the one before, or the last is not the codes length
abbrev pub WrongOffset : List ℕ → ℕ → ℕ → Type 0
WrongOffset os n i =
    ((i ≡ 0) × (get_or os i 0 ≡ 0 → ⊥))
    ⊎ (((0 < i) × (get_or os i 0 < get_or os (i - 1) 0)) ⊎ ((i + 1 ≡ length os) × (get_or os i 0 ≡ n → ⊥)))

-- 5: the code at i is not above the one before it, and context c owns both
pub record NotAbove (os cs : List ℕ) (i c : ℕ) : Type 0 where
  pub context : c + 1 < length os
  pub before : get_or os c 0 < i
  pub inside : i < get_or os (c + 1) 0
  pub fallen : get_or cs i 0 ≤ get_or cs (i - 1) 0

-- a rule is broken at a place
pub data Breaks (k : ℕ) (os cs : List ℕ) : ℕ → ℕ → Type 0 where
  wrong_k : WrongK k → Breaks k os cs 1 0
  wrong_sizes : WrongSizes (length os) (length cs) → Breaks k os cs 2 0
  wrong_offset : {p : ℕ} → p < length os → WrongOffset os (length cs) p → Breaks k os cs 3 p
  large_code : {p : ℕ} → p < length cs → 4095 < get_or cs p 0 → Breaks k os cs 4 p
  code_falls : {p : ℕ} → p < length cs → (c : ℕ) → NotAbove os cs p c → Breaks k os cs 5 p

-- the checks' order: 1, 2, 3, then 4 and 5 together
abbrev pub turn : ℕ → ℕ
turn n = min n 4

-- rule m at place q comes before rule n at place p: by the order of the checks, then at the earlier place, and 4 first at one place
abbrev pub Earlier : ℕ → ℕ → ℕ → ℕ → Type 0
Earlier m q n p = (turn m < turn n) ⊎ ((turn m ≡ turn n) × ((q < p) ⊎ ((q ≡ p) × (m < n))))

-- refused with n at p: rule n is broken there, and no earlier rule or place is
pub record Broken (k : ℕ) (os cs : List ℕ) (n p : ℕ) : Type 0 where
  pub here : Breaks k os cs n p
  pub first : (m q : ℕ) → Breaks k os cs m q → Earlier m q n p → ⊥

-- not refused: no rule is broken
abbrev pub Unbroken : ℕ → List ℕ → List ℕ → Type 0
Unbroken k os cs = (n p : ℕ) → Breaks k os cs n p → ⊥

-- k and the tables of a site: at most 256 contexts, each rising, and at most 4,096 codes, none above 4,095
pub record Stands (k : ℕ) (os cs : List ℕ) (site : Site) : Type 0 where
  pub asked : 1 ≤ k
  pub most : k ≤ 64
  pub contexts : length site + 1 ≡ length os
  pub few : length site ≤ 256
  pub short : length cs ≤ 4096
  pub small : (i : ℕ) → i < length cs → get_or cs i 0 ≤ 4095
  pub rising : Rising site
  pub offsets_are : offsets_of site ≡ os
  pub codes_are : all_codes site ≡ cs
