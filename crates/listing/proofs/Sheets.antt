-- What was read: the tables that the reader leaves are those of the sheet's site, and the parts that are lent to the join are whole.
use mathlib.Core.List.{List}
use mathlib.Core.Path.{◌≡◌, refl, sym, ap₂, ◌∙◌}
use Prim.Native.Nat.{ℕ, ◌+◌, ◌≤◌}
use native.Mathlib.Omega.{arith}
use lib.ListN.{length, take}
use Rattle.site.specs.Tables.{offsets_of, all_codes}
use Rattle.words.specs.Words.{padded}
use Rattle.words.proofs.Words.{padded_front}
use Rattle.sheet.specs.Read.{Read, value, refused, ◌then◌}
use Rattle.sheet.specs.Reading.{Sheet, read_sheet}
use Rattle.sheet.proofs.Accepted.{read_fits}
use Rattle.sheet.proofs.Tables.{offsets_length}
use Rattle.reader.specs.Answers.{reading_of, offsets_by, codes_by}
use Rattle.reader.specs.Reading.{Reading}
use Rattle.reader.specs.Reading as reading
use Rattle.listing.specs.Listing.{joined}
use Rattle.listing.specs.Inside.{SheetJoined, TablesJoined}
use Rattle.listing.specs.Joined.{Joined}
use Rattle.listing.specs.Joined as told
use Rattle.listing.proofs.Joining.{told_refused}

-- an answer that refuses
pub read_refused : (x : Read Sheet) {n p : ℕ} → reading_of x ≡ reading.Refused n p → x ≡ refused n p
unfolding reading_of
read_refused (value s) e = let y : ◌≡◌ {A = ℕ} 0 1 = cc e in absurd (omega arith)
read_refused (refused m q) {n} {p} e = let a : m ≡ n = cc e in let b : q ≡ p = cc e in λ i. refused (a i) (b i)

-- an answer that tells a sheet
pub record Sheeted (x : Read Sheet) (k c n : ℕ) : Type 0 where
  pub sheet : Sheet
  pub is : x ≡ value sheet
  pub asked : k ≡ sheet.k
  pub contexts : c ≡ length sheet.site
  pub codes : n ≡ length (all_codes sheet.site)

pub read_sheet_lem : (x : Read Sheet) {k c n : ℕ} → reading_of x ≡ reading.Sheet k c n → Sheeted x k c n
unfolding reading_of
read_sheet_lem (refused m q) e = let y : ◌≡◌ {A = ℕ} 0 1 = cc e in absurd (omega arith)
read_sheet_lem (value s) {k} {c} {n} e =
    let a : s.k ≡ k = cc e in
    let b : length s.site ≡ c = cc e in
    let d : length (all_codes s.site) ≡ n = cc e in
    record { sheet = s; is = refl; asked = sym a; contexts = sym b; codes = sym d }

module _ (sheet : List ℕ) {r : Reading} (e : r ≡ reading_of (read_sheet 257 4096 sheet)) where
  -- what the reader refuses is told
  pub sheet_refused : {n p : ℕ} (list : List ℕ) → r ≡ reading.Refused n p → SheetJoined (read_sheet 257 4096 sheet then joined) list (told.Refused n p)
  sheet_refused list f = told_refused list (rw (read_refused (read_sheet 257 4096 sheet) (sym e ∙ f)))

  module _ {k c n : ℕ} (f : r ≡ reading.Sheet k c n) where
    -- the sheet that was read
    sheeted : Sheeted (read_sheet 257 4096 sheet) k c n
    sheeted = read_sheet_lem (read_sheet 257 4096 sheet) (sym e ∙ f)

    -- the tables have room
    pub tables_fit : (c + 1 ≤ 257) × (n ≤ 4096)
    tables_fit = let s = sheeted in let g = read_fits 257 4096 sheet s.is in (omega (arith, s.contexts, g.contexts), omega (arith, s.codes, g.room))

    -- the parts lent are the tables of the sheet
    offsets_part : {os : List ℕ} → os ≡ padded 257 (offsets_by (read_sheet 257 4096 sheet)) → take (c + 1) os ≡ offsets_of sheeted.sheet.site
    unfolding offsets_by
    offsets_part {os} o =
        let s = sheeted in
        let l : c + 1 ≡ length (offsets_of s.sheet.site) = omega (arith, s.contexts, offsets_length 0 s.sheet.site) in
        let p : os ≡ padded 257 (offsets_of s.sheet.site) = o ∙ rw s.is in
        ap₂ take l p ∙ padded_front 257 (offsets_of s.sheet.site)

    codes_part : {cs : List ℕ} → cs ≡ padded 4096 (codes_by (read_sheet 257 4096 sheet)) → take n cs ≡ all_codes sheeted.sheet.site
    unfolding codes_by
    codes_part {cs} o =
        let s = sheeted in
        let p : cs ≡ padded 4096 (all_codes s.sheet.site) = o ∙ rw s.is in
        ap₂ take s.codes p ∙ padded_front 4096 (all_codes s.sheet.site)

    -- so what the join tells of the parts, it tells of the sheet
    pub sheet_told : {os cs list : List ℕ} {j : Joined} → os ≡ padded 257 (offsets_by (read_sheet 257 4096 sheet)) → cs ≡ padded 4096 (codes_by (read_sheet 257 4096 sheet))
        → TablesJoined k (take (c + 1) os) (take n cs) list j → SheetJoined (read_sheet 257 4096 sheet then joined) list j
    sheet_told o p t = let s = sheeted in rw s.is (t s.sheet s.asked (offsets_part o) (codes_part p))
