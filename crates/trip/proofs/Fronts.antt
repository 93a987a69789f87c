-- What a reading leaves at the front of the two tables: those of the site that was read, which are the sheet's text again.
use mathlib.Core.Path.{◌≡◌, refl, sym}
use mathlib.Core.List.{List, []}
use Prim.Native.Nat.{ℕ, ◌+◌, ◌-◌}
use native.Mathlib.Omega.{arith}
use lib.ListN.{length, take}
use Rattle.words.specs.Words.{padded}
use Rattle.words.proofs.Words.{padded_front}
use Rattle.site.specs.Tables.{site_of, offsets_of, all_codes}
use Rattle.sheet.specs.Read.{Read, value, refused}
use Rattle.sheet.specs.Text.{sheet_text}
use Rattle.sheet.specs.Reading.{Sheet, read_sheet}
use Rattle.sheet.proofs.Tables.{offsets_length}
use Rattle.sheet.proofs.WritesBack.{writes_back}
use Rattle.tables.proofs.Cuts.{site_back, tables_back}
use Rattle.tables.specs.Sound.{Sound}
use Rattle.reader.specs.Reading as reading
use Rattle.reader.specs.Answers.{reading_of, offsets_by, codes_by}
use Rattle.writer.proofs.Sheets.{one_less}

-- an accepted sheet is one that was read, with its three numbers
pub sheet_read : (x : Read Sheet) {k n m : ℕ} → reading.Sheet k n m ≡ reading_of x
    → (s : Sheet) × (x ≡ value s) × (s.k ≡ k) × (length s.site ≡ n) × (length (all_codes s.site) ≡ m)
unfolding reading_of
sheet_read (value s) e = (s, refl, sym (cc), sym (cc), sym (cc))
sheet_read (refused p q) e = let z : ◌≡◌ {A = ℕ} 0 1 = cc in absurd (omega arith)

-- the tables begin with those of its site
pub fronts : (lo lc : ℕ) (x : Read Sheet) (s : Sheet) {o c : List ℕ} → x ≡ value s → o ≡ padded lo (offsets_by x) → c ≡ padded lc (codes_by x)
    → (take (length s.site + 1) o ≡ offsets_of s.site) × (take (length (all_codes s.site)) c ≡ all_codes s.site)
unfolding offsets_by codes_by
fronts lo lc x s e f g =
    let l : length s.site + 1 ≡ length (offsets_of s.site) = omega (arith, offsets_length 0 s.site) in
    (rw (f, e, l) (padded_front lo (offsets_of s.site)), rw (g, e) (padded_front lc (all_codes s.site)))

-- whose text is the sheet
pub text_of : (lo lc : ℕ) (sheet : List ℕ) (s : Sheet) (o c : List ℕ) → read_sheet lo lc sheet ≡ value s → (take (length s.site + 1) o ≡ offsets_of s.site) × (take (length (all_codes s.site)) c ≡ all_codes s.site)
    → sheet_text s.k (site_of (take (length s.site + 1) o) (take (length (all_codes s.site)) c)) ≡ sheet
text_of lo lc sheet s o c e f = rw (f.0, f.1, site_back [] s.site) (writes_back lo lc sheet e)

-- the other way: where the site of sound tables is read, the tables are what they were
pub tables_again : {k : ℕ} {os cs : List ℕ} → Sound os cs → (x : Read Sheet) → x ≡ value (record { k = k; site = site_of os cs })
    → (reading_of x ≡ reading.Sheet k (length os - 1) (length cs)) × (offsets_by x ≡ os) × (codes_by x ≡ cs)
unfolding reading_of offsets_by codes_by
tables_again {k} {os} {cs} S x e =
    let n = sym (one_less S) in
    rw e (λ i. reading.Sheet k (n i) (length ((tables_back S).1 i)), (tables_back S).0, (tables_back S).1)
