-- The zeros behind the data: what the call leaves of the tables that the sheet was read into.
-- The answer tells how many words hold data, and there the zeroing begins.
use mathlib.Core.Path.{◌≡◌, refl, sym, ◌∙◌}
use mathlib.Core.List.{List, ◌++◌}
use Prim.Native.Nat.{ℕ, ◌-◌, ◌≤◌}
use native.Mathlib.Omega.{arith}
use lib.ListN.{length, take, replicate}
use Rattle.words.specs.Words.{padded}
use Rattle.sheet.specs.Read.{Read, value, refused}
use Rattle.sheet.specs.Reading.{Sheet}
use Rattle.sheet.proofs.Tables.{offsets_length, front_fits}
use Rattle.reader.specs.Reading.{Reading}
use Rattle.reader.specs.Answers.{reading_at, reading_of, offsets_by, codes_by}
use Rattle.reader.specs.Fronts.{Taken, offsets_used, codes_used}
use Rattle.reader.specs.Calls.{Reads}
use Rattle.reader.proofs.Answers.{reading_tells}

-- a front that is kept, and zeros behind it
refilled : (now : List ℕ) {out ws : List ℕ} {n k : ℕ} → take (length ws) now ≡ ws → k ≡ length ws → length now ≡ n
    → out ≡ take k now ++ replicate (length now - k) 0 → out ≡ padded n ws
unfolding padded
refilled now f e l o = o ∙ rw (e, f, l)

-- the answer tells how many words hold data
offsets_count : (x : Read Sheet) → length (offsets_by x) ≡ offsets_used (reading_of x)
unfolding reading_of offsets_by offsets_used
offsets_count (value s) = omega (arith, offsets_length 0 s.site)
offsets_count (refused n p) = refl

-- so many codes
codes_count : (x : Read Sheet) → length (codes_by x) ≡ codes_used (reading_of x)
unfolding reading_of codes_by codes_used
codes_count (value s) = refl
codes_count (refused n p) = refl

-- the sheet's data stand at the front of o and c
module _ {x : Read Sheet} {o c : List ℕ} {r : Reading} (T : Taken x o c r) where
  -- i offsets in use are all that were read
  all_offsets : {i : ℕ} → i ≡ offsets_used r → i ≡ length (offsets_by x)
  all_offsets u = u ∙ rw T.answer (sym (offsets_count x))

  -- and so are j codes
  all_codes_lem : {j : ℕ} → j ≡ codes_used r → j ≡ length (codes_by x)
  all_codes_lem v = v ∙ rw T.answer (sym (codes_count x))

  -- they fit their table
  pub offsets_fit : {i : ℕ} → i ≡ offsets_used r → i ≤ length o
  offsets_fit u = omega (arith, all_offsets u, front_fits _ _ _ T.offsets_front refl)

  -- and the codes theirs
  pub codes_fit : {j : ℕ} → j ≡ codes_used r → j ≤ length c
  codes_fit v = omega (arith, all_codes_lem v, front_fits _ _ _ T.codes_front refl)

  -- and zeros behind them
  pub offsets_zeroed : {i n : ℕ} → i ≡ offsets_used r → length o ≡ n → {out : List ℕ} → out ≡ take i o ++ replicate (length o - i) 0
      → out ≡ padded n (offsets_by x)
  offsets_zeroed u l z = refilled o T.offsets_front (all_offsets u) l z

  -- the same of the codes
  pub codes_zeroed : {j n : ℕ} → j ≡ codes_used r → length c ≡ n → {out : List ℕ} → out ≡ take j c ++ replicate (length c - j) 0
      → out ≡ padded n (codes_by x)
  codes_zeroed v l z = refilled c T.codes_front (all_codes_lem v) l z

-- so the call has read
pub zeros_behind : (sheet offsets codes : List ℕ) {o c : List ℕ} {r : Reading} → Taken (reading_at offsets codes sheet) o c r
    → {o₂ c₂ : List ℕ} → o₂ ≡ padded (length offsets) (offsets_by (reading_at offsets codes sheet))
    → c₂ ≡ padded (length codes) (codes_by (reading_at offsets codes sheet)) → Reads sheet offsets codes r o₂ c₂
zeros_behind sheet offsets codes T f g = record { told = reading_tells _ T.answer; offsets_are = f; codes_are = g }
