-- What an answer tells, by the paper's number and values, is the answer; and so the answer of a reading.
-- So a promise may speak of the number and the values alone, and still fixes the answer.
use mathlib.Core.List.{List, [], ◌∷◌}
use mathlib.Core.Path.{◌≡◌, ap}
use Prim.Native.Nat.{ℕ}
use native.Mathlib.Omega.{arith}
use lib.ListN.{length}
use Rattle.std.specs.Prelude.{Result, Ok, Err}
use Rattle.refusal.specs.declared.Refusal.{Refusal}
use Rattle.refusal.proofs.Numbers.{number_tells}
use Rattle.sheet.specs.Read.{Read, value, refused, read_number, read_values}
use Rattle.sheet.specs.Reading.{Sheet, read_sheet}
use Rattle.reader.specs.declared.Sheet as read
use Rattle.reader.specs.Reading.{Reading, reading_said}
use Rattle.reader.specs.Reading as reading
use Rattle.reader.specs.Answers.{reading_number, reading_values, ReadingTells, sheet_values, reading_of}
use Rattle.reader.specs.Calls.{Reads}

-- a refusal, by its number and its place
module _ {n p : ℕ} where
  -- what is told of a refusal is told of no other answer
  pub tells_refusal : (r : Reading) → ReadingTells r n (p ∷ []) → r ≡ reading.Refused n p
  tells_refusal (reading.Sheet k c m) t = absurd (omega (arith, ap length t.1))
  tells_refusal (reading.Refused a b) t = let q : b ≡ p = cc t.1 in λ i. reading.Refused (t.0 i) (q i)

  -- and it is told of the refusal
  pub refusal_tells : {r : Reading} → r ≡ reading.Refused n p → ReadingTells r n (p ∷ [])
  refusal_tells e = (ap reading_number e, ap reading_values e)

-- a sheet, by its three values
module _ {k c m : ℕ} where
  -- what is told of a sheet is told of no other answer
  pub tells_sheet : (r : Reading) → ReadingTells r 0 (k ∷ c ∷ m ∷ []) → r ≡ reading.Sheet k c m
  tells_sheet (reading.Sheet a b d) t =
      let x : a ≡ k = cc t.1 in
      let y : b ≡ c = cc t.1 in
      let z : d ≡ m = cc t.1 in λ i. reading.Sheet (x i) (y i) (z i)
  tells_sheet (reading.Refused a b) t = absurd (omega (arith, ap length t.1))

  -- and it is told of the sheet
  pub sheet_tells : {r : Reading} → r ≡ reading.Sheet k c m → ReadingTells r 0 (k ∷ c ∷ m ∷ [])
  sheet_tells e = (ap reading_number e, ap reading_values e)

-- an answer, by what it says: each rule has a number of its own
pub said_tells : (r s : Result read.Sheet Refusal) → reading_said r ≡ reading_said s → r ≡ s
said_tells (Ok a) (Ok b) e =
    let x : a.k ≡ b.k = cc in
    let y : a.contexts ≡ b.contexts = cc in
    let z : a.codes ≡ b.codes = cc in λ i. Ok (record { k = x i; contexts = y i; codes = z i })
said_tells (Ok a) (Err q) e = let z : ◌≡◌ {A = ℕ} 0 1 = cc in absurd (omega arith)
said_tells (Err p) (Ok b) e = let z : ◌≡◌ {A = ℕ} 0 1 = cc in absurd (omega arith)
said_tells (Err p) (Err q) e =
    let x : p.rule ≡ q.rule = number_tells (cc) in
    let y : p.place ≡ q.place = cc in λ i. Err (record { rule = x i; place = y i })

-- a reading, by its own number and values
pub tells_reading : (x : Read Sheet) (r : Reading) → ReadingTells r (read_number x) (read_values sheet_values x) → r ≡ reading_of x
unfolding reading_of
tells_reading (value s) r t = tells_sheet r t
tells_reading (refused n p) r t = tells_refusal r t

-- and its answer tells them
pub reading_tells : (x : Read Sheet) {r : Reading} → r ≡ reading_of x → ReadingTells r (read_number x) (read_values sheet_values x)
unfolding reading_of
reading_tells (value s) e = sheet_tells e
reading_tells (refused n p) e = refusal_tells e

-- for callers: the contract gives the answer itself
pub reads_answer : {sheet offsets codes : List ℕ} {r : Reading} {o c : List ℕ} → Reads sheet offsets codes r o c
    → r ≡ reading_of (read_sheet (length offsets) (length codes) sheet)
reads_answer {r = r} R = tells_reading _ r R.told
