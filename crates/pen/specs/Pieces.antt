-- Bytes written over a text at a place, and the pieces of a line's numbers.
use Rattle.std.specs.Prelude.{cond, ◌≡◌, List, ◌∷◌, ◌++◌, ℕ, ◌+◌, eqb, length, take, drop}
use Rattle.sheet.specs.Number.{digits_of}

-- the text with bytes written over it at a place
abbrev pub written : List ℕ → ℕ → List ℕ → List ℕ
written text at bs = take at text ++ bs ++ drop (at + length bs) text

-- bytes are written at `at`, and end at r
pub record Wrote (bs : List ℕ) (at : ℕ) (old now : List ℕ) (r : ℕ) : Type 0 where
  pub end : r ≡ at + length bs
  pub text : now ≡ written old at bs

-- the number i of a line: a space before its digits unless it is the first
unfoldable pub next_text : ℕ → ℕ → List ℕ
next_text i n = cond (eqb i 0) (digits_of n) (32 ∷ digits_of n)
