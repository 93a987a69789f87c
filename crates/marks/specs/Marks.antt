-- The marks of some numbers: a bit for each number, 16 numbers a word. The numbers of a context are its codes.
use Rattle.std.specs.Prelude.{Bool, true, false, not, cond, List, [], ◌∷◌, map, ℕ, zero, suc, ◌+◌, ◌*◌, ◌/◌, ◌%◌, ◌^◌, ◌<◌, eqb, get_or, set}
use Rattle.std.specs.Int.Bits.{bit_or}
use Rattle.order.specs.Order.{◌∈◌}
use Rattle.site.specs.Site.{has, up_to}

-- how many words the marks of codes have
abbrev pub code_words : ℕ
code_words = 256

-- codes that have a mark
abbrev pub HaveMarks : List ℕ → Type 0
HaveMarks xs = (x : ℕ) → x ∈ xs → x < 4096

-- 1 for true, 0 for false
abbrev pub bit : Bool → ℕ
bit true = 1
bit false = 0

-- the number whose n bits, the lowest first, are those of a test
unfoldable pub bits : (ℕ → Bool) → ℕ → ℕ
bits p zero = 0
bits p (suc n) = bits (λ b. p (suc b)) n * 2 + bit (p 0)

-- word i tells of the numbers 16 i .. 16 i + 15 which of them are in xs
unfoldable pub mark_word : List ℕ → ℕ → ℕ
mark_word xs i = bits (λ b. has xs (16 * i + b)) 16

-- the marks of the numbers xs, in n words
unfoldable pub marks_of : ℕ → List ℕ → List ℕ
marks_of n xs = map (mark_word xs) (up_to n)

-- x is marked besides
unfoldable pub with_mark : List ℕ → ℕ → List ℕ
with_mark marks x = set marks (x / 16) (bit_or (get_or marks (x / 16) 0) (2 ^ (x % 16)))

-- the mark of x: 1 or 0
unfoldable pub bit_of : List ℕ → ℕ → ℕ
bit_of marks x = get_or marks (x / 16) 0 / 2 ^ (x % 16) % 2

-- whether x is marked
unfoldable pub is_marked : List ℕ → ℕ → Bool
is_marked marks x = not (eqb (bit_of marks x) 0)

-- how many of some codes are marked
unfoldable pub marked_count : List ℕ → List ℕ → ℕ
marked_count marks [] = 0
marked_count marks (y ∷ ys) = bit_of marks y + marked_count marks ys

-- the marked ones of some codes, counted from code x on, if x is the first of them; else 0
unfoldable pub marked_from : List ℕ → ℕ → List ℕ → ℕ
marked_from marks x [] = 0
marked_from marks x (y ∷ ys) = cond (eqb (bit_of marks y) 0) (marked_from marks x ys) (cond (eqb y x) (marked_count marks (y ∷ ys)) 0)
