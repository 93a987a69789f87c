-- The numbers of a line, one space between: how they grow, how they are measured, and how they are written.
use mathlib.Core.Bool.{false}
use mathlib.Core.Path.{◌≡◌, refl, sym, ◌∙◌}
use mathlib.Core.List.{List, [], ◌∷◌, ◌++◌, append_assoc}
use Prim.Native.Nat.{ℕ, suc, ◌+◌, ◌-◌, ◌≤◌, ◌<◌, zero-le}
use native.Mathlib.Nat.{add-zero}
use native.Mathlib.Omega.{arith}
use lib.Dec.{leb}
use borrow.Author.Tests.{eq-eqb, ne_eqb, lt-leb}
use lib.ListN.{length, take, get_or, length-append}
use Rattle.sheet.specs.Number.{digits_of}
use Rattle.sheet.specs.Text.{codes_text}
use Rattle.pen.specs.Pieces.{Wrote, next_text}
use Rattle.pen.proofs.Written.{written_none, wrote_then}
use Rattle.pen.proofs.Grown.{Grows, one_more, no_longer, piece_fits}

-- a number that is the first; one that is not
pub next_first : (i n : ℕ) → i ≡ 0 → next_text i n ≡ digits_of n
unfolding next_text
next_first i n z = rw (eq-eqb i 0 z)

pub next_later : (i n : ℕ) → (i ≡ 0 → ⊥) → next_text i n ≡ (32 ∷ []) ++ digits_of n
unfolding next_text
next_later i n z = rw (ne_eqb i 0 z)

-- how long they are
module _ (i n : ℕ) where
  pub first_length : i ≡ 0 → length (next_text i n) ≡ length (digits_of n)
  first_length z = rw (next_first i n z)

  pub later_length : (i ≡ 0 → ⊥) → length (next_text i n) ≡ length (digits_of n) + 1
  later_length z = rw (next_later i n z) (omega arith)

  -- and how they are written
  pub first_wrote : i ≡ 0 → {at r : ℕ} {old now : List ℕ} → Wrote (digits_of n) at old now r → Wrote (next_text i n) at old now r
  first_wrote z w = rw (next_first i n z) w

  pub later_wrote : (i ≡ 0 → ⊥) → {at r s : ℕ} {old mid now : List ℕ} → at + length (next_text i n) ≤ length old → Wrote (32 ∷ []) at old mid r → Wrote (digits_of n) r mid now s → Wrote (next_text i n) at old now s
  later_wrote z h v w = rw (next_later i n z) (wrote_then (omega (arith, later_length z)) v w)

behind : (m n : ℕ) → next_text (suc m) n ≡ 32 ∷ digits_of n
behind m n = next_later (suc m) n (λ e. omega arith)

snoc : (ns : List ℕ) (n : ℕ) → codes_text (ns ++ (n ∷ [])) ≡ codes_text ns ++ next_text (length ns) n
unfolding codes_text
snoc [] n = sym (next_first 0 n refl)
snoc (c ∷ []) n = rw (behind 0 n)
snoc (c ∷ e ∷ ns) n = rw (snoc (e ∷ ns) n, behind (suc (length ns)) n, behind (length ns) n, append_assoc)

none : codes_text [] ≡ []
unfolding codes_text
none = refl

-- numbers with one space between
pub numbers_grow : Grows codes_text next_text
numbers_grow = record { none = none; snoc = snoc }

-- the measuring of `numbers_fit`: i numbers are counted, and of the room so much is left
pub record Measured (room : ℕ) (ns : List ℕ) (left i : ℕ) : Type 0 where
  pub within : i ≤ length ns
  pub counted : left + length (codes_text (take i ns)) ≡ room

pub measured_start : (room : ℕ) (ns : List ℕ) → Measured room ns room 0
measured_start room ns = record { within = zero-le; counted = rw (none, add-zero) }

module _ {room : ℕ} {ns : List ℕ} {left i : ℕ} (m : Measured room ns left i) (h : i < length ns) {need : ℕ} (e : need ≡ length (next_text i (get_or ns i 0))) where
  pub measured_next : need ≤ left → Measured room ns (left - need) (i + 1)
  measured_next l = record { within = omega arith; counted = rw (one_more numbers_grow ns i 0 h, length-append) (omega (arith, m.counted)) }

  pub measured_full : left < need → false ≡ leb (length (codes_text ns)) room
  measured_full l = sym (lt-leb (length (codes_text ns)) room (omega (arith, m.counted, piece_fits numbers_grow ns i 0 h)))

-- the loop of `numbers_at`: i numbers are written, up to `to`
pub record Numbered (ns old now : List ℕ) (at to i : ℕ) : Type 0 where
  pub within : i ≤ length ns
  pub room : at + length (codes_text ns) ≤ length old
  pub long : length now ≡ length old
  pub wrote : Wrote (codes_text (take i ns)) at old now to

pub numbered_start : (ns old : List ℕ) (at : ℕ) → at + length (codes_text ns) ≤ length old → Numbered ns old old at at 0
numbered_start ns old at h = record { within = zero-le; room = h; long = refl; wrote = record { end = rw (none, add-zero); text = rw none (sym (written_none old at)) } }

module _ {ns old now : List ℕ} {at to i : ℕ} (w : Numbered ns old now at to i) where
  pub numbered_fits : i < length ns → to + length (next_text i (get_or ns i 0)) ≤ length now
  numbered_fits h = omega (arith, w.room, w.long, w.wrote.end, piece_fits numbers_grow ns i 0 h)

  pub numbered_next : i < length ns → {last : List ℕ} {r : ℕ} → length last ≡ length now → Wrote (next_text i (get_or ns i 0)) to now last r → Numbered ns old last at r (i + 1)
  numbered_next h l v = record { within = omega arith; room = w.room; long = l ∙ w.long; wrote = rw (one_more numbers_grow ns i 0 h) (wrote_then (omega (arith, w.room, no_longer numbers_grow ns i)) w.wrote v) }
