-- The words on the way to the starts: a row of numbers behind zeros, and how it changes where a code is counted
-- or a count is summed up.
use mathlib.Core.List.{List, [], ◌∷◌, ◌++◌, map, append_assoc}
use mathlib.Core.Path.{◌≡◌, sym, ap, ◌∙◌}
use Prim.Native.Nat.{ℕ, zero, suc, ◌+◌, ◌-◌, ◌≤◌, ◌<◌}
use native.Mathlib.Omega.{arith}
use lib.ListN.{length, get_or, set, replicate, length-append, length-replicate, replicate-append-replicate}
use lib.Seq.{get_or-append-add}
use borrow.Author.Tests.{le-leb, lt-leb}
use Rattle.site.specs.Site.{up_to}
use Rattle.words.specs.Words.{padded, Holds}
use Rattle.words.proofs.Words.{padded_at, padded_set, padded_none, held}
use Rattle.words.proofs.Split.{by_le}
use Rattle.agenda.specs.Agenda.{summed}
use Rattle.agenda.specs.Postings.{often, codes_below}
use Rattle.site.proofs.Rows.{row_length, row_at, row_set, row_zeros}
use Rattle.agenda.proofs.Rows.{set_append_add}
use Rattle.agenda.proofs.Counting.{often_few, often_add, often_other, below_none}

-- ---- zeros at the end are no words of their own

pub zeros_behind : (n m : ℕ) (ws : List ℕ) → length ws + m ≤ n → padded n (ws ++ replicate m 0) ≡ padded n ws
unfolding padded
zeros_behind n m ws h =
    let e : m + (n - length (ws ++ replicate m 0)) ≡ n - length ws = omega (arith, length-append ws (replicate m 0), length-replicate {A = ℕ} m 0) in
    append_assoc ws (replicate m 0) (replicate (n - length (ws ++ replicate m 0)) 0) ∙ ap (λ (l : List ℕ). ws ++ l) (replicate-append-replicate m (n - length (ws ++ replicate m 0)) 0 ∙ ap (λ (i : ℕ). replicate i 0) e)

-- nor is a row of zeros
pub zero_row : (g : ℕ → ℕ) (n a b : ℕ) → ((i : ℕ) → i < b → g i ≡ 0) → a + b ≤ n → replicate n 0 ≡ padded n (replicate a 0 ++ map g (up_to b))
zero_row g n a b q h = rw (← row_zeros g b q, replicate-append-replicate) (sym (zeros_behind n (a + b) [] (omega arith) ∙ sym (padded_none n)))

-- ---- a row behind zeros

abbrev zeros : List ℕ
zeros = replicate 1026 0

abbrev pub rowed : (ℕ → ℕ) → List ℕ
rowed f = replicate 1026 0 ++ map f (up_to 4097)

none_length : length zeros ≡ 1026
none_length = length-replicate {A = ℕ} 1026 0

pub rowed_length : (f : ℕ → ℕ) → length (rowed f) ≡ 5123
rowed_length f = omega (arith, length-append zeros (map f (up_to 4097)), none_length, row_length f 4097)

module _ (f : ℕ → ℕ) {work : List ℕ} (w : Holds work (rowed f)) (x : ℕ) (h : x < 4097) where
  pub rowed_at : get_or work (1026 + x) 0 ≡ f x
  rowed_at = rw (w, ← none_length) (padded_at (length work) (rowed f) (length zeros + x) ∙ get_or-append-add zeros (map f (up_to 4097)) x 0 ∙ row_at f 4097 x h)

  pub rowed_set : (g : ℕ → ℕ) (v : ℕ) → 5123 ≤ length work → ((k : ℕ) → (k ≡ x → ⊥) → f k ≡ g k) → v ≡ g x → Holds (set work (1026 + x) v) (rowed g)
  rowed_set g v room same e =
      let row : set (rowed f) (1026 + x) v ≡ rowed g = rw (e, ← none_length) (set_append_add zeros (map f (up_to 4097)) x (g x) ∙ ap (λ (l : List ℕ). zeros ++ l) (row_set f g 4097 x h same)) in
      let a : set work (1026 + x) v ≡ padded (length work) (set (rowed f) (1026 + x) v) = ap (λ (l : List ℕ). set l (1026 + x) v) w ∙ padded_set (length work) (rowed f) (1026 + x) v (omega (arith, rowed_length f)) in
      held (length work) (rowed g) (omega (arith, rowed_length g)) (a ∙ ap (padded (length work)) row)

-- ---- the sums

pub summed_done : (y : ℕ) (cs : List ℕ) (x : ℕ) → x ≤ y → summed y cs x ≡ codes_below cs x
unfolding summed
summed_done y cs x h = rw (le-leb x y h)

pub summed_behind : (y : ℕ) (cs : List ℕ) (x : ℕ) → y ≤ x → summed y cs (suc x) ≡ often cs x
unfolding summed
summed_behind y cs x h = rw (lt-leb (suc x) y (omega arith))

-- nothing is counted
pub summed_none : (x : ℕ) → summed 0 [] x ≡ 0
summed_none zero = summed_done 0 [] 0 (omega arith) ∙ below_none []
summed_none (suc x) = summed_behind 0 [] x (omega arith) ∙ omega (arith, often_few [] x)

-- one code more is counted
pub summed_add : (cs : List ℕ) (c k : ℕ) → (k ≡ suc c → ⊥) → summed 0 cs k ≡ summed 0 (cs ++ c ∷ []) k
summed_add cs c zero d = summed_done 0 cs 0 (omega arith) ∙ below_none cs ∙ sym (summed_done 0 (cs ++ c ∷ []) 0 (omega arith) ∙ below_none (cs ++ c ∷ []))
summed_add cs c (suc k) d = summed_behind 0 cs k (omega arith) ∙ sym (summed_behind 0 (cs ++ c ∷ []) k (omega arith) ∙ omega (arith, often_add cs c k, often_other c k (λ e. d (ap suc e))))

-- one more is summed up
pub summed_next : (y : ℕ) (cs : List ℕ) (k : ℕ) → (k ≡ suc y → ⊥) → summed y cs k ≡ summed (suc y) cs k
summed_next y cs zero d = summed_done y cs 0 (omega arith) ∙ sym (summed_done (suc y) cs 0 (omega arith))
summed_next y cs (suc k) d = by_le (suc k) y
    (λ h. summed_done y cs (suc k) h ∙ sym (summed_done (suc y) cs (suc k) (omega arith)))
    (λ h. summed_behind y cs k (omega arith) ∙ sym (summed_behind (suc y) cs k (omega (arith, h, d))))
