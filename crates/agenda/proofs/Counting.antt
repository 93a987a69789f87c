-- Counting codes: how often one stands, and how many are below one.
-- The codes below the next one are those below this one and all that equal it: so the counts sum up to the starts.
use mathlib.Core.List.{List, [], ◌∷◌, ◌++◌}
use mathlib.Core.Path.{◌≡◌, refl, sym, ap, ◌∙◌}
use Prim.Native.Nat.{ℕ, zero, suc, ◌+◌, ◌≤◌}
use native.Mathlib.Omega.{arith}
use lib.Dec.{eqb}
use lib.ListN.{length, length-append}
use borrow.Author.Tests.{lt-ltb, le-ltb, eq-eqb, ne_eqb}
use Rattle.order.specs.Order.{keep}
use Rattle.order.proofs.Lists.{keep_few, keep_append, keep_none}
use Rattle.words.proofs.Split.{by_eq, by_le}
use Rattle.agenda.specs.Postings.{often, codes_below}

pub often_few : (cs : List ℕ) (x : ℕ) → often cs x ≤ length cs
unfolding often
often_few cs x = keep_few _ cs

pub below_few : (cs : List ℕ) (x : ℕ) → codes_below cs x ≤ length cs
unfolding codes_below
below_few cs x = keep_few _ cs

pub below_none : (cs : List ℕ) → codes_below cs 0 ≡ 0
unfolding codes_below
below_none cs = ap length (keep_none _ cs (λ c m. le-ltb c 0 (omega arith)))

-- below the next code are those below this one, and this one as often as it stands
pub below_suc : (cs : List ℕ) (x : ℕ) → codes_below cs (suc x) ≡ codes_below cs x + often cs x
unfolding codes_below often keep
below_suc [] x = refl
below_suc (c ∷ cs) x = by_eq c x
    (λ e. rw (lt-ltb c (suc x) (omega arith), le-ltb c x (omega arith), eq-eqb c x e) (omega (arith, below_suc cs x)))
    (λ d. by_le c x
    (λ l. rw (lt-ltb c (suc x) (omega arith), lt-ltb c x (omega (arith, d)), ne_eqb c x d) (omega (arith, below_suc cs x)))
    (λ l. rw (le-ltb c (suc x) (omega arith), le-ltb c x (omega arith), ne_eqb c x d) (below_suc cs x)))

-- more are below a greater one
pub below_rises : (cs : List ℕ) (x y : ℕ) → x ≤ y → codes_below cs x ≤ codes_below cs y
below_rises cs x zero h = let e : x ≡ 0 = omega arith in rw e (omega arith)
below_rises cs x (suc y) h = by_eq x (suc y) (λ (e : x ≡ suc y). rw e (omega arith)) (λ d. omega (arith, below_rises cs x y (omega arith), below_suc cs y))

-- one code more
pub often_add : (cs : List ℕ) (c x : ℕ) → often (cs ++ c ∷ []) x ≡ often cs x + often (c ∷ []) x
unfolding often
often_add cs c x = ap length (keep_append _ cs (c ∷ [])) ∙ length-append (keep (λ y. eqb y x) cs) (keep (λ y. eqb y x) (c ∷ []))

pub often_here : (c : ℕ) → often (c ∷ []) c ≡ 1
unfolding often keep
often_here c = rw (eq-eqb c c refl)

pub often_other : (c x : ℕ) → (x ≡ c → ⊥) → often (c ∷ []) x ≡ 0
unfolding often keep
often_other c x d = rw (ne_eqb c x (λ e. d (sym e)))
