-- A refusal 9 at p is settled by the bytes up to and with p: another text with the same bytes there is refused alike. Numbers, and the codes of a line.
use mathlib.Core.Path.{◌≡◌, sym, ap, ◌∙◌}
use mathlib.Core.List.{List, [], ◌∷◌}
use Prim.Native.Nat.{ℕ, suc, ◌+◌, ◌<◌}
use native.Mathlib.Nat.{not-suc-le-zero, le_of_suc-le-suc}
use native.Mathlib.Omega.{arith}
use borrow.Author.Tests.{eq-eqb, ne_eqb, lt-ltb, le-ltb}
use lib.ListN.{length}
use Rattle.words.proofs.Split.{by_eq}
use Rattle.sheet.specs.Read.{refused}
use Rattle.sheet.specs.Number.{digit_run, digits_in, number_of}
use Rattle.sheet.specs.Pieces.{split}
use Rattle.sheet.specs.Reading.{room_after, codes_read, context_of}
use Rattle.sheet.specs.Meaning.{Alike}
use Rattle.sheet.proofs.Alike.{Agree, inside, beyond, agree_split}
use Rattle.sheet.proofs.Lines.{no_value}
use Rattle.sheet.proofs.Numbers.{by_digit, in_zero, in_run}
use Rattle.sheet.proofs.Refusal.{Late, then_refused, by_refusal, number_from}

-- the first bytes, and the rest
pub alike_rest : {m x y : ℕ} {s t : List ℕ} → Alike (suc m) (x ∷ s) (y ∷ t) → (x ≡ y) × Alike m s t
alike_rest a = (cc a.same, record { left = le_of_suc-le-suc a.left; right = le_of_suc-le-suc a.right; same = cc a.same })

-- the digits at a front, and the byte that ends them
run_steady : (w u : List ℕ) → Alike (suc (length (digit_run w))) w u → digit_run u ≡ digit_run w
unfolding digit_run
run_steady [] u a = absurd (not-suc-le-zero a.left)
run_steady (b ∷ w) [] a = absurd (not-suc-le-zero a.right)
run_steady (b ∷ w) (c ∷ u) a =
    let q : b ≡ c = cc a.same in
    rw (← q) (by_digit b
    (λ l m e. rw e (ap (λ (t : List ℕ). b ∷ t) (run_steady w u (alike_rest (rw e at a)).1)))
    (λ e. rw e))

in_steady : (w u : List ℕ) → Alike (suc (length (digits_in w))) w u → digits_in u ≡ digits_in w
in_steady [] u a = absurd (not-suc-le-zero a.left)
in_steady (b ∷ w) [] a = absurd (not-suc-le-zero a.right)
in_steady (b ∷ w) (c ∷ u) a =
    let q : c ≡ b = cc a.same in
    rw q (by_eq b 48
    (λ e. rw e (in_zero u ∙ sym (in_zero w)))
    (λ n. in_run b u n ∙ run_steady (b ∷ w) (b ∷ u) (rw (in_run b w n, q) at a) ∙ sym (in_run b w n)))

pub number_steady : (room at m : ℕ) (w u : List ℕ) {p : ℕ} → number_of room at w ≡ refused 9 p → suc p ≡ at + m → Alike m w u → number_of room at u ≡ refused 9 p
unfolding number_of
number_steady room at m w u {p} e h a =
    by_refusal room at w e
    (λ z o q. rw (digits (omega arith), eq-eqb _ _ z, q))
    (λ s x o q. absurd (omega arith))
    (λ s x y o q. absurd (omega arith))
    (λ s x y z o q. let f : length (digits_in w) < length u = omega (arith, a.right) in
    rw (digits (omega arith), ne_eqb (length (digits_in w)) 0 (λ i. omega arith), le-ltb 65535 _ x, lt-ltb _ room y, lt-ltb _ _ f, q))
  where
    digits : m ≡ suc (length (digits_in w)) → digits_in u ≡ digits_in w
    digits k = in_steady w u (rw k at a)

codes_from : (most used at : ℕ) (ws : List (List ℕ)) → Late at (codes_read most used at ws)
unfolding codes_read
codes_from most used at [] n p e = no_value (sym e)
codes_from most used at (w ∷ ws) n p e =
    then_refused (number_of (room_after most used) at w) _ e (number_from _ at w n p)
    (λ a f g. then_refused (codes_read most (suc used) (at + length w + 1) ws) _ g
    (λ h. omega (arith, codes_from most (suc used) (at + length w + 1) ws n p h))
    (λ c h z. no_value (sym z)))

codes_steady : (most used at m : ℕ) (ws us : List (List ℕ)) {p : ℕ} → codes_read most used at ws ≡ refused 9 p → suc p ≡ at + m → Agree m ws us → codes_read most used at us ≡ refused 9 p
unfolding codes_read
codes_steady most used at m _ _ {p} e h (inside {l = w} {k = u} ws us a) =
    then_refused (number_of (room_after most used) at w) _ e
    (λ f. rw (number_steady _ at m w u f h a))
    (λ n f g. then_refused (codes_read most (suc used) (at + length w + 1) ws) _ g
    (λ r. absurd (omega (arith, a.left, codes_from most (suc used) (at + length w + 1) ws 9 p r)))
    (λ c r z. no_value (sym z)))
codes_steady most used at m _ _ {p} e h (beyond n w {ls = ws} {ks = us} q a) =
    then_refused (number_of (room_after most used) at w) _ e
    (λ f. rw f)
    (λ v f g. then_refused (codes_read most (suc used) (at + length w + 1) ws) _ g
    (λ r. rw (f, codes_steady most (suc used) (at + length w + 1) n ws us r (omega arith) a))
    (λ c r z. no_value (sym z)))

pub context_steady : (most used at m : ℕ) (l u : List ℕ) {p : ℕ} → context_of most used at l ≡ refused 9 p → suc p ≡ at + m → Alike m l u → context_of most used at u ≡ refused 9 p
unfolding context_of
context_steady most used at m [] u e h a = no_value (sym e)
context_steady most used at m (b ∷ l) [] {p} e h a = absurd (omega (arith, a.right, codes_from most used at (split 32 (b ∷ l)) 9 p e))
context_steady most used at m (b ∷ l) (c ∷ u) e h a = codes_steady most used at m (split 32 (b ∷ l)) (split 32 (c ∷ u)) e h (agree_split 32 m (b ∷ l) (c ∷ u) a)
