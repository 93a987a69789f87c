-- A number that is refused with 10 or 11: what stands before it, in a piece and in a line, and what its digits say.
use mathlib.Core.Path.{◌≡◌, refl, sym, ap, ap₂, ◌∙◌}
use mathlib.Core.List.{List, [], ◌∷◌, ◌++◌, append_assoc, append-nil}
use Prim.Native.Nat.{ℕ, suc, ◌+◌, ◌≤◌, ◌<◌}
use native.Mathlib.Nat.{add-zero}
use native.Mathlib.Omega.{arith}
use borrow.Author.Tests.{eq-eqb, ne_eqb, lt-leb}
use lib.ListN.{length, length-append}
use Rattle.words.proofs.Split.{by_eq}
use Rattle.sheet.specs.Read.{Read, refused}
use Rattle.sheet.specs.Number.{digits_of, value_of, digit_run, digits_in, number_of}
use Rattle.sheet.specs.Pieces.{split}
use Rattle.sheet.specs.Reading.{behind, room_after, codes_read, context_of, line}
use Rattle.words.specs.Words.{Words16}
use Rattle.sheet.specs.Meaning.{spaced}
use Rattle.sheet.proofs.Numbers.{by_digit, in_none, in_zero, in_run}
use Rattle.sheet.proofs.Numerals.{number_read}
use Rattle.sheet.proofs.Lines.{no_value, number_small, room_left}
use Rattle.sheet.proofs.Refusal.{then_refused, same_refusal, by_refusal}
use Rattle.sheet.proofs.WritesBack.{rejoined, split_join}
use Rattle.sheet.proofs.FirstLine.{line_none, by_line}
use Rattle.sheet.proofs.Begun.{joined_more, codes_some}

-- digits that are refused with n: 10, or 11 where they say no less than the room
pub data Over (room n : ℕ) (ds : List ℕ) : Type 0 where
  above : n ≡ 10 → 0 < length ds → 65535 < value_of ds → Over room n ds
  no_room : n ≡ 11 → 0 < length ds → value_of ds ≤ 65535 → room ≤ value_of ds → Over room n ds

pub number_over : (room at : ℕ) (w : List ℕ) {n p : ℕ} → number_of room at w ≡ refused n p → (n ≡ 9 → ⊥) → (p ≡ at) × Over room n (digits_in w)
number_over room at w e h =
    by_refusal room at w e (λ z m q. absurd (h m)) (λ s a m q. (q, above m s a)) (λ s a b m q. (q, no_room m s a b)) (λ s a b c m q. absurd (h m))

-- a byte below the digits ends them
run_stop : (b : ℕ) (r t : List ℕ) → b < 48 → digit_run (r ++ b ∷ t) ≡ digit_run r
unfolding digit_run
run_stop b [] t h = rw (lt-leb 48 b h)
run_stop b (c ∷ r) t h = by_digit c (λ l m e. rw e (ap (λ (x : List ℕ). c ∷ x) (run_stop b r t h))) (λ e. rw e)

in_stop : (b : ℕ) (r t : List ℕ) → b < 48 → digits_in (r ++ b ∷ t) ≡ digits_in r
unfolding digit_run
in_stop b [] t h = in_run b t (λ e. omega arith) ∙ run_stop b [] t h ∙ sym in_none
in_stop b (c ∷ r) t h =
    by_eq c 48
    (λ e. rw e (in_zero (r ++ b ∷ t) ∙ sym (in_zero r)))
    (λ n. in_run c (r ++ b ∷ t) n ∙ run_stop b (c ∷ r) t h ∙ sym (in_run c r n))

-- what is behind a piece has no part in the digits at its end
pub joined_ends : (b : ℕ) (w : List ℕ) (ws : List (List ℕ)) → b < 48 → (t : List ℕ) × (rejoined b (w ∷ ws) ≡ w ++ t) × ((r : List ℕ) → digits_in (r ++ t) ≡ digits_in r)
unfolding rejoined
joined_ends b w [] h = ([], sym (append-nil w), λ r. ap digits_in (append-nil r))
joined_ends b w (u ∷ us) h = (b ∷ rejoined b (u ∷ us), refl, λ r. in_stop b r (rejoined b (u ∷ us)) h)

-- the codes cs before the number, and the rest of the line from it on
pub record CodeOver (most used n at p : ℕ) (l : List ℕ) : Type 0 where
  pub cs : List ℕ
  pub rest : List ℕ
  pub whole : l ≡ spaced cs ++ rest
  pub place : p ≡ at + length (spaced cs)
  pub words : Words16 cs
  pub fits : used + length cs ≤ most
  pub over : Over (room_after most (used + length cs)) n (digits_in rest)

-- one more code before it
code_next : {most used n at p : ℕ} (a : ℕ) (w : List ℕ) {l : List ℕ} → a ≤ 65535 → w ≡ digits_of a → CodeOver most (suc used) n (at + length w + 1) p l → CodeOver most used n at p (w ++ 32 ∷ l)
unfolding spaced
code_next {used = used} a w b d i =
    let q : suc used + length i.cs ≡ used + suc (length i.cs) = omega arith in
    record {
      cs = a ∷ i.cs;
      rest = i.rest;
      whole = rw (i.whole, d) (sym (append_assoc (digits_of a) (32 ∷ spaced i.cs) i.rest));
      place = rw (length-append, ← d) (omega (arith, i.place));
      words = (b, i.words);
      fits = omega (arith, i.fits);
      over = rw (← q) i.over;
    }

codes_over : (most used at : ℕ) (ws : List (List ℕ)) {n p : ℕ} → codes_read most used at ws ≡ refused n p → (n ≡ 9 → ⊥) → used ≤ most → CodeOver most used n at p (rejoined 32 ws)
unfolding codes_read spaced
codes_over most used at [] e h k = no_value (sym e)
codes_over most used at (w ∷ ws) {n} {p} e h k =
    then_refused (number_of (room_after most used) at w) _ e
    (λ f. let j = joined_ends 32 w ws (omega arith) in let o = number_over _ at w f h in
    record { cs = []; rest = rejoined 32 (w ∷ ws); whole = refl; place = omega (arith, o.0); words = tt; fits = omega arith; over = rw (j.1, j.2 w, add-zero) o.1 })
    (λ a f g. then_refused (codes_read most (suc used) (at + length w + 1) ws) _ g
    (λ r. let v = number_small _ at w f in
    rw (joined_more 32 w ws (codes_some _ _ _ ws r))
    (code_next a w v.few (number_read _ at w f) (codes_over most (suc used) (at + length w + 1) ws r h (room_left most used a v.fits))))
    (λ c r z. no_value (sym z)))

pub context_over : (most used at : ℕ) (l : List ℕ) {n p : ℕ} → context_of most used at l ≡ refused n p → (n ≡ 9 → ⊥) → used ≤ most → CodeOver most used n at p l
unfolding context_of
context_over most used at [] e h k = no_value (sym e)
context_over most used at (b ∷ l) e h k = rw (split_join 32 (b ∷ l)) at (codes_over most used at (split 32 (b ∷ l)) e h k)

pub behind_over : {A : Type 0} (key : List ℕ) (read : ℕ → List ℕ → Read A) (at : ℕ) (l : List ℕ) {n p : ℕ} → behind key read at l ≡ refused n p → (n ≡ 9 → ⊥)
    → (m : List ℕ) × (l ≡ key ++ m) × (read (at + length key) m ≡ refused n p)
unfolding behind
behind_over [] read at l e h = (l, refl, rw add-zero e)
behind_over (x ∷ key) read at [] e h = absurd (h (same_refusal e).0)
behind_over (x ∷ key) read at (b ∷ l) e h =
    let q : suc at + length key ≡ at + suc (length key) = omega arith in
    by_eq b x
    (λ z. let r = behind_over key read (suc at) l (rw (eq-eqb b x z) at e) h in (r.0, ap₂ ◌∷◌ z r.1, rw (← q) r.2))
    (λ z. absurd (h (same_refusal (rw (ne_eqb b x z) at e)).0))

-- a line refused with 10 or 11: what is behind it has no part in the digits
pub line_over : {A : Type 0} (read : ℕ → List ℕ → Read A) (at : ℕ) (ls : List (List ℕ)) {n p : ℕ} → line read at ls ≡ refused n p → (n ≡ 9 → ⊥)
    → (l : List ℕ) × (t : List ℕ) × (rejoined 10 ls ≡ l ++ t) × ((r : List ℕ) → digits_in (r ++ t) ≡ digits_in r) × (read at l ≡ refused n p)
line_over read at [] e h = absurd (h (line_none read at e).0)
line_over read at (l ∷ ls) e h =
    let j = joined_ends 10 l ls (omega arith) in
    by_line read at l ls e (λ f. (l, j.0, j.1, j.2, f)) (λ v f z o q. absurd (h o))
