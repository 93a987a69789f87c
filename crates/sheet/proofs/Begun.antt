-- A reading that is refused at p: the bytes before p begin a text of which nothing is refused before p. Numbers, and the codes of a line.
use mathlib.Core.Path.{◌≡◌, refl, sym, ap, ◌∙◌}
use mathlib.Core.List.{List, [], ◌∷◌, ◌++◌, map, append-nil}
use Prim.Native.Nat.{ℕ, suc, ◌+◌, ◌<◌}
use native.Mathlib.Nat.{le_refl}
use native.Mathlib.Omega.{arith}
use lib.ListN.{length}
use lib.Seq.{take-length}
use Rattle.sheet.specs.Read.{Read, value, refused}
use Rattle.sheet.specs.Number.{digits_of, value_of, digits_in, number_of}
use Rattle.sheet.specs.Text.{codes_text}
use Rattle.sheet.specs.Reading.{room_after, codes_read, context_of}
use Rattle.sheet.specs.Pieces.{split}
use Rattle.sheet.specs.Meaning.{Alike}
use Rattle.sheet.proofs.Alike.{alike_none, alike_left, alike_before, alike_cons}
use Rattle.sheet.proofs.Lines.{no_value}
use Rattle.sheet.proofs.Refusal.{Late, then_refused, late_then, by_refusal, number_from}
use Rattle.sheet.proofs.Numbers.{take_in, in_within}
use Rattle.sheet.proofs.Numerals.{in_numeral, number_digits, number_read}
use Rattle.sheet.proofs.ReadsBack.{words_of, context_some, codes_length}
use Rattle.sheet.proofs.WritesBack.{rejoined, split_join}

-- p is m bytes behind `at`; the m bytes of l before it begin the text of v, of which nothing is refused before p
pub record Begun {A : Type 0} (text : A → List ℕ) (read : ℕ → List ℕ → Read A) (at : ℕ) (l : List ℕ) (p : ℕ) : Type 0 where
  pub v : A
  pub m : ℕ
  pub place : p ≡ at + m
  pub alike : Alike m l (text v)
  pub late : Late p (read at (text v))

-- nothing of the text is begun
pub begun_none : {A : Type 0} (text : A → List ℕ) (read : ℕ → List ℕ → Read A) (at : ℕ) (l : List ℕ) (v : A) {p : ℕ} → p ≡ at → Late at (read at (text v)) → Begun text read at l p
begun_none text read at l v h f = record { v = v; m = 0; place = omega arith; alike = alike_none l (text v); late = λ n q e. omega (arith, f n q e) }

pub number_begun : (room at : ℕ) (w : List ℕ) {n p : ℕ} → number_of room at w ≡ refused n p → Begun digits_of (number_of room) at w p
number_begun room at w {n} {p} e =
    by_refusal room at w e (λ z m q. none q) (λ s a m q. none q) (λ s a b m q. none q)
    (λ s a b c m q.
    let ds = digits_in w in
    let i = in_numeral w s in
    let r = number_digits room at (value_of ds) a b in
    record {
      v = value_of ds;
      m = length ds;
      place = q;
      alike = record { left = in_within w; right = rw i (le_refl _); same = take_in w ∙ rw (i, take-length ds) };
      late = λ x y f. no_value (sym (sym r ∙ f));
    })
  where
    none : p ≡ at → Begun digits_of (number_of room) at w p
    none q = begun_none digits_of (number_of room) at w 0 q (number_from room at (digits_of 0))

-- the codes of a line's text are read from its words
pub context_words : (most used at : ℕ) (cs : List ℕ) → context_of most used at (codes_text cs) ≡ codes_read most used at (map digits_of cs)
unfolding context_of codes_read codes_text
context_words most used at [] = refl
context_words most used at (n ∷ ns) = context_some most used at (codes_text (n ∷ ns)) (codes_length n ns) ∙ ap (codes_read most used at) (words_of n ns)

codes_one : (n : ℕ) → codes_text (n ∷ []) ≡ digits_of n
unfolding codes_text
codes_one n = refl

codes_more : (n : ℕ) (cs : List ℕ) → 0 < length cs → codes_text (n ∷ cs) ≡ digits_of n ++ 32 ∷ codes_text cs
unfolding codes_text
codes_more n [] h = absurd (omega arith)
codes_more n (m ∷ ns) h = refl

-- the first piece is in front
pub joined_front : (b : ℕ) (w : List ℕ) (ws : List (List ℕ)) → (t : List ℕ) × (rejoined b (w ∷ ws) ≡ w ++ t)
unfolding rejoined
joined_front b w [] = ([], sym (append-nil w))
joined_front b w (u ∷ us) = (b ∷ rejoined b (u ∷ us), refl)

pub joined_more : (b : ℕ) (w : List ℕ) (ws : List (List ℕ)) → 0 < length ws → rejoined b (w ∷ ws) ≡ w ++ b ∷ rejoined b ws
unfolding rejoined
joined_more b w [] h = absurd (omega arith)
joined_more b w (u ∷ us) h = refl

pub codes_some : (most used at : ℕ) (ws : List (List ℕ)) {n p : ℕ} → codes_read most used at ws ≡ refused n p → 0 < length ws
unfolding codes_read
codes_some most used at [] e = no_value (sym e)
codes_some most used at (w ∷ ws) e = omega arith

codes_begun : (most used at : ℕ) (ws : List (List ℕ)) {n p : ℕ} → codes_read most used at ws ≡ refused n p
    → (b : Begun codes_text (context_of most used) at (rejoined 32 ws) p) × (0 < length b.v)
unfolding codes_read
codes_begun most used at [] e = no_value (sym e)
codes_begun most used at (w ∷ ws) {n} {p} e =
    then_refused (number_of (room_after most used) at w) _ e
    (λ f. let b = number_begun _ at w f in let j = joined_front 32 w ws in (
      record {
        v = b.v ∷ [];
        m = b.m;
        place = b.place;
        alike = rw (j.1, codes_one b.v) (alike_left j.0 b.alike);
        late = rw context_words (late_then (number_of (room_after most used) at (digits_of b.v)) _ b.late (λ a r x y q. no_value (sym q)));
      },
      omega arith,
    ))
    (λ a f g. then_refused (codes_read most (suc used) (at + length w + 1) ws) _ g
    (λ h. let i = codes_begun most (suc used) (at + length w + 1) ws h in
    let b = i.0 in
    let d = number_read _ at w f in
    let r : number_of (room_after most used) at (digits_of a) ≡ value a = rw (← d) f in
    let t : Late p (codes_read most (suc used) (at + length (digits_of a) + 1) (map digits_of b.v)) = rw (← d, ← context_words most (suc used) (at + length w + 1) b.v) b.late in (
      record {
        v = a ∷ b.v;
        m = length w + suc b.m;
        place = omega (arith, b.place);
        alike = rw (joined_more 32 w ws (codes_some _ _ _ ws h), codes_more a b.v i.1, ← d) (alike_before w (alike_cons refl b.alike));
        late = rw (context_words, r) (late_then (codes_read most (suc used) (at + length (digits_of a) + 1) (map digits_of b.v)) _ t (λ c q x y z. no_value (sym z)));
      },
      omega arith,
    ))
    (λ c h z. no_value (sym z)))

pub context_begun : (most used at : ℕ) (l : List ℕ) {n p : ℕ} → context_of most used at l ≡ refused n p → Begun codes_text (context_of most used) at l p
unfolding context_of
context_begun most used at [] e = no_value (sym e)
context_begun most used at (b ∷ l) {n} {p} e = rw (split_join 32 (b ∷ l)) at (codes_begun most used at (split 32 (b ∷ l)) e).0
