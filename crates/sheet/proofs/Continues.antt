-- Readings of lines that continue a sheet: a refusal's place is right, for one more line as for the lines behind it.
use mathlib.Core.Path.{◌≡◌, refl, sym, ap, ◌∙◌}
use mathlib.Core.List.{List, [], ◌∷◌, ◌++◌}
use Prim.Native.Nat.{ℕ, suc, ◌+◌, ◌<◌}
use native.Mathlib.Omega.{arith}
use lib.ListN.{length}
use Rattle.sheet.specs.Read.{Read, value, refused, ◌then◌}
use Rattle.sheet.specs.Pieces.{split}
use Rattle.sheet.specs.Reading.{Line, line}
use Rattle.sheet.specs.Meaning.{Alike}
use Rattle.sheet.proofs.Alike.{alike_self, alike_left, alike_right, alike_before, alike_cons, Agree, inside, beyond}
use Rattle.sheet.proofs.Pieces.{split_some}
use Rattle.sheet.proofs.Lines.{no_value}
use Rattle.sheet.proofs.Refusal.{Late, then_refused, late_then}
use Rattle.sheet.proofs.ReadsBack.{split_cut}
use Rattle.sheet.proofs.WritesBack.{rejoined, line_written}
use Rattle.sheet.proofs.Begun.{Begun, begun_none, joined_front}
use Rattle.sheet.proofs.FirstLine.{line_none, line_no, line_on, by_line, line_got}
use Rattle.sheet.proofs.Follows.{Follows}

-- p is m bytes behind `at`; the m bytes of the lines before it begin a good text t, of which nothing is refused before p
pub record Started {B : Type 0} (Good : List ℕ → Type 0) (read : ℕ → List (List ℕ) → Read B) (at : ℕ) (ls : List (List ℕ)) (p : ℕ) : Type 0 where
  pub t : List ℕ
  pub m : ℕ
  pub good : Good t
  pub place : p ≡ at + m
  pub alike : Alike m (rejoined 10 ls) t
  pub late : Late p (read at (split 10 t))

pub record Continues {B : Type 0} (Good : List ℕ → Type 0) (read : ℕ → List (List ℕ) → Read B) : Type 0 where
  -- some good text, to complete a sheet by
  pub some : (t : List ℕ) × Good t
  pub started : (at : ℕ) (ls : List (List ℕ)) {n p : ℕ} → read at ls ≡ refused n p → Started Good read at ls p
  pub steady : (at m : ℕ) (ls ks : List (List ℕ)) {p : ℕ} → read at ls ≡ refused 9 p → suc p ≡ at + m → Agree m ls ks → read at ks ≡ refused 9 p

-- the text of a line, and a good text behind it
pub record AfterLine {A : Type 0} (text : A → List ℕ) (Good : A → List ℕ → Type 0) (u : List ℕ) : Type 0 where
  pub v : A
  pub t : List ℕ
  pub good : Good v t
  pub whole : u ≡ text v ++ 10 ∷ t

split_count : (b : ℕ) (t : List ℕ) → 0 < length (split b t)
split_count b t = let m = split_some b t in rw m.2 (omega arith)

pub agree_some : {m : ℕ} {ls ks : List (List ℕ)} → Agree m ls ks → (0 < length ls) × (0 < length ks)
agree_some (inside ls ks a) = (omega arith, omega arith)
agree_some (beyond n l e a) = (omega arith, omega arith)

module _ {A : Type 0} {text : A → List ℕ} {read : ℕ → List ℕ → Read A} (R : Follows text read) where
  line_begun : (at : ℕ) (ls : List (List ℕ)) {n p : ℕ} → line read at ls ≡ refused n p → Begun text read at (rejoined 10 ls) p
  line_begun at [] e =
      begun_none text read at (rejoined 10 []) R.plain (line_none read at e).1 (λ x y f. let b = R.begun at (text R.plain) f in omega (arith, b.place))
  line_begun at (l ∷ ls) e =
      let j = joined_front 10 l ls in
      by_line read at l ls e
      (λ f. let b = R.begun at l f in record { v = b.v; m = b.m; place = b.place; alike = rw j.1 (alike_left j.0 b.alike); late = b.late })
      (λ v f z o q. let w = R.written at l f in
      let r : read at (text v) ≡ value v = rw (← w) f in
      record { v = v; m = length l; place = q; alike = rw (j.1, ← w) (alike_left j.0 (alike_self l)); late = λ x y g. no_value (sym (sym r ∙ g)) })

  -- the text of a line and any text behind it, cut into lines
  cut : (v : A) (t : List ℕ) → split 10 (text v ++ 10 ∷ t) ≡ text v ∷ split 10 t
  cut v t = split_cut 10 (text v) t (R.free v)

  -- a line that was read, read again before another text
  again : (at : ℕ) (l : List ℕ) (v : A) (q : ℕ) (t : List ℕ) → l ≡ text v → read at l ≡ value v → q ≡ at + length l + 1
      → line read at (text v ∷ split 10 t) ≡ value (record { got = v; next = q; lines = split 10 t })
  again at l v q t w f k = rw (← w, k) (line_on read at l (split 10 t) (split_count 10 t) f)

  module _ {B : Type 0} {Good : A → List ℕ → Type 0} {go : A → ℕ → List (List ℕ) → Read B} (G : (v : A) → Continues (Good v) (go v)) where
    from : (v : A) (at : ℕ) (ls : List (List ℕ)) → Late at (go v at ls)
    from v at ls n p e = let s = (G v).started at ls e in omega (arith, s.place)

    line_started : (at : ℕ) (ls : List (List ℕ)) {n p : ℕ} → (line read at ls then λ x. go x.got x.next x.lines) ≡ refused n p
        → Started (AfterLine text Good) (λ a ks. line read a ks then λ x. go x.got x.next x.lines) at ls p
    line_started at ls {n} {p} e = then_refused (line read at ls) _ e bad good
      where
        bad : line read at ls ≡ refused n p → Started (AfterLine text Good) (λ a ks. line read a ks then λ x. go x.got x.next x.lines) at ls p
        bad f =
            let b = line_begun at ls f in
            let g = (G b.v).some in
            record {
              t = text b.v ++ 10 ∷ g.0;
              m = b.m;
              good = record { v = b.v; t = g.0; good = g.1; whole = refl };
              place = b.place;
              alike = alike_right (10 ∷ g.0) b.alike;
              late = rw (cut b.v g.0) (late_then (line read at (text b.v ∷ split 10 g.0)) _
                  (λ x y q. by_line read at (text b.v) (split 10 g.0) q (b.late x y) (λ v r z o k. absurd (omega (arith, split_count 10 g.0))))
                  (λ a r x y q. let k = line_got read at (text b.v) (split 10 g.0) r in
                  omega (arith, from a.got a.next a.lines x y q, ap (λ (z : Line A). z.next) k.3, b.place, b.alike.right)));
            }

        good : (x : Line A) → line read at ls ≡ value x → go x.got x.next x.lines ≡ refused n p → Started (AfterLine text Good) (λ a ks. line read a ks then λ x. go x.got x.next x.lines) at ls p
        good x f g =
            let w = line_written read at ls f in
            let l = R.written at w.0 w.1 in
            let s = (G x.got).started x.next x.lines g in
            let r = again at w.0 x.got x.next s.t l w.1 w.3 in
            record {
              t = text x.got ++ 10 ∷ s.t;
              m = length w.0 + suc s.m;
              good = record { v = x.got; t = s.t; good = s.good; whole = refl };
              place = omega (arith, s.place, w.3);
              alike = rw (w.2, ← l) (alike_before w.0 (alike_cons refl s.alike));
              late = rw (cut x.got s.t, r) s.late;
            }

    line_steady : (at m : ℕ) (ls ks : List (List ℕ)) {p : ℕ} → (line read at ls then λ x. go x.got x.next x.lines) ≡ refused 9 p → suc p ≡ at + m → Agree m ls ks
        → (line read at ks then λ x. go x.got x.next x.lines) ≡ refused 9 p
    line_steady at m _ _ {p} e h (inside {l = l} {k = k} ls ks a) =
        then_refused (line read at (l ∷ ls)) _ e
        (λ f. by_line read at l ls f
        (λ g. rw (line_no read at k ks (R.steady at m l k g h a)))
        (λ v g z o q. absurd (omega (arith, a.left))))
        (λ x f g. let r = line_got read at l ls f in
        absurd (omega (arith, a.left, from x.got x.next x.lines 9 p g, ap (λ (y : Line A). y.next) r.3)))
    line_steady at m _ _ {p} e h (beyond n l {ls = ls} {ks = ks} q a) =
        then_refused (line read at (l ∷ ls)) _ e
        (λ f. by_line read at l ls f
        (λ g. rw (line_no read at l ks g))
        (λ v g z o y. absurd (omega (arith, (agree_some a).0))))
        (λ x f g. let r = line_got read at l ls f in
        rw (line_on read at l ks (agree_some a).1 r.1) ((G r.0).steady (at + length l + 1) n ls ks (rw r.3 at g) (omega arith) a))

    pub line_continues : Continues (AfterLine text Good) (λ at ls. line read at ls then λ x. go x.got x.next x.lines)
    line_continues =
        let g = (G R.plain).some in
        record { some = (text R.plain ++ 10 ∷ g.0, record { v = R.plain; t = g.0; good = g.1; whole = refl }); started = line_started; steady = line_steady }
