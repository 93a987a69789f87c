-- Refusal 9's place: the bytes before it begin a well-formed sheet, with the byte at it they begin none. And of any refusal: nothing is refused before it.
use mathlib.Core.Path.{◌≡◌, refl, sym, ap, ◌∙◌}
use mathlib.Core.List.{List, [], ◌∷◌, ◌++◌, append_assoc}
use Prim.Native.Nat.{ℕ, zero, suc, ◌+◌, ◌≤◌, ◌<◌, min}
use native.Mathlib.Omega.{arith}
use lib.ListN.{length}
use Rattle.words.proofs.Split.{by_le}
use Rattle.sheet.specs.Read.{Read, value, refused, ◌then◌}
use Rattle.sheet.specs.Number.{digits_of, number_of}
use Rattle.sheet.specs.Pieces.{split}
use Rattle.sheet.specs.Text.{k_key, contexts_key, c_key, codes_text, line_text, lines_text, sheet_text}
use Rattle.sheet.specs.Reading.{behind, nothing, line, lines_of, Sheet, read_sheet}
use Rattle.sheet.specs.Meaning.{Alike, BeginsSheet, Earliest, NineAt}
use Rattle.sheet.proofs.Alike.{alike_none, alike_is, alike_sooner, Agree, inside, beyond, agree_split}
use Rattle.sheet.proofs.Lines.{no_value}
use Rattle.sheet.proofs.Refusal.{then_refused, late_then}
use Rattle.sheet.proofs.ReadsBack.{free_key}
use Rattle.sheet.proofs.WritesBack.{rejoined, split_join}
use Rattle.sheet.proofs.FirstLine.{nothing_nine}
use Rattle.sheet.proofs.Follows.{number_follows, context_follows, behind_follows}
use Rattle.sheet.proofs.Continues.{Continues, AfterLine, agree_some, line_continues}
use Rattle.sheet.proofs.Nine.{text_judged, never_nine}
use Rattle.sheet.proofs.Accepted.{nine_no_sheet}

nothing_byte : (at : ℕ) (l : List ℕ) (ls : List (List ℕ)) → 0 < length l → nothing at (l ∷ ls) ≡ refused 9 at
unfolding nothing
nothing_byte at [] ls h = absurd (omega arith)
nothing_byte at (b ∷ l) ls h = refl

nothing_line : (at : ℕ) (l : List ℕ) (ls : List (List ℕ)) → 0 < length ls → nothing at (l ∷ ls) ≡ refused 9 at
unfolding nothing
nothing_line at l [] h = absurd (omega arith)
nothing_line at [] (m ∷ more) h = refl
nothing_line at (b ∷ l) (m ∷ more) h = refl

nothing_steady : (at m : ℕ) (ls ks : List (List ℕ)) {p : ℕ} → nothing at ls ≡ refused 9 p → suc p ≡ at + m → Agree m ls ks → nothing at ks ≡ refused 9 p
nothing_steady at m _ _ e h (inside {l = l} {k = k} ls ks a) =
    let q = (nothing_nine at (l ∷ ls) e).1 in rw (nothing_byte at k ks (omega (arith, a.right)), q)
nothing_steady at m _ _ e h (beyond n l {ls = ls} {ks = ks} i a) =
    let q = (nothing_nine at (l ∷ ls) e).1 in rw (nothing_line at l ks (agree_some a).1, q)

nothing_continues : Continues (λ t. t ≡ []) nothing
unfolding nothing split
nothing_continues = record {
  some = ([], refl);
  started = λ at ls e. record { t = []; m = 0; good = refl; place = omega (arith, (nothing_nine at ls e).1); alike = alike_none (rejoined 10 ls) []; late = λ n q f. no_value (sym f) };
  steady = nothing_steady;
}

module _ {B : Type 0} {Good : List ℕ → Type 0} {read : ℕ → List (List ℕ) → Read B} (C : Continues Good read) where
  -- with a value made of what was read
  made : {D : Type 0} (f : B → D) → Continues Good (λ at ls. read at ls then λ b. value (f b))
  made f = record {
    some = C.some;
    started = λ at ls e. then_refused (read at ls) _ e
        (λ r. let s = C.started at ls r in
        record { t = s.t; m = s.m; good = s.good; place = s.place; alike = s.alike; late = late_then (read at (split 10 s.t)) _ s.late (λ a q x y z. no_value (sym z)) })
        (λ b r z. no_value (sym z));
    steady = λ at m ls ks e h a. then_refused (read at ls) _ e (λ r. rw (C.steady at m ls ks r h a)) (λ b r z. no_value (sym z));
  }

  -- good texts are good in other words
  known : {Well : List ℕ → Type 0} → ((t : List ℕ) → Good t → Well t) → Continues Well read
  known w = record {
    some = (C.some.0, w C.some.0 C.some.1);
    started = λ at ls e. let s = C.started at ls e in record { t = s.t; m = s.m; good = w s.t s.good; place = s.place; alike = s.alike; late = s.late };
    steady = C.steady;
  }

-- the text of n `c=` lines
record Lines (n : ℕ) (t : List ℕ) : Type 0 where
  site : List (List ℕ)
  count : length site ≡ n
  text : t ≡ lines_text site

lines_continues : (most n used : ℕ) → Continues (Lines n) (lines_of most n used)
unfolding lines_of lines_text line_text
lines_continues most zero used = known nothing_continues (λ t e. record { site = []; count = refl; text = e })
lines_continues most (suc n) used =
    known (line_continues (behind_follows (context_follows most used) c_key (λ e. omega arith, (λ e. omega arith, tt))) (λ v. made (lines_continues most n (used + length v)) (λ site. v ∷ site)))
    (λ u a. let r = a.good in
    record { site = a.v ∷ r.site; count = ap suc r.count; text = a.whole ∙ rw (r.text, append_assoc) })

-- the text of a sheet
record Texts (u : List ℕ) : Type 0 where
  k : ℕ
  site : List (List ℕ)
  text : u ≡ sheet_text k site

pub sheet_lines : (k : ℕ) (site : List (List ℕ)) → sheet_text k site ≡ (k_key ++ digits_of k) ++ 10 ∷ ((contexts_key ++ digits_of (length site)) ++ 10 ∷ lines_text site)
unfolding sheet_text line_text codes_text
sheet_lines k site =
    let a = k_key ++ digits_of k in
    let b = contexts_key ++ digits_of (length site) in
    append_assoc (a ++ (10 ∷ [])) (b ++ (10 ∷ [])) (lines_text site) ∙ append_assoc a (10 ∷ []) (b ++ (10 ∷ []) ++ lines_text site) ∙ ap (λ (t : List ℕ). a ++ 10 ∷ t) (append_assoc b (10 ∷ []) (lines_text site))

module _ (offsets codes : ℕ) where
  contexts_continues : (k : ℕ) → Continues {B = Sheet} (AfterLine (λ n. contexts_key ++ digits_of n) Lines)
      (λ at ls. line (behind contexts_key (number_of (min 257 offsets))) at ls then λ n. lines_of (min 4096 codes) n.got 0 n.next n.lines then λ site. value (record { k = k; site = site }))
  contexts_continues k =
      line_continues (behind_follows (number_follows (min 257 offsets)) contexts_key free_key) (λ n. made (lines_continues (min 4096 codes) n 0) (λ site. record { k = k; site = site }))

  sheet_continues : Continues {B = Sheet} Texts
      (λ at ls. line (behind k_key (number_of 65536)) at ls then λ k. line (behind contexts_key (number_of (min 257 offsets))) k.next k.lines then λ n.
      lines_of (min 4096 codes) n.got 0 n.next n.lines then λ site. value (record { k = k.got; site = site }))
  sheet_continues =
      known (line_continues (behind_follows (number_follows 65536) k_key (λ e. omega arith, (λ e. omega arith, tt))) contexts_continues)
      (λ u a. let b = a.good in let c = b.good in
      record { k = a.v; site = c.site; text = a.whole ∙ rw (b.whole, c.text, ← c.count) (sym (sheet_lines a.v c.site)) })

  -- the earliest place wins
  pub earliest : (s : List ℕ) {n p : ℕ} → read_sheet offsets codes s ≡ refused n p → Earliest offsets codes s p
  unfolding read_sheet
  earliest s {n} {p} e =
      let r = sheet_continues.started 0 (split 10 s) e in
      let h : r.m ≡ p = omega (arith, r.place) in
      record {
        before = record { k = r.good.k; site = r.good.site; alike = alike_is h (split_join 10 s) r.good.text r.alike };
        clear = λ x y f. r.late x y (rw r.good.text f);
      }

  -- 9 at a place is settled by the bytes up to and with it
  pub nine_steady : (s t : List ℕ) {p : ℕ} → read_sheet offsets codes s ≡ refused 9 p → Alike (p + 1) s t → read_sheet offsets codes t ≡ refused 9 p
  unfolding read_sheet
  nine_steady s t {p} e a = sheet_continues.steady 0 (p + 1) (split 10 s) (split 10 t) e (omega arith) (agree_split 10 (p + 1) s t a)

  -- what refusal 9 means
  pub nine_means : (s : List ℕ) {p : ℕ} → read_sheet offsets codes s ≡ refused 9 p → NineAt s p
  nine_means s {p} e = record {
    before = (earliest s e).before;
    cannot = λ b. never_nine (text_judged offsets codes b.k b.site) p (nine_steady s (sheet_text b.k b.site) e b.alike);
    unfinished = nine_no_sheet offsets codes p s e;
  }

pub begins_sooner : {m n : ℕ} {s : List ℕ} → n ≤ m → BeginsSheet m s → BeginsSheet n s
begins_sooner h b = record { k = b.k; site = b.site; alike = alike_sooner h b.alike }

-- a sheet has one such place at most
pub nine_once : {s : List ℕ} {p q : ℕ} → NineAt s p → NineAt s q → p ≡ q
nine_once {s} {p} {q} a b =
    by_le p q
    (λ h. by_le q p (λ k. omega arith) (λ k. absurd (a.cannot (begins_sooner (omega arith) b.before))))
    (λ k. absurd (b.cannot (begins_sooner (omega arith) a.before)))
