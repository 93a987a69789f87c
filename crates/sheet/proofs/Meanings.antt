-- A sheet is refused with n at p exactly where that is what n means: 9 at the byte that cannot continue a sheet in range, 10 and 11 at the first digit of a number above 65,535 or without room, behind numbers in range.
use mathlib.Core.Path.{◌≡◌, refl, sym, ap, ◌∙◌}
use mathlib.Core.List.{List}
use Prim.Native.Nat.{ℕ, ◌+◌, ◌≤◌, ◌<◌, min}
use native.Mathlib.Omega.{arith}
use borrow.Author.Tests.{lt-ltb, le-ltb}
use lib.ListN.{length}
use Rattle.words.proofs.Split.{by_eq, by_le}
use Rattle.site.specs.Tables.{all_codes}
use Rattle.sheet.specs.Read.{Read, value, refused}
use Rattle.sheet.specs.Number.{value_of, digits_in}
use Rattle.sheet.specs.Reading.{Sheet, read_sheet}
use Rattle.sheet.specs.Meaning.{Which, of_k, of_contexts, of_code, InRange, NumberAt, TenAt, InRangeTo, NineAt, NoRoom, many, wide, full, ElevenAt, Means, nine, ten, eleven}
use Rattle.sheet.proofs.Over.{Over, above, no_room}
use Rattle.sheet.proofs.Refusal.{same_refusal}
use Rattle.sheet.proofs.Exactly.{refuses}
use Rattle.sheet.proofs.NinePlace.{nine_means, begins_sooner, nine_once, earliest}
use Rattle.sheet.proofs.Accepted.{accepted_text}
use Rattle.sheet.proofs.NumberPlace.{room_at, NumberFound, found}

-- a number that is a word, and not below its room
cause : (offsets codes v : ℕ) (x : Which) → InRange offsets codes x → v ≤ 65535 → room_at offsets codes x ≤ v → NoRoom offsets codes v x
unfolding room_at
cause offsets codes v of_k r w h = absurd (omega arith)
cause offsets codes v (of_contexts k) r w h = by_le 257 v (λ l. many k (omega arith)) (λ l. wide k (omega arith))
cause offsets codes v (of_code k n site cs) r w h =
    by_le (min 4096 codes) (length (all_codes site) + length cs)
    (λ l. full k n site cs (omega (arith, r.5)))
    (λ l. absurd (omega (arith, rw (lt-ltb _ _ l) at h)))

-- and the other way
room_cause : (offsets codes v : ℕ) (x : Which) → NoRoom offsets codes v x → room_at offsets codes x ≤ v
unfolding room_at
room_cause offsets codes v _ (many k h) = omega arith
room_cause offsets codes v _ (wide k h) = omega arith
room_cause offsets codes v _ (full k n site cs h) = rw (le-ltb (length (all_codes site) + length cs) (min 4096 codes) (omega arith)) (omega arith)

module _ (offsets codes : ℕ) (s : List ℕ) where
  stands : {n p : ℕ} (f : NumberFound offsets codes n p s) → 0 < length (digits_in f.rest) → NumberAt offsets codes f.x s p (value_of (digits_in f.rest))
  stands f d = record { rest = f.rest; whole = f.whole; place = f.place; before = f.before; digit = d; says = refl }

  judged : {n p : ℕ} (f : NumberFound offsets codes n p s) → Over (room_at offsets codes f.x) n (digits_in f.rest) → Means offsets codes s n p
  judged f (above q d a) = ten q (record { x = f.x; v = value_of (digits_in f.rest); number = stands f d; above = a })
  judged f (no_room q d w h) =
      eleven q (record { x = f.x; v = value_of (digits_in f.rest); number = stands f d; word = w; cause = cause offsets codes (value_of (digits_in f.rest)) f.x f.before w h })

  number_refused : {x : Which} {n p v : ℕ} (a : NumberAt offsets codes x s p v) → Over (room_at offsets codes x) n (digits_in a.rest) → read_sheet offsets codes s ≡ refused n p
  number_refused {x} {n} a o = ap (read_sheet offsets codes) a.whole ∙ refuses offsets codes x a.rest a.before o ∙ ap (refused n) (sym a.place)

  -- a number above 65,535, behind numbers in range, is refused with 10
  pub ten_refused : {p : ℕ} → TenAt offsets codes s p → read_sheet offsets codes s ≡ refused 10 p
  ten_refused t = let a = t.number in number_refused a (above refl a.digit (omega (arith, t.above, a.says)))

  -- a number without room, behind numbers in range, is refused with 11
  pub eleven_refused : {p : ℕ} → ElevenAt offsets codes s p → read_sheet offsets codes s ≡ refused 11 p
  eleven_refused t =
      let a = t.number in
      number_refused a (no_room refl a.digit (omega (arith, t.word, a.says)) (omega (arith, room_cause offsets codes t.v t.x t.cause, a.says)))

  -- refused n p is the answer only where that is what n means
  pub refusal_means : {n p : ℕ} → read_sheet offsets codes s ≡ refused n p → Means offsets codes s n p
  refusal_means {n} {p} e =
      by_eq n 9
      (λ q. nine q (nine_means offsets codes s (rw q at e))
      (record { no_ten = λ r h t. omega (arith, (same_refusal (sym e ∙ ten_refused t)).0); no_eleven = λ r h t. omega (arith, (same_refusal (sym e ∙ eleven_refused t)).0) }))
      (λ q. let f = found offsets codes s e q in judged f f.over)

  -- a sheet that is badly formed at p, and in range up to there, is refused with 9
  pub nine_refused : {p : ℕ} → NineAt s p → InRangeTo offsets codes s p → read_sheet offsets codes s ≡ refused 9 p
  nine_refused {p} a b = answered (read_sheet offsets codes s) refl
    where
      later : {n q : ℕ} → read_sheet offsets codes s ≡ refused n q → p < q → ⊥
      later e h = a.cannot (begins_sooner (omega arith) (earliest offsets codes s e).before)

      judge : {n q : ℕ} → read_sheet offsets codes s ≡ refused n q → Means offsets codes s n q → read_sheet offsets codes s ≡ refused 9 p
      judge {n} {q} e (nine z c d) = rw (z, ← nine_once a c) at e
      judge {n} {q} e (ten z t) = by_le q p (λ h. absurd (b.no_ten q h t)) (λ h. absurd (later e h))
      judge {n} {q} e (eleven z t) = by_le q p (λ h. absurd (b.no_eleven q h t)) (λ h. absurd (later e h))

      answered : (x : Read Sheet) → read_sheet offsets codes s ≡ x → read_sheet offsets codes s ≡ refused 9 p
      answered (value y) e = absurd (a.unfinished y.k y.site (accepted_text offsets codes s y e).0)
      answered (refused n q) e = judge e (refusal_means e)

  -- and where that is what n means, refused n p is the answer
  pub meaning_refused : {n p : ℕ} → Means offsets codes s n p → read_sheet offsets codes s ≡ refused n p
  meaning_refused (nine z a b) = rw z (nine_refused a b)
  meaning_refused (ten z t) = rw z (ten_refused t)
  meaning_refused (eleven z t) = rw z (eleven_refused t)
