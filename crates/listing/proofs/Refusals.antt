-- The numbers and places of the listing's refusals: numbers from 1 to 11, no place above 24,576, so that both fit the words of a line.
-- 12 comes after all of them.
use mathlib.Core.List.{List}
use mathlib.Core.Path.{◌≡◌, refl, sym, ◌∙◌}
use Prim.Native.Nat.{ℕ, ◌≤◌, ◌<◌}
use native.Mathlib.Omega.{arith}
use lib.ListN.{length}
use borrow.Author.Tests.{lt-ltb, le-ltb}
use Rattle.site.specs.Measure.{in_use}
use Rattle.site.specs.Events.{met}
use Rattle.site.specs.Tables.{offsets_of, all_codes}
use Rattle.words.proofs.Split.{by_le}
use Rattle.tables.specs.Refusals.{Breaks, wrong_k, wrong_sizes, wrong_offset, large_code, code_falls}
use Rattle.tables.specs.Check.{Check}
use Rattle.tables.specs.Check as check
use Rattle.tables.proofs.Refusals.{refused_exactly}
use Rattle.sheet.specs.Read.{value, refused}
use Rattle.sheet.specs.Reading.{Sheet, read_sheet}
use Rattle.sheet.specs.Meaning.{Means, nine, ten, eleven}
use Rattle.sheet.proofs.Accepted.{read_fits}
use Rattle.sheet.proofs.Lines.{no_value}
use Rattle.sheet.proofs.Meanings.{refusal_means}
use Rattle.sheet.proofs.NinePlace.{earliest}
use Rattle.sheet.proofs.Refusal.{then_refused, same_refusal}
use Rattle.sheet.proofs.Tables.{offsets_length}
use Rattle.listing.specs.Listing.{joined, listed, listing_of, fitted, listing_in}
use Rattle.listing.proofs.Joining.{sheet_checked, joined_stops, joined_over, joined_is}

-- a number and a place of a refusal
pub record SmallRefusal (n p : ℕ) : Type 0 where
  pub some : 0 < n
  pub number : n ≤ 11
  pub place : p ≤ 24576

-- the refusal a at b, known to be small
small : {n p a b : ℕ} → (n ≡ a) × (p ≡ b) → 0 < a → a ≤ 11 → b ≤ 24576 → SmallRefusal n p
small e z h k = record { some = omega (arith, e.0); number = omega (arith, e.0); place = omega (arith, e.1) }

-- the reader's
means_small : {s : List ℕ} {n p : ℕ} → Means 257 4096 s n p → (0 < n) × (n ≤ 11)
means_small (nine e a r) = (omega arith, omega arith)
means_small (ten e a) = (omega arith, omega arith)
means_small (eleven e a) = (omega arith, omega arith)

-- its places are within the sheet
read_small : (s : List ℕ) {n p : ℕ} → length s ≤ 24576 → read_sheet 257 4096 s ≡ refused n p → SmallRefusal n p
read_small s h e =
    let m = means_small (refusal_means 257 4096 s e) in
    record { some = m.0; number = m.1; place = omega (arith, (earliest 257 4096 s e).before.alike.left) }

-- the join's
breaks_small : {k : ℕ} {os cs : List ℕ} {n p : ℕ} → length os ≤ 257 → length cs ≤ 4096 → Breaks k os cs n p → SmallRefusal n p
breaks_small l m (wrong_k w) = record { some = omega arith; number = omega arith; place = omega arith }
breaks_small l m (wrong_sizes w) = record { some = omega arith; number = omega arith; place = omega arith }
breaks_small l m (wrong_offset h w) = record { some = omega arith; number = omega arith; place = omega arith }
breaks_small l m (large_code h w) = record { some = omega arith; number = omega arith; place = omega arith }
breaks_small l m (code_falls h c w) = record { some = omega arith; number = omega arith; place = omega arith }

-- of a sheet that was read
joined_small : (s : Sheet) (c : Check) → sheet_checked s ≡ c → {n p : ℕ}
    → length (offsets_of s.site) ≤ 257 → length (all_codes s.site) ≤ 4096 → joined s ≡ refused n p → SmallRefusal n p
joined_small s (check.Refused m q) t l k e =
    let b = breaks_small l k ((refused_exactly s.k (offsets_of s.site) (all_codes s.site) m q).0 t).here in
    small (same_refusal (sym (joined_stops s t) ∙ e)) b.some b.number b.place
joined_small s check.Fine t {n} {p} l k e = by_le (met in_use s.site s.k) 2048
    (λ h. no_value (sym e ∙ joined_is s t h))
    (λ h. small (same_refusal (sym (joined_over s t h) ∙ e)) (omega arith) (omega arith) (omega arith))

-- of a sheet, 11 at 24,576 among them
listed_small : (sheet : List ℕ) {n p : ℕ} → listed sheet ≡ refused n p → SmallRefusal n p
unfolding listed
listed_small sheet {n} {p} e = by_le (length sheet) 24576
    (λ h. then_refused (read_sheet 257 4096 sheet) joined (rw (le-ltb 24576 (length sheet) h) at e) (λ f. read_small sheet h f)
    (λ s f g. let w = read_fits 257 4096 sheet f in joined_small s _ refl (omega (arith, w.contexts, offsets_length 0 s.site)) (omega (arith, w.room)) g))
    (λ h. small (same_refusal (rw (lt-ltb 24576 (length sheet) h) at e)) (omega arith) (omega arith) (omega arith))

-- those of a listing are no others
pub refusal_small : (sheet : List ℕ) {n p : ℕ} → listing_of sheet ≡ refused n p → SmallRefusal n p
unfolding listing_of
refusal_small sheet {n} {p} e = then_refused (listed sheet) _ e (λ f. listed_small sheet f)
    (λ s f g. no_value (sym g))

-- 12 is given exactly where there is a listing, and it does not fit
pub twelve_last : (room : ℕ) (sheet : List ℕ) {p : ℕ} → listing_in room sheet ≡ refused 12 p → (text : List ℕ) × (listing_of sheet ≡ value text) × (room < length text)
unfolding listing_in fitted
twelve_last room sheet {p} e = then_refused (listing_of sheet) _ e (λ f. absurd (omega (arith, (refusal_small sheet f).number)))
    (λ text f g. (
      text,
      f,
      by_le (length text) room
          (λ h. no_value (sym (rw (le-ltb room (length text) h) at g)))
          (λ h. h),
    ))

-- and so it is told there
pub twelve_told : (room : ℕ) (sheet text : List ℕ) → listing_of sheet ≡ value text → room < length text → listing_in room sheet ≡ refused 12 0
unfolding listing_in fitted
twelve_told room sheet text e h = rw (e, lt-ltb room (length text) h)

-- the numbers of all refusals
pub record ListingNumbered (n : ℕ) : Type 0 where
  pub some : 0 < n
  pub most : n ≤ 12

-- 12 among them
pub listing_numbered : (room : ℕ) (sheet : List ℕ) {n p : ℕ} → listing_in room sheet ≡ refused n p → ListingNumbered n
unfolding listing_in fitted
listing_numbered room sheet {n} {p} e = then_refused (listing_of sheet) _ e
    (λ f. let s = refusal_small sheet f in record { some = s.some; most = omega (arith, s.number) })
    (λ text f g. by_le (length text) room
    (λ h. no_value (sym (rw (le-ltb room (length text) h) at g)))
    (λ h. let z = same_refusal (rw (lt-ltb room (length text) h) at g) in record { some = omega (arith, z.0); most = omega (arith, z.0) }))
