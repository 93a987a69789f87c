-- What an answer tells, by the paper's number and values.
-- A text and a refusal both tell one value: the number, which is 0 for a text alone, tells them apart.
use mathlib.Core.List.{List, [], ◌∷◌}
use mathlib.Core.Path.{◌≡◌, refl, sym, ap, ◌∙◌}
use Prim.Native.Nat.{ℕ, ◌<◌}
use native.Mathlib.Omega.{arith}
use lib.ListN.{length}
use Rattle.sheet.specs.Read.{Read, value, refused, read_number, read_values}
use Rattle.listing.specs.Listing.{listing_in}
use Rattle.listing.specs.Answers.{listing_number, listing_values, ListingTells, length_only, listing_by}
use Rattle.listing.specs.Calls.{Lists}
use Rattle.listing.specs.Answer.{Listing}
use Rattle.listing.specs.Answer as listing
use Rattle.listing.proofs.Refusals.{listing_numbered}

-- ---- an answer

-- a text tells 0 and its length
pub text_tells : {r : Listing} {n : ℕ} → r ≡ listing.Text n → ListingTells r 0 (n ∷ [])
text_tells e = (ap listing_number e, ap listing_values e)

-- a refusal tells its number and its place
pub refused_tells : {r : Listing} {n p : ℕ} → r ≡ listing.Refused n p → ListingTells r n (p ∷ [])
refused_tells e = (ap listing_number e, ap listing_values e)

-- a number above 0 is that of a refusal
pub tells_refused : (r : Listing) {n p : ℕ} → 0 < n → ListingTells r n (p ∷ []) → r ≡ listing.Refused n p
tells_refused (listing.Text m) h t = absurd (omega (arith, t.0))
tells_refused (listing.Refused m q) {p = p} h t = let e : q ≡ p = cc t.1 in λ i. listing.Refused (t.0 i) (e i)

-- and 0 is that of a text, where no refusal has it
pub tells_text : (r : Listing) {n : ℕ} → ((p : ℕ) → r ≡ listing.Refused 0 p → ⊥) → ListingTells r 0 (n ∷ []) → r ≡ listing.Text n
tells_text (listing.Text m) {n} h t = let e : m ≡ n = cc t.1 in ap listing.Text e
tells_text (listing.Refused m q) h t = absurd (h q (λ i. listing.Refused (t.0 i) q))

-- ---- the answer for a reading

-- it tells the reading's number and values
pub by_tells : (x : Read (List ℕ)) {r : Listing} → r ≡ listing_by x → ListingTells r (read_number x) (read_values length_only x)
unfolding listing_by
by_tells (value text) e = text_tells e
by_tells (refused n p) e = refused_tells e

-- a refusal is one of the reading
pub by_refused : (x : Read (List ℕ)) {n p : ℕ} → listing_by x ≡ listing.Refused n p → x ≡ refused n p
unfolding listing_by
by_refused (value text) e = let y : ◌≡◌ {A = ℕ} 0 1 = cc e in absurd (omega arith)
by_refused (refused m q) {n} {p} e = let a : m ≡ n = cc e in let b : q ≡ p = cc e in λ i. refused (a i) (b i)

-- and a text one of its values
pub by_text : (x : Read (List ℕ)) {n : ℕ} → listing_by x ≡ listing.Text n → (text : List ℕ) × (x ≡ value text) × (n ≡ length text)
unfolding listing_by
by_text (value text) {n} e = let a : length text ≡ n = cc e in (text, refl, sym a)
by_text (refused m q) e = let y : ◌≡◌ {A = ℕ} 0 1 = cc e in absurd (omega arith)

-- what is told fixes the answer, for a reading whose refusals have numbers above 0
pub tells_by : (x : Read (List ℕ)) → ((n p : ℕ) → x ≡ refused n p → 0 < n) → {r : Listing} → ((p : ℕ) → r ≡ listing.Refused 0 p → ⊥)
    → ListingTells r (read_number x) (read_values length_only x) → r ≡ listing_by x
unfolding listing_by
tells_by (value text) h {r} z t = tells_text r z t
tells_by (refused n p) h {r} z t = tells_refused r (h n p refl) t

-- ---- the call

module _ {sheet text text₂ : List ℕ} {r : Listing} (w : Lists sheet text r text₂) where
  -- its number and its values
  pub lists_told : ListingTells r (read_number (listing_in (length text) sheet)) (read_values length_only (listing_in (length text) sheet))
  lists_told = by_tells (listing_in (length text) sheet) w.answer

  -- no refusal has the number 0
  pub lists_numbered : {n p : ℕ} → r ≡ listing.Refused n p → 0 < n
  lists_numbered e = (listing_numbered (length text) sheet (by_refused (listing_in (length text) sheet) (sym w.answer ∙ e))).some

  -- so what it tells is its answer: 0 a text
  pub lists_text : {n : ℕ} → ListingTells r 0 (n ∷ []) → r ≡ listing.Text n
  lists_text t = tells_text r (λ p e. omega (arith, lists_numbered e)) t

  -- and any other number a refusal
  pub lists_refused : {n p : ℕ} → 0 < n → ListingTells r n (p ∷ []) → r ≡ listing.Refused n p
  lists_refused h t = tells_refused r h t
