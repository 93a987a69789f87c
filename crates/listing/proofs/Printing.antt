-- What the program prints: a listing has room in its text, so 12 never arises there, and neither does a refusal's line lack room.
use mathlib.Core.List.{List, [], ◌∷◌, ◌++◌}
use mathlib.Core.Path.{◌≡◌, refl, sym, ap, ◌∙◌}
use Prim.Native.Nat.{ℕ, ◌+◌, ◌-◌, ◌≤◌, zero-le}
use native.Mathlib.Nat.{zero-add}
use native.Mathlib.Omega.{arith}
use lib.ListN.{length, drop, replicate}
use borrow.Author.Tests.{le-ltb}
use Rattle.words.specs.Words.{padded}
use Rattle.words.proofs.Lists.{drop_replicate}
use Rattle.words.proofs.Words.{padded_none, padded_length}
use Rattle.sheet.specs.Read.{Read, value, refused, ◌then◌}
use Rattle.pen.specs.declared.Pen.{Pen}
use Rattle.pen.specs.Lines.{Lined}
use Rattle.pen.proofs.Past.{line_moved}
use Rattle.listing.specs.Listing.{refused_key, refused_text, listing_of, fitted, listing_in, printed}
use Rattle.listing.specs.Answers.{listing_by, bytes_of}
use Rattle.listing.specs.Calls.{Lists, page_room, Prints}
use Rattle.listing.specs.Answer.{Listing}
use Rattle.listing.specs.Answer as listing
use Rattle.listing.proofs.Short.{digits_five, line_short, listing_short}
use Rattle.listing.proofs.Refusals.{SmallRefusal, refusal_small}
use Rattle.listing.proofs.Telling.{by_text, by_refused}

-- ---- every listing fits

-- what fits is not refused
whole_by : (room : ℕ) (x : Read (List ℕ)) → ((text : List ℕ) → x ≡ value text → length text ≤ room) → (x then fitted room) ≡ x
unfolding fitted
whole_by room (value text) h = rw (le-ltb room (length text) (h text refl))
whole_by room (refused n p) h = refl

-- with 2,048 bytes or more 12 never arises
pub listing_fits : (room : ℕ) (sheet : List ℕ) → 2048 ≤ room → listing_in room sheet ≡ listing_of sheet
unfolding listing_in
listing_fits room sheet h = whole_by room (listing_of sheet) (λ text e. omega (arith, listing_short sheet e))

-- ---- what the answer tells

-- the text of an answer that lists
answer_text : (x : Read (List ℕ)) {n : ℕ} → listing_by x ≡ listing.Text n → (n ≡ length (printed x)) × (bytes_of x ≡ printed x)
unfolding bytes_of printed
answer_text x e = let b = by_text x e in rw b.1 (b.2, refl)

module _ {sheet text text₂ : List ℕ} {r : Listing} (w : Lists sheet text r text₂) (l : length text ≡ page_room) where
  -- in the program's text
  whole : listing_in (length text) sheet ≡ listing_of sheet
  whole = listing_fits (length text) sheet (omega arith)

  -- the listing is printed
  pub prints_listing : {n : ℕ} → r ≡ listing.Text n → Prints sheet n text₂
  prints_listing e =
      let a = answer_text (listing_of sheet) (sym (rw whole at w.answer) ∙ e) in
      record { length_is = a.0; text_is = w.text_is ∙ λ i. padded (l i) ((ap bytes_of whole ∙ a.1) i) }

  module _ {n p : ℕ} (e : r ≡ listing.Refused n p) where
    -- the listing itself is refused
    stopped : listing_of sheet ≡ refused n p
    stopped = by_refused (listing_of sheet) (sym (rw whole at w.answer) ∙ e)

    -- number and place fit the words of a line
    pub refusal_fits : SmallRefusal n p
    refusal_fits = refusal_small sheet stopped

    -- the text is zero
    pub refusal_zero : text₂ ≡ padded page_room []
    unfolding bytes_of
    refusal_zero = w.text_is ∙ λ i. padded (l i) (ap bytes_of (whole ∙ stopped) i)

    -- the line of the refusal is printed
    pub prints_refusal : {q : ℕ} {now : List ℕ} → (q ≡ length (refused_text n p)) × (now ≡ padded page_room (refused_text n p)) → Prints sheet q now
    unfolding printed
    prints_refusal o = let s : printed (listing_of sheet) ≡ refused_text n p = rw stopped in record { length_is = o.0 ∙ ap length (sym s); text_is = o.1 ∙ ap (padded page_room) (sym s) }

-- ---- the line of a refusal

module _ (room : ℕ) {text now : List ℕ} (z : text ≡ padded room []) {bs : List ℕ} (h : length bs ≤ room) {q : Pen} (w : Lined bs text now (record { place = 0; room = room }) q) where
  -- a line that has room stands in a text of zeros
  pub line_written : (q.place ≡ length bs) × (now ≡ padded room bs)
  unfolding padded
  line_written =
      let m = line_moved w h in
      let e : text ≡ replicate room 0 = z ∙ sym (padded_none room) in
      let d : drop (0 + length bs) text ≡ replicate (room - length bs) 0 = rw (e, zero-add) (drop_replicate (length bs) room 0) in
      (ap (λ (x : Pen). x.place) m.0 ∙ zero-add (length bs), m.1 ∙ ap (λ (l : List ℕ). bs ++ l) d)

-- a text of zeros is as long as it has to be
pub page_long : {text : List ℕ} → text ≡ padded page_room [] → length text ≡ page_room
page_long e = ap length e ∙ padded_length page_room [] zero-le

-- it has room
pub refused_short : (n p : ℕ) → n ≤ 65535 → p ≤ 65535 → length (refused_text n p) ≤ page_room
unfolding refused_text
refused_short n p h k = omega (arith, line_short 5 refused_key (n ∷ p ∷ []) (digits_five n h, (digits_five p k, tt)))

-- ---- what is printed always fits

-- for each reading
short_by : (sheet : List ℕ) (x : Read (List ℕ)) → listing_of sheet ≡ x → length (printed x) ≤ page_room
unfolding printed
short_by sheet (value text) e = listing_short sheet e
short_by sheet (refused n p) e = let s = refusal_small sheet e in refused_short n p (omega (arith, s.number)) (omega (arith, s.place))

-- whatever the sheet is
pub printed_short : (sheet : List ℕ) → length (printed (listing_of sheet)) ≤ page_room
printed_short sheet = short_by sheet _ refl

-- and so is within the text
pub printed_within : {sheet text₂ : List ℕ} {r : ℕ} → Prints sheet r text₂ → r ≤ length text₂
printed_within {sheet} w = let h = printed_short sheet in omega (arith, w.length_is, ap length w.text_is, padded_length page_room (printed (listing_of sheet)) h)
