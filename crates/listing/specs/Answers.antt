-- The answer for each reading of a listing, what the answer tells, and the bytes of the lent text.
use Rattle.std.specs.Prelude.{List, [], ◌∷◌, ◌≡◌, ℕ, length}
use Rattle.sheet.specs.Read.{Read, value, refused}
use Rattle.listing.specs.Answer.{Listing}
use Rattle.listing.specs.Answer as listing

-- the number of an answer: that of its refusal, and 0 where it is a text
abbrev pub listing_number : Listing → ℕ
listing_number (listing.Text n) = 0
listing_number (listing.Refused number place) = number

-- the values of an answer: the text's length, or the place of its refusal
abbrev pub listing_values : Listing → List ℕ
listing_values (listing.Text n) = n ∷ []
listing_values (listing.Refused number place) = place ∷ []

-- an answer tells a number and values
abbrev pub ListingTells : Listing → ℕ → List ℕ → Type 0
ListingTells r number values = (listing_number r ≡ number) × (listing_values r ≡ values)

-- what an answer tells of a text: its length alone
abbrev pub length_only : List ℕ → List ℕ
length_only text = length text ∷ []

-- the text's length, or the refusal
unfoldable pub listing_by : Read (List ℕ) → Listing
listing_by (value text) = listing.Text (length text)
listing_by (refused n p) = listing.Refused n p

-- the bytes at the front of the lent text: none after a refusal
unfoldable pub bytes_of : Read (List ℕ) → List ℕ
bytes_of (value text) = text
bytes_of (refused n p) = []
