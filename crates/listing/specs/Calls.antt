-- The calls' contracts, as records over inputs and outputs.
use Rattle.std.specs.Prelude.{List, ◌≡◌, ℕ, length}
use Rattle.words.specs.Words.{padded}
use Rattle.listing.specs.Listing.{listing_of, listing_in, printed}
use Rattle.listing.specs.Answers.{listing_by, bytes_of}
use Rattle.listing.specs.Answer.{Listing}

-- `list_sheet` of a sheet into a lent text: the answer, and the text afterwards, with zeros behind the listing.
-- The answer is given whole, since a text and a refusal have one value each; `lists_told` (proofs/Telling.antt) gives its number and value.
pub record Lists (sheet text : List ℕ) (r : Listing) (text₂ : List ℕ) : Type 0 where
  pub answer : r ≡ listing_by (listing_in (length text) sheet)
  pub text_is : text₂ ≡ padded (length text) (bytes_of (listing_in (length text) sheet))

-- the bytes of the program's text
abbrev pub page_room : ℕ
page_room = 2048

-- `print_sheet` of a sheet into the program's text: the listing or the line of the refusal, with zeros behind it, and its length
pub record Prints (sheet : List ℕ) (r : ℕ) (text₂ : List ℕ) : Type 0 where
  pub length_is : r ≡ length (printed (listing_of sheet))
  pub text_is : text₂ ≡ padded page_room (printed (listing_of sheet))
