-- The contracts of the two calls say `Lists` and `Prints`, and each has one answer only: result and text at exit.
-- `Post` is the contract itself, as it is read from the code.
use mathlib.Core.List.{List}
use mathlib.Core.Path.{◌≡◌, sym, ◌∙◌}
use Prim.Native.Nat.{ℕ}
use native.Mathlib.Omega.{arith}
use lib.ListN.{length}
use Rattle.std.proofs.Common.{Result}
use Rattle.words.proofs.OneAnswer.{Says, OneAnswer}
use Rattle.sheet.specs.Read.{read_number, read_values}
use Rattle.listing.specs.Listing.{listing_in}
use Rattle.listing.specs.Answers.{ListingTells, length_only}
use Rattle.listing.specs.Calls.{Lists, Prints}
use Rattle.refusal.specs.declared.Refusal.{Refusal}
use Rattle.refusal.proofs.Said.{Telling, said_tells}
use Rattle.listing.specs.Answer.{Text, Refused, listing_said}
use Rattle.listing.proofs.Telling.{lists_told}
use Rattle.listing.proofs.list_sheet.Kinds as list_sheet_kinds
use Rattle.listing.proofs.list_sheet.Reads as list_sheet
use Rattle.listing.proofs.print_sheet.Kinds as print_sheet_kinds
use Rattle.listing.proofs.print_sheet.Reads as print_sheet

-- `list_sheet`: what it says
pub list_sheet_says : Says 2 list_sheet_kinds.ps list_sheet_kinds.r list_sheet.Post (λ κs a u x. Lists a.0.now a.1.0.now (listing_said u) x.1.0.now)
list_sheet_says κs a u x p = p

-- by number and values: 0 and the text's length, or number and place of the refusal
pub list_sheet_tells : Says 2 list_sheet_kinds.ps list_sheet_kinds.r list_sheet.Post
    (λ κs a u x. let reading = listing_in (length a.1.0.now) a.0.now in ListingTells (listing_said u) (read_number reading) (read_values length_only reading))
list_sheet_tells κs a u x p = lists_told p

-- an answer tells its result
telling : Telling Text Refused
telling = record {
  told = λ a b e. cc;
  apart = λ a n p e. let z : ◌≡◌ {A = ℕ} 0 1 = cc in absurd (omega arith);
  number = λ n p m q e. cc;
  place = λ n p m q e. cc;
}

-- one answer, and one text
pub list_sheet_only : OneAnswer 2 list_sheet_kinds.ps list_sheet_kinds.r list_sheet.Post {B = Result ℕ Refusal × List ℕ} (λ κs u x. (u, x.1.0.now))
list_sheet_only κs a u v x y p q = λ i. (said_tells telling u v (p.answer ∙ sym q.answer) i, (p.text_is ∙ sym q.text_is) i)

-- `print_sheet`: what it says
pub print_sheet_says : Says 2 print_sheet_kinds.ps print_sheet_kinds.r print_sheet.Post (λ κs a u x. Prints a.0.now u x.1.0.now)
print_sheet_says κs a u x p = p

-- one length, and one text
pub print_sheet_only : OneAnswer 2 print_sheet_kinds.ps print_sheet_kinds.r print_sheet.Post {B = ℕ × List ℕ} (λ κs u x. (u, x.1.0.now))
print_sheet_only κs a u v x y p q = λ i. ((p.length_is ∙ sym q.length_is) i, (p.text_is ∙ sym q.text_is) i)
