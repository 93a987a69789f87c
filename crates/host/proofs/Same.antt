-- The host calls say what the library's calls say: of the same sheet in a buffer as long the same text, the same length, the same
-- refusal number; of the same cell the same kind, the same value, the same refusal number.
use mathlib.Core.List.{List, [], ◌∷◌}
use mathlib.Core.Path.{◌≡◌, refl, sym, ap, subst, ◌∙◌}
use Prim.Native.Nat.{ℕ, ◌+◌, ◌<◌}
use native.Mathlib.Omega.{arith}
use lib.ListN.{length}
use contract.Lifetimes.{Lfts}
use denote.Triple.Clauses.{AtExit}
use borrow.Fn.Kinds.{Dens, res_t, ended_of}
use Rattle.words.specs.Words.{padded}
use Rattle.listing.specs.Listing.{listing_in}
use Rattle.listing.specs.Answers.{listing_number, listing_values, bytes_of}
use Rattle.listing.specs.Calls.{Lists}
use Rattle.listing.specs.Answer.{Listing, Text, Refused, listing_said}
use Rattle.listing.proofs.Telling.{lists_numbered}
use Rattle.listing.proofs.Only.{list_sheet_says}
use Rattle.listing.proofs.list_sheet.Kinds as list_sheet_kinds
use Rattle.listing.proofs.list_sheet.Reads as list_sheet
use Rattle.heat.specs.CellAnswer.{cell_said}
use Rattle.heat.specs.Answers.{cell_of, cell_value}
use Rattle.heat.proofs.cell_of.Kinds as cell_of_kinds
use Rattle.heat.proofs.cell_of.Reads as cell_of_call
use Rattle.host.specs.Call.{host_value, Hosts, host_cell}
use Rattle.host.proofs.Hosted.{host_value_by, value_same}
use Rattle.host.proofs.Only.{sazamkhri_listing_says, sazamkhri_cell_says}
use Rattle.host.proofs.sazamkhri_listing.Kinds as sazamkhri_listing_kinds
use Rattle.host.proofs.sazamkhri_listing.Reads as sazamkhri_listing
use Rattle.host.proofs.sazamkhri_cell.Kinds as sazamkhri_cell_kinds
use Rattle.host.proofs.sazamkhri_cell.Reads as sazamkhri_cell

-- where the library answers r and leaves t, the host gets v and its buffer u
pub record SameSaid (r : Listing) (t : List ℕ) (v : ℕ) (u : List ℕ) : Type 0 where
  -- the same text, zeros and all
  pub text : u ≡ t
  -- with the number 0, v is the one value, the text's length
  pub listed : listing_number r ≡ 0 → listing_values r ≡ v ∷ []
  -- with any other, 1,000,000 and the number
  pub refused : (listing_number r ≡ 0 → ⊥) → v ≡ 1000000 + listing_number r

-- the value of an answer whose refusals have numbers above 0
same_said : (r : Listing) → ((n p : ℕ) → r ≡ Refused n p → 0 < n) → {v : ℕ} → v ≡ host_value_by r → {t u : List ℕ} → u ≡ t → SameSaid r t v u
unfolding host_value_by
same_said (Text n) some e l = record { text = l; listed = λ z. ap (λ (m : ℕ). m ∷ []) (sym e); refused = λ z. absurd (z refl) }
same_said (Refused n p) some e l = record { text = l; listed = λ z. absurd (omega (arith, some n p refl)); refused = λ z. e }

-- of the two contracts as records
pub hosts_lists : {sheet old old' t u : List ℕ} {r : Listing} {v : ℕ} → length old ≡ length old' → Lists sheet old r t → Hosts sheet old' v u → SameSaid r t v u
hosts_lists {sheet} {old} {old'} {r = r} l w h =
    let x : listing_in (length old') sheet ≡ listing_in (length old) sheet = ap (λ (n : ℕ). listing_in n sheet) (sym l) in
    same_said r (λ n p e. lists_numbered w e) (h.value_is ∙ ap host_value x ∙ sym (value_same _) ∙ ap host_value_by (sym w.answer))
    (h.text_is ∙ (λ i. padded (sym l i) (bytes_of (x i))) ∙ sym w.text_is)

-- and of the contracts themselves: `list_sheet` with the arguments a, and the host call with b
pub host_lists : (κs κs' : Lfts 2) (a : Dens κs list_sheet_kinds.ps) (b : Dens κs' sazamkhri_listing_kinds.ps)
    (r : (res_t list_sheet_kinds.r κs).Denot) (v : (res_t sazamkhri_listing_kinds.r κs').Denot)
    (x : AtExit (ended_of 2 list_sheet_kinds.ps list_sheet_kinds.r) κs) (y : AtExit (ended_of 2 sazamkhri_listing_kinds.ps sazamkhri_listing_kinds.r) κs')
    → a.0.now ≡ b.0.now → length a.1.0.now ≡ length b.1.0.now
    → list_sheet.Post κs a r x → sazamkhri_listing.Post κs' b v y → SameSaid (listing_said r) x.1.0.now v y.1.0.now
host_lists κs κs' a b r v x y same l p q =
    hosts_lists l (subst (λ (s : List ℕ). Lists s a.1.0.now (listing_said r) x.1.0.now) same (list_sheet_says κs a r x p)) (sazamkhri_listing_says κs' b v y q)

-- `cell_of` with the arguments a answers r, and the host call with the same arguments b gets v, and w for the value
pub host_cells : (κs : Lfts 1) (κs' : Lfts 2) (a : Dens κs cell_of_kinds.ps) (b : Dens κs' sazamkhri_cell_kinds.ps)
    (r : (res_t cell_of_kinds.r κs).Denot) (v : (res_t sazamkhri_cell_kinds.r κs').Denot)
    (x : AtExit (ended_of 1 cell_of_kinds.ps cell_of_kinds.r) κs) (y : AtExit (ended_of 2 sazamkhri_cell_kinds.ps sazamkhri_cell_kinds.r) κs')
    → a.0 ≡ b.0 → a.1.0.now ≡ b.1.0.now → a.1.1.0 ≡ b.1.1.0 → a.1.1.1.0.0 ≡ b.1.1.1.0 → a.1.1.1.1.0.0 ≡ b.1.1.1.1.0
    → cell_of_call.Post κs a r x → sazamkhri_cell.Post κs' b v y → (v ≡ host_cell (cell_said r)) × (y.1.1.1.1.1.0.now ≡ cell_value (cell_said r))
host_cells κs κs' a b r v x y n l e f s p q =
    let same = sym (p ∙ λ i. cell_of (n i) (l i) (e i) (f i) (s i)) in
    let h = sazamkhri_cell_says κs' b v y q in
    (h.kind_is ∙ ap host_cell same, h.value_is ∙ ap cell_value same)
