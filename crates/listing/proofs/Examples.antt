-- The worked example of document 01: the sheet 'Three' with k = 1, its listing of five lines; and refused sheets.
use mathlib.Core.List.{List, [], ◌∷◌, map}
use mathlib.Core.Path.{◌≡◌, refl}
use Prim.Native.Nat.{ℕ}
use Rattle.order.specs.Order.{keep, kth, sort_by, insert_by, ◌then_by◌}
use Rattle.site.specs.Ratio.{◌over◌, below, lesser, reaches}
use Rattle.site.specs.Measure.{jaccard}
use Rattle.site.specs.Site.{has, up_to, grid, common, shared, first_code, union, pairs_of, sharing, numbers_before, rank_before, ranked, top_of}
use Rattle.site.specs.Events.{ahead, events_in, event_before, events_of, later, earlier, ceiling_of, trail_before, cut_of, events_reaching, pairs_reaching, trail}
use Rattle.site.specs.Tables.{offsets_from, all_codes}
use Rattle.words.specs.Words.{flat}
use Rattle.tables.specs.Earliest.{first_of, earliest}
use Rattle.tables.specs.Checks.{sizes_check, tables_check}
use Rattle.tables.specs.Rules.{end_rule, offset_rule, member, code_rule_by, code_rule}
use Rattle.sheet.specs.Read.{Read, value, refused}
use Rattle.sheet.specs.Number.{digits_f, digits_of, value_from, digit_run, most_digits, digits_in, number_of}
use Rattle.sheet.specs.Pieces.{on_first, split}
use Rattle.sheet.specs.Text.{codes_text, line_text}
use Rattle.sheet.specs.Reading.{behind, codes_read, context_of, line, nothing, lines_of, read_sheet}
use Rattle.listing.specs.Listing.{entry_text, entries_text, counts_text, listing_text, refused_text, joined, listed, listing_of, fitted, listing_in, printed}

-- the paper's sheet
three : List ℕ
three = 107 ∷ 61 ∷ 49 ∷ 10 ∷ 99 ∷ 111 ∷ 110 ∷ 116 ∷ 101 ∷ 120 ∷ 116 ∷ 115 ∷ 61 ∷ 51 ∷ 10 ∷ 99 ∷ 61 ∷ 50 ∷ 32 ∷ 51 ∷ 32 ∷ 52 ∷ 32 ∷ 53 ∷ 10 ∷ 99 ∷ 61 ∷ 49 ∷ 32 ∷ 50 ∷ 32 ∷ 51 ∷ 32 ∷ 52 ∷ 32 ∷ 53 ∷ 10 ∷ 99 ∷ 61 ∷ 49 ∷ 32 ∷ 50 ∷ 32 ∷ 51 ∷ 32 ∷ 52 ∷ 10 ∷ []

-- and its listing
three_listing : List ℕ
three_listing = 107 ∷ 61 ∷ 49 ∷ 10 ∷ 102 ∷ 111 ∷ 117 ∷ 110 ∷ 100 ∷ 61 ∷ 49 ∷ 10 ∷ 101 ∷ 118 ∷ 101 ∷ 110 ∷ 116 ∷ 115 ∷ 61 ∷ 52 ∷ 10 ∷ 109 ∷ 101 ∷ 116 ∷ 61 ∷ 50 ∷ 10 ∷ 112 ∷ 97 ∷ 105 ∷ 114 ∷ 61 ∷ 48 ∷ 32 ∷ 49 ∷ 32 ∷ 52 ∷ 32 ∷ 53 ∷ 32 ∷ 50 ∷ 10 ∷ []

-- a code twice in one context
twice : List ℕ
twice = 107 ∷ 61 ∷ 49 ∷ 10 ∷ 99 ∷ 111 ∷ 110 ∷ 116 ∷ 101 ∷ 120 ∷ 116 ∷ 115 ∷ 61 ∷ 49 ∷ 10 ∷ 99 ∷ 61 ∷ 53 ∷ 32 ∷ 53 ∷ 10 ∷ []

-- a line more than the sheet says
more : List ℕ
more = 107 ∷ 61 ∷ 49 ∷ 10 ∷ 99 ∷ 111 ∷ 110 ∷ 116 ∷ 101 ∷ 120 ∷ 116 ∷ 115 ∷ 61 ∷ 48 ∷ 10 ∷ 99 ∷ 61 ∷ 10 ∷ []

-- a sheet, the room of the text, the listing or the refusal, and what the program prints
record Case : Type 0 where
  sheet : List ℕ
  room : ℕ
  told : Read (List ℕ)
  prints : List ℕ

-- one of them
case : List ℕ → ℕ → Read (List ℕ) → List ℕ → Case
case s r t p = record { sheet = s; room = r; told = t; prints = p }

-- the listing, also in a text of its very length; 12 in one byte less; 5 and 9, and 12 behind them
table : List Case
table =
    case three 2048 (value three_listing) three_listing
    ∷ case three 42 (value three_listing) three_listing
    ∷ case three 41 (refused 12 0) (114 ∷ 101 ∷ 102 ∷ 117 ∷ 115 ∷ 101 ∷ 100 ∷ 61 ∷ 49 ∷ 50 ∷ 32 ∷ 48 ∷ 10 ∷ [])  -- refused=12 0
    ∷ case twice 2048 (refused 5 1) (114 ∷ 101 ∷ 102 ∷ 117 ∷ 115 ∷ 101 ∷ 100 ∷ 61 ∷ 53 ∷ 32 ∷ 49 ∷ 10 ∷ [])  -- refused=5 1
    ∷ case twice 0 (refused 5 1) (114 ∷ 101 ∷ 102 ∷ 117 ∷ 115 ∷ 101 ∷ 100 ∷ 61 ∷ 53 ∷ 32 ∷ 49 ∷ 10 ∷ [])
    ∷ case more 2048 (refused 9 15) (114 ∷ 101 ∷ 102 ∷ 117 ∷ 115 ∷ 101 ∷ 100 ∷ 61 ∷ 57 ∷ 32 ∷ 49 ∷ 53 ∷ 10 ∷ [])  -- refused=9 15
    ∷ []

-- each is listed or refused as it should be
listings : map (λ c. listing_in c.room c.sheet) table ≡ map (λ c. c.told) table
unfolding three three_listing twice more case table line_text entry_text entries_text counts_text listing_text refused_text joined listed listing_of fitted listing_in printed behind codes_read context_of line nothing lines_of read_sheet codes_text on_first split digits_f digits_of value_from digit_run most_digits digits_in number_of sizes_check tables_check earliest first_of offset_rule end_rule code_rule code_rule_by member flat offsets_from all_codes jaccard ◌over◌ below lesser reaches keep kth sort_by insert_by ◌then_by◌ has up_to grid common shared first_code union pairs_of sharing numbers_before rank_before ranked top_of ahead events_in event_before events_of later earlier ceiling_of trail_before cut_of events_reaching pairs_reaching trail
listings = refl

-- and what is printed of it
lines : map (λ c. printed c.told) table ≡ map (λ c. c.prints) table
unfolding three three_listing twice more case table line_text refused_text printed codes_text digits_f digits_of
lines = refl
