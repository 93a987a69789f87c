-- What the package promises: the three demands and the heat map, each of every call that meets the contract in the code.
-- `Post` is a call's contract itself, as it is read from the code: of its arguments a, its answer u and its buffers x at exit.
-- `Says n ps r Post C` is: every call that meets that contract has C. That the code meets its contracts is what the kit checks.
use mathlib.Core.List.{[], ◌∷◌, map}
use mathlib.Core.Path.{sym, ap, ◌∙◌}
use Prim.Native.Nat.{ℕ, ◌+◌}
use lib.ListN.{take}
use contract.Lifetimes.{Lfts}
use denote.Triple.Clauses.{AtExit}
use borrow.Fn.Kinds.{Dens, res_t, ended_of}
use Rattle.words.proofs.OneAnswer.{Says}
use Rattle.order.specs.Order.{◌∈◌}
use Rattle.site.specs.Site.{Pair}
use Rattle.search.specs.Answer.{answer_said}
use Rattle.search.specs.Outcome.{Tells}
use Rattle.join.specs.Join.{call_site}
use Rattle.join.proofs.Demands.{Demand1, Demand2, FifthWords, Demand3, call_list, demand_1, demand_2, fifth_words, demand_3}
use Rattle.join.proofs.Only.{call_of, join_says}
use Rattle.join.proofs.join.Kinds as join_kinds
use Rattle.join.proofs.join.Reads as join
use Rattle.reader.specs.Reading.{reading_said}
use Rattle.reader.specs.Calls.{Reads}
use Rattle.reader.proofs.Only.{read_says}
use Rattle.reader.proofs.read.Kinds as read_kinds
use Rattle.reader.proofs.read.Reads as read
use Rattle.writer.specs.Writes.{writing_said}
use Rattle.writer.specs.Calls.{Writes}
use Rattle.writer.proofs.Only.{write_says}
use Rattle.writer.proofs.write.Kinds as write_kinds
use Rattle.writer.proofs.write.Reads as write
use Rattle.trip.proofs.Trips.{sheet_back, tables_trip}
use Rattle.entries.specs.Entries.{first_four, entries}
use Rattle.heat.specs.Answers.{cell_of}
use Rattle.heat.proofs.Only.{cell_call, cell_of_says}
use Rattle.heat.proofs.Mapped.{turned}
use Rattle.heat.proofs.Unseen.{unseen}
use Rattle.heat.proofs.cell_of.Kinds as cell_of_kinds
use Rattle.heat.proofs.cell_of.Reads as cell_of_call
use Rattle.demands.specs.Sheets.{ReadCall, WriteCall, ReadRefuses, WriteRefuses, SheetBack, TablesBack}
use Rattle.demands.specs.Heat.{CellRefuses, MapsList, Rounds, InRange, BothWays, FifthUnseen}
use Rattle.demands.proofs.Refusing.{read_refuses, write_refuses, cell_refuses}
use Rattle.demands.proofs.Mapping.{map_cell, map_rounds, map_range}

-- ---- which parameter is which

-- the call of `read` with the arguments a that answers u and leaves x
abbrev pub read_call : (κs : Lfts 3) → Dens κs read_kinds.ps → (res_t read_kinds.r κs).Denot → AtExit (ended_of 3 read_kinds.ps read_kinds.r) κs
    → ReadCall
read_call κs a u x = record {
  sheet = a.0.now;
  offsets = a.1.0.now;
  codes = a.1.1.0.now;
  answer = reading_said u;
  offsets' = x.1.0.now;
  codes' = x.1.1.0.now;
}

-- the call of `write`
abbrev pub write_call : (κs : Lfts 3) → Dens κs write_kinds.ps → (res_t write_kinds.r κs).Denot → AtExit (ended_of 3 write_kinds.ps write_kinds.r) κs
    → WriteCall
write_call κs a u x = record {
  k = a.0;
  offsets = a.1.0.now;
  codes = a.1.1.0.now;
  text = a.1.1.1.0.now;
  answer = writing_said u;
  text' = x.1.1.1.0.now;
}

-- ---- demand 1: each refusal is given exactly where the rules say, every other call is accepted, and the buffers are as the rules fix

-- the join: 1 to 8
pub join_refusals : Says 5 join_kinds.ps join_kinds.r join.Post (λ κs a u x. Demand1 (call_of κs a u x))
join_refusals = demand_1

-- the reader: 9 to 11
pub read_refusals : Says 3 read_kinds.ps read_kinds.r read.Post (λ κs a u x. ReadRefuses (read_call κs a u x))
read_refusals κs a u x p = read_refuses (read_says κs a u x p)

-- the writer: 1 to 5, and 12
pub write_refusals : Says 3 write_kinds.ps write_kinds.r write.Post (λ κs a u x. WriteRefuses (write_call κs a u x))
write_refusals κs a u x p = write_refuses (write_says κs a u x p)

-- one cell of the heat map: 13 and 17
pub cell_refusals : Says 1 cell_of_kinds.ps cell_of_kinds.r cell_of_call.Post (λ κs a u x. CellRefuses (cell_call κs a u))
cell_refusals κs a u x p = cell_refuses (cell_of_says κs a u x p)

-- ---- demand 2: the list, and sheets and tables that come back

-- the list of a join that tells f, e and m, over the first four words of its entries
pub join_list : Says 5 join_kinds.ps join_kinds.r join.Post (λ κs a u x. (f e m : ℕ)
    → Tells (answer_said u) 0 (f ∷ e ∷ m ∷ []) → Demand2 (call_of κs a u x) f)
join_list = demand_2

-- and the fifth word of each of its entries
pub join_fifth : Says 5 join_kinds.ps join_kinds.r join.Post (λ κs a u x. (f e m : ℕ)
    → Tells (answer_said u) 0 (f ∷ e ∷ m ∷ []) → FifthWords (call_of κs a u x) f)
join_fifth = fifth_words

-- a call of `read` and one of `write`
module _ (κs κs' : Lfts 3) (a : Dens κs read_kinds.ps) (b : Dens κs' write_kinds.ps)
    (u : (res_t read_kinds.r κs).Denot) (v : (res_t write_kinds.r κs').Denot)
    (x : AtExit (ended_of 3 read_kinds.ps read_kinds.r) κs) (y : AtExit (ended_of 3 write_kinds.ps write_kinds.r) κs')
    (p : read.Post κs a u x) (q : write.Post κs' b v y) where
  -- what was read is written back
  pub read_written : SheetBack (read_call κs a u x) (write_call κs' b v y)
  read_written n m told os cs fine room =
      let W : Writes b.0 (take (n + 1) x.1.0.now) (take m x.1.1.0.now) b.1.1.1.0.now (writing_said v) y.1.1.1.0.now =
      rw (os, cs) (write_says κs' b v y q) in
      sheet_back (read_says κs a u x p) told (rw (os, cs) fine) W room

  -- what was written is read back
  pub written_read : TablesBack (write_call κs' b v y) (read_call κs a u x)
  written_read n told text h g =
      let R : Reads (take n y.1.1.1.0.now) a.1.0.now a.1.1.0.now (reading_said u) x.1.0.now x.1.1.0.now =
      rw text (read_says κs a u x p) in
      tables_trip (write_says κs' b v y q) told R h g

-- ---- demand 3: the trail of a join that tells f, e and m

pub join_trail : Says 5 join_kinds.ps join_kinds.r join.Post (λ κs a u x. (f e m : ℕ)
    → Tells (answer_said u) 0 (f ∷ e ∷ m ∷ []) → Demand3 (call_of κs a u x) e m)
join_trail = demand_3

-- ---- the heat map

-- a join, and a cell of the list that it left
pub heat_map : (κs : Lfts 5) (κs' : Lfts 1) (a : Dens κs join_kinds.ps) (b : Dens κs' cell_of_kinds.ps)
    (u : (res_t join_kinds.r κs).Denot) (v : (res_t cell_of_kinds.r κs').Denot)
    (x : AtExit (ended_of 5 join_kinds.ps join_kinds.r) κs) (y : AtExit (ended_of 1 cell_of_kinds.ps cell_of_kinds.r) κs')
    → join.Post κs a u x → cell_of_call.Post κs' b v y → MapsList (call_of κs a u x) (cell_call κs' b v)
heat_map κs κs' a b u v x y p q f e m told n k room four A B = map_cell (join_says κs a u x p) told (cell_call κs' b v) q n k room four A B

-- the value of a pair on the list of a join that tells f, e and m
pub map_value : Says 5 join_kinds.ps join_kinds.r join.Post (λ κs a u x. (f e m : ℕ) → Tells (answer_said u) 0 (f ∷ e ∷ m ∷ [])
    → (p : Pair) → p ∈ call_list (call_of κs a u x) → InRange (call_site (call_of κs a u x)) p)
map_value κs a u x p f e m told = map_range (join_says κs a u x p) told

-- and those of two
pub map_values : Says 5 join_kinds.ps join_kinds.r join.Post (λ κs a u x. (f e m : ℕ) → Tells (answer_said u) 0 (f ∷ e ∷ m ∷ [])
    → (p q : Pair) → p ∈ call_list (call_of κs a u x) → q ∈ call_list (call_of κs a u x) → Rounds (call_site (call_of κs a u x)) p q)
map_values κs a u x p f e m told = map_rounds (join_says κs a u x p) told

-- two cells, of any list, with the two contexts the other way round
pub both_ways : (κs κs' : Lfts 1) (a : Dens κs cell_of_kinds.ps) (b : Dens κs' cell_of_kinds.ps)
    (u : (res_t cell_of_kinds.r κs).Denot) (v : (res_t cell_of_kinds.r κs').Denot)
    (x : AtExit (ended_of 1 cell_of_kinds.ps cell_of_kinds.r) κs) (y : AtExit (ended_of 1 cell_of_kinds.ps cell_of_kinds.r) κs')
    → cell_of_call.Post κs a u x → cell_of_call.Post κs' b v y → BothWays (cell_call κs a u) (cell_call κs' b v)
both_ways κs κs' a b u v x y p q n l k s t A B =
    p ∙ turned _ _ _ _ _ A B ∙ (λ i. cell_of (n i) (l i) (k i) (t i) (s i)) ∙ sym q

-- and two whose lists differ in no entry's first four words
pub fifth_unseen : (κs κs' : Lfts 1) (a : Dens κs cell_of_kinds.ps) (b : Dens κs' cell_of_kinds.ps)
    (u : (res_t cell_of_kinds.r κs).Denot) (v : (res_t cell_of_kinds.r κs').Denot)
    (x : AtExit (ended_of 1 cell_of_kinds.ps cell_of_kinds.r) κs) (y : AtExit (ended_of 1 cell_of_kinds.ps cell_of_kinds.r) κs')
    → cell_of_call.Post κs a u x → cell_of_call.Post κs' b v y → FifthUnseen (cell_call κs a u) (cell_call κs' b v)
fifth_unseen κs κs' a b u v x y p q n k s t l four =
    let four' = four ∙ ap (λ (j : ℕ). map first_four (entries j b.1.0.now)) (sym k) in
    p ∙ unseen a.1.1.0 a.1.0.now b.1.0.now four' a.0 a.1.1.1.0.0 a.1.1.1.1.0.0 l
    ∙ (λ i. cell_of (n i) b.1.0.now (k i) (s i) (t i)) ∙ sym q
