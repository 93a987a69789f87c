-- None of the four hollow versions of document 01 meets the contract of the join as it stands in the code: one refuses everything, one
-- gives the same list each time, one leaves its buffers, one invents its counts. Like the call, a version is asked for 16-bit words alone.
use mathlib.Core.List.{List, [], ◌∷◌}
use mathlib.Core.Logic.{◌⊎◌, ⊎_elim}
use mathlib.Core.Path.{◌≡◌, sym, ap, ◌∙◌}
use Prim.Native.Nat.{ℕ, zero, suc, ◌*◌, ◌≤◌}
use native.Mathlib.Nat.{le_of_eq}
use native.Mathlib.Omega.{arith}
use lib.ListN.{length, get_or, replicate, length-replicate}
use contract.Lifetimes.{Lfts}
use denote.MutBor.{MutBor}
use denote.Ref.{Bor}
use denote.Triple.Clauses.{AtExit}
use borrow.Fn.Kinds.{Dens, ended_of}
use Rattle.site.specs.Measure.{in_use}
use Rattle.site.specs.Events.{events, met}
use Rattle.site.specs.Tables.{site_of}
use Rattle.words.specs.Words.{Words16, padded}
use Rattle.entries.specs.Entries.{width}
use Rattle.std.specs.Prelude.{Result}
use Rattle.refusal.specs.declared.Refusal.{Refusal}
use Rattle.search.specs.declared.Counted.{Counted}
use Rattle.search.specs.Outcome.{answer_said, Tells, Outcome, outcome}
use Rattle.search.proofs.Answers.{tells_refused, tells_listed}
use Rattle.search.specs.Answer.{Answer, Listed, Refused}
use Rattle.join.specs.Join.{JoinCall, join_of}
use Rattle.join.proofs.Outcomes.{joins, listed_only}
use Rattle.join.proofs.join.Kinds as join_kinds
use Rattle.join.proofs.join.Reads as join
use Rattle.join.proofs.Examples.{Case, case, Told, junk_list, junk_trail, table, asked, told, examples}

-- ---- versions of the join

-- what a call is given
pub record Given : Type 0 where
  pub k : ℕ
  pub offsets : List ℕ
  pub codes : List ℕ
  pub list : List ℕ
  pub work : List ℕ
  pub trail : List ℕ

-- in 16-bit words
pub record InWords (i : Given) : Type 0 where
  pub k : i.k ≤ 65535
  pub offsets : Words16 i.offsets
  pub codes : Words16 i.codes
  pub list : Words16 i.list
  pub work : Words16 i.work
  pub trail : Words16 i.trail

-- what a version makes of it
abbrev pub Version : Type 0
Version = Given → Outcome

-- words as they are lent, wherever they stand
abbrev lent : List ℕ → Bor (List ℕ)
lent ws = record { ref_ptr = (0, 0); now = ws }

-- and lent to be written, under whatever name
abbrev lent_mut : List ℕ → MutBor (List ℕ)
lent_mut ws = record { ref_ptr = (0, 0); ghost_name = 0; now = ws }

-- the arguments of its call, and the parameters at exit
abbrev pub args_of : (κs : Lfts 5) → Given → Dens κs join_kinds.ps
args_of κs i = (i.k, (lent i.offsets, (lent i.codes, (lent_mut i.list, (lent_mut i.work, (lent_mut i.trail, tt))))))

abbrev pub exit_of : (κs : Lfts 5) → Given → Outcome → AtExit (ended_of 5 join_kinds.ps join_kinds.r) κs
exit_of κs i o = (i.k, (lent i.offsets, (lent i.codes, (lent_mut o.list, (lent_mut o.work, (lent_mut o.trail, tt))))))

-- what is answered, in the paper's words, and left of the buffers is the outcome that the contract has for the call
abbrev pub HasOutcome : Given → Outcome → Type 0
HasOutcome i o = outcome o.answer o.list o.work o.trail ≡ join_of i.k i.offsets i.codes i.list i.work i.trail

-- it is the contract as it stands in the code: whoever meets the one with a result that says the answer meets the other
pub contract_outcome : (κs : Lfts 5) (i : Given) (r : Result Counted Refusal) (o : Outcome) → answer_said r ≡ o.answer
    → join.Post κs (args_of κs i) r (exit_of κs i o) → HasOutcome i o
contract_outcome κs i r o e p = ap (λ (a : Answer). outcome a o.list o.work o.trail) (sym e) ∙ p

pub outcome_contract : (κs : Lfts 5) (i : Given) (r : Result Counted Refusal) (o : Outcome) → answer_said r ≡ o.answer
    → HasOutcome i o → join.Post κs (args_of κs i) r (exit_of κs i o)
outcome_contract κs i r o e m = ap (λ (a : Answer). outcome a o.list o.work o.trail) e ∙ m

-- the call of a version
abbrev call_with : Given → Outcome → JoinCall
call_with i o = record {
  k = i.k;
  offsets = i.offsets;
  codes = i.codes;
  list = i.list;
  work = i.work;
  trail = i.trail;
  answer = o.answer;
  list' = o.list;
  work' = o.work;
  trail' = o.trail;
}

-- a version meets it on every call
abbrev pub MeetsContract : Version → Type 0
MeetsContract f = (i : Given) → InWords i → HasOutcome i (f i)

-- ---- two cases of the table

-- a work area of junk
abbrev area : List ℕ
area = replicate 10240 7

area_long : 10240 ≤ length {A = ℕ} (replicate 10240 7)
area_long = let seven : ℕ = 7 in le_of_eq (sym (length-replicate 10240 seven))

sevens : (n : ℕ) → Words16 (replicate n 7)
sevens zero = tt
sevens (suc n) = (omega arith, sevens n)

none : Case
none = case 0 [] [] (Listed 0 0 0) [] [] []

p3 : Case
p3 = get_or table 3 none

p9 : Case
p9 = get_or table 9 none

nothing : Told
nothing = record { outcome = outcome (Listed 0 0 0) [] [] []; ceilings = [] }

p3_so : asked area p3 ≡ told area p3
unfolding table p3
p3_so = ap (λ (l : List Told). get_or l 3 nothing) (examples area area_long)

p9_so : asked area p9 ≡ told area p9
unfolding table p9
p9_so = ap (λ (l : List Told). get_or l 9 nothing) (examples area area_long)

-- a case as what a call is given, with buffers of junk
abbrev given : Case → Given
given c = record { k = c.k; offsets = c.offsets; codes = c.codes; list = junk_list; work = area; trail = junk_trail }

junk_words : Words16 junk_list × Words16 junk_trail
unfolding junk_list junk_trail
junk_words = (sevens (4 * width), sevens 7)

p3_words : InWords (given p3)
unfolding p3 table case
p3_words = record {
  k = omega arith;
  offsets = (omega arith, (omega arith, (omega arith, tt)));
  codes = (omega arith, (omega arith, tt));
  list = junk_words.0;
  work = sevens 10240;
  trail = junk_words.1;
}

p9_words : InWords (given p9)
unfolding p9 table case
p9_words = record { k = omega arith; offsets = (omega arith, tt); codes = tt; list = junk_words.0; work = sevens 10240; trail = junk_words.1 }

-- ---- the hollow versions

module _ (f : Version) (meets : MeetsContract f) where
  -- on a case of the table a version does what the documents tell
  as_told : (c : Case) → InWords (given c) → asked area c ≡ told area c → f (given c) ≡ (told area c).outcome
  unfolding asked
  as_told c w e = meets (given c) w ∙ ap (λ (t : Told). t.outcome) e

  -- it refuses everything: not P9
  pub refuses_everything : ((i : Given) → InWords i → (n : ℕ) × (p : ℕ) × Tells (f i).answer n (p ∷ [])) → ⊥
  unfolding told table p9 case
  refuses_everything h =
      let r = h (given p9) p9_words in
      let e : Listed 0 0 0 ≡ Refused r.0 r.1 = sym (ap (λ (o : Outcome). o.answer) (as_told p9 p9_words p9_so)) ∙ tells_refused _ r.2 in
      let z : ◌≡◌ {A = ℕ} 0 1 = cc e in omega arith

  -- it gives the same list each time: not on P9 and P3
  pub gives_one_list : (l : List ℕ) → ((i : Given) → InWords i → (f i).list ≡ l) → ⊥
  unfolding told table p3 p9 case padded junk_list
  gives_one_list l h =
      let a = sym (h (given p9) p9_words) ∙ ap (λ (o : Outcome). o.list) (as_told p9 p9_words p9_so) in
      let b = sym (h (given p3) p3_words) ∙ ap (λ (o : Outcome). o.list) (as_told p3 p3_words p3_so) in
      let e : padded (length junk_list) [] ≡ padded (length junk_list) p3.listed = sym a ∙ b in
      let z : ◌≡◌ {A = ℕ} 0 1 = ap (λ (w : List ℕ). get_or w 1 0) e in omega arith

  -- it does nothing to its buffers: not on P9
  pub leaves_its_buffers : ((i : Given) → InWords i → ((f i).list ≡ i.list) × ((f i).trail ≡ i.trail)) → ⊥
  unfolding told table p9 case padded junk_list
  leaves_its_buffers h =
      let e : junk_list ≡ padded (length junk_list) [] = sym (h (given p9) p9_words).0 ∙ ap (λ (o : Outcome). o.list) (as_told p9 p9_words p9_so) in
      let z : ◌≡◌ {A = ℕ} 7 0 = ap (λ (w : List ℕ). get_or w 0 0) e in omega arith

  -- it invents events or met: on no input
  pub invents_counts : (i : Given) → InWords i → (f₁ e m : ℕ) → Tells (f i).answer 0 (f₁ ∷ e ∷ m ∷ [])
      → ((e ≡ events in_use (site_of i.offsets i.codes) i.k → ⊥) ⊎ (m ≡ met in_use (site_of i.offsets i.codes) i.k → ⊥)) → ⊥
  invents_counts i w f₁ e m t =
      let j = joins (call_with i (f i)) (meets i w) in
      let a = listed_only j (tells_listed _ t) in
      let same = sym t.1 ∙ (j.found a.0 a.1).told.1 in
      let x : e ≡ events in_use (site_of i.offsets i.codes) i.k = cc same in
      let y : m ≡ met in_use (site_of i.offsets i.codes) i.k = cc same in
      ⊎_elim (λ n. n x) (λ n. n y)
