-- Demands 1, 2 and 3 of the join: what its contract says of every call. `Post` is the contract itself, as it is read from the code;
-- it says `Joins` (specs/Join.antt) by `join_says` (Only.antt), and `Joins` says the demands.
use mathlib.Core.Bool.{true}
use mathlib.Core.List.{List, [], ◌∷◌, map, map-map}
use mathlib.Core.Logic.{◌↔◌}
use mathlib.Core.Path.{◌≡◌, ap, ◌∙◌}
use Prim.Native.Nat.{ℕ, ◌-◌, ◌*◌, ◌≤◌, min}
use lib.ListN.{length, drop, replicate}
use Rattle.order.specs.Order.{◌∈◌, Distinct, Sorted}
use Rattle.site.specs.Ratio.{below, reaches}
use Rattle.site.specs.Measure.{in_use}
use Rattle.site.specs.Site.{Site, Pair, shared_of, union_of, first_code_of, SmallestShared, Shares, sharing}
use Rattle.site.specs.Site.{similarity, rank_before, top_of, list_of}
use Rattle.site.specs.Events.{ceiling_of, cut_off, found, events, met, trail_before, trail as trail_of}
use Rattle.site.proofs.Measures.{in_use_lawful}
use Rattle.site.proofs.Contexts.{first_smallest}
use Rattle.site.proofs.Best.{list_sorted, list_once, list_shares, list_count, list_best, list_all}
use Rattle.site.proofs.Trail.{trail_sorted, trail_distinct, in_trail, trail_in, trail_list, off_trail}
use Rattle.words.specs.Words.{padded}
use Rattle.words.proofs.OneAnswer.{Says}
use Rattle.entries.specs.Entries.{width, entry_of, first_four, entries}
use Rattle.entries.specs.declared.Entry.{Entry}
use Rattle.search.specs.Outcome.{answer_said, Tells, zeros, three_counts, listed_words, met_words}
use Rattle.join.specs.Join.{JoinCall, call_site, Joins}
use Rattle.join.specs.Refusals.{CallCause}
use Rattle.join.proofs.Accepted.{told_rises, told_found, told_counts, told_entries, told_behind}
use Rattle.join.proofs.Causes.{refused_cause, cause_refused, none_accepted, refused_unchanged, refused_emptied}
use Rattle.join.proofs.Only.{call_of, join_says}
use Rattle.join.proofs.join.Kinds as join_kinds
use Rattle.join.proofs.join.Reads as join

-- ---- demand 1: the refusals

-- Each refusal has its exact cause and place, and every other call is accepted.
pub record Demand1 (c : JoinCall) : Type 0 where
  -- it refuses with n at p exactly if that has its cause (specs/Refusals.antt)
  pub exactly : (n p : ℕ) → Tells c.answer n (p ∷ []) ↔ CallCause c n p
  -- where nothing is a cause, the answer tells found, events and met: then demands 2 and 3 say the rest
  pub accepted : ((n p : ℕ) → CallCause c n p → ⊥) → Tells c.answer 0 (three_counts c.k (call_site c))
  -- after 1 to 7 no buffer has changed
  pub unchanged : (n p : ℕ) → Tells c.answer n (p ∷ []) → (n ≡ 8 → ⊥) → (c.list' ≡ c.list) × (c.work' ≡ c.work) × (c.trail' ≡ c.trail)
  -- after acceptance the work area is all zero; demands 2 and 3 say what list and trail hold
  pub cleared : (f e m : ℕ) → Tells c.answer 0 (f ∷ e ∷ m ∷ []) → c.work' ≡ zeros c.work
  -- after 8 list, work area and trail are all zero
  pub emptied : (p : ℕ) → Tells c.answer 8 (p ∷ []) → (c.list' ≡ zeros c.list) × (c.work' ≡ zeros c.work) × (c.trail' ≡ zeros c.trail)

-- ---- an accepted call: it tells f, e and m

-- the pairs listed, and those on the trail
abbrev pub call_list : JoinCall → List Pair
call_list c = list_of in_use (call_site c) c.k

abbrev pub call_trail : JoinCall → List Pair
call_trail c = trail_of in_use (call_site c) c.k

-- what stands on the list of a pair: in the first four words its two contexts, how many codes they share, and their union
abbrev pub first_four_of : Site → Pair → List ℕ
first_four_of site p = p.lower ∷ p.higher ∷ shared_of site p ∷ union_of site p ∷ []

-- and in the fifth the first code that they share
abbrev pub fifth_of : Site → Pair → ℕ
fifth_of site p = first_code_of site p

-- ---- demand 2: the list

-- It is the first k of all pairs that share a code, in the order of exact similarity, then of the lower and of the higher context.
-- It is read over the first four words of each entry.
pub record Demand2 (c : JoinCall) (f : ℕ) : Type 0 where
  -- found counts its entries, their first four words are those of the pairs listed, and behind them are zeros, to the end
  pub counted : f ≡ found in_use (call_site c) c.k
  pub four : map first_four (entries f c.list') ≡ map (first_four_of (call_site c)) (call_list c)
  pub behind : drop (width * f) c.list' ≡ replicate (length c.list - width * f) 0
  -- each pair listed shares a code, and none is listed twice
  pub shares : (p : Pair) → p ∈ call_list c → Shares (call_site c) p
  pub once : Distinct (call_list c)
  -- they are in order
  pub sorted : Sorted (rank_before in_use (call_site c)) (call_list c)
  -- a pair that shares a code and is left out comes behind every pair listed
  pub best : (p q : Pair) → Shares (call_site c) p → (p ∈ call_list c → ⊥) → q ∈ call_list c → rank_before in_use (call_site c) q p ≡ true
  -- they are k, or all if there are fewer
  pub size : f ≡ min c.k (length (sharing (call_site c)))
  pub all : length (sharing (call_site c)) ≤ c.k → (p : Pair) → Shares (call_site c) p → p ∈ call_list c

-- The fifth word of each entry is fixed by the tables, and with it every word of the list.
pub record FifthWords (c : JoinCall) (f : ℕ) : Type 0 where
  -- the first code that the pair shares
  pub fifth : map (λ e. e.code) (entries f c.list') ≡ map (fifth_of (call_site c)) (call_list c)
  -- which is the smallest that both its contexts have
  pub smallest : (p : Pair) → p ∈ call_list c → SmallestShared (call_site c) p (fifth_of (call_site c) p)
  -- so the list holds the entries, all their words, and zeros behind them
  pub held : c.list' ≡ padded (length c.list) (listed_words c.k (call_site c))

-- ---- demand 3: the trail

-- It names, each once, the pairs whose ceiling is not below the similarity of the last pair listed, and it is enough to find the list.
pub record Demand3 (c : JoinCall) (e m : ℕ) : Type 0 where
  -- its pairs stand in the buffer, and zeros behind them; met counts them, and events the events done
  pub held : c.trail' ≡ padded (length c.trail) (met_words c.k (call_site c))
  pub counted : m ≡ met in_use (call_site c) c.k
  pub done : e ≡ events in_use (call_site c) c.k
  -- exactly the pairs that share a code and whose ceiling reaches the cut-off
  pub named : (p : Pair)
      → p ∈ call_trail c ↔ (Shares (call_site c) p × (reaches (cut_off in_use (call_site c) c.k) (ceiling_of in_use (call_site c) p) ≡ true))
  pub once : Distinct (call_trail c)
  -- by the later event, then by the earlier one
  pub sorted : Sorted (trail_before in_use (call_site c)) (call_trail c)
  -- ranking the trail alone gives the list
  pub enough : top_of in_use (call_site c) c.k (call_trail c) ≡ call_list c
  -- every pair that shares a code and is left off is less alike than every pair listed
  pub less : (p q : Pair) → Shares (call_site c) p → (p ∈ call_trail c → ⊥) → q ∈ call_list c
      → below (similarity in_use (call_site c) p) (similarity in_use (call_site c) q) ≡ true

-- ---- of the contract as a record

module _ {c : JoinCall} (j : Joins c) where
  pub joins_1 : Demand1 c
  joins_1 = record {
    exactly = λ n p. (refused_cause j n p, cause_refused j n p);
    accepted = none_accepted j;
    cleared = λ f e m t. (told_found j t).work_zero;
    unchanged = refused_unchanged j;
    emptied = refused_emptied j;
  }

  module _ {f e m : ℕ} (t : Tells c.answer 0 (f ∷ e ∷ m ∷ [])) where
    pub joins_2 : Demand2 c f
    joins_2 =
        let site = call_site c in
        record {
          counted = (told_counts j t).0;
          four = ap (map first_four) (told_entries j t) ∙ map-map first_four (entry_of site) (call_list c);
          behind = told_behind j t;
          shares = list_shares in_use site c.k;
          once = list_once in_use site c.k;
          sorted = list_sorted in_use site c.k;
          best = list_best in_use site c.k;
          size = (told_counts j t).0 ∙ list_count in_use site c.k;
          all = list_all in_use site c.k;
        }

    pub joins_fifth : FifthWords c f
    joins_fifth =
        let site = call_site c in
        record {
          fifth = ap (map (λ (e : Entry). e.code)) (told_entries j t) ∙ map-map (λ (e : Entry). e.code) (entry_of site) (call_list c);
          smallest = λ p i. first_smallest (told_rises j t) p (list_shares in_use site c.k p i).some;
          held = (told_found j t).list_holds;
        }

    pub joins_3 : Demand3 c e m
    joins_3 =
        let R = told_rises j t in
        record {
          held = (told_found j t).trail_holds;
          counted = (told_counts j t).2;
          done = (told_counts j t).1;
          named = λ p. (in_trail in_use_lawful R c.k p, λ s. trail_in in_use_lawful R c.k p s.0 s.1);
          once = trail_distinct in_use_lawful R c.k;
          sorted = trail_sorted in_use_lawful R c.k;
          enough = trail_list in_use_lawful R c.k;
          less = off_trail in_use_lawful R c.k;
        }

-- ---- of the contract itself

pub demand_1 : Says 5 join_kinds.ps join_kinds.r join.Post (λ κs a u x. Demand1 (call_of κs a u x))
demand_1 κs a u x p = joins_1 (join_says κs a u x p)

pub demand_2 : Says 5 join_kinds.ps join_kinds.r join.Post (λ κs a u x. (f e m : ℕ)
    → Tells (answer_said u) 0 (f ∷ e ∷ m ∷ []) → Demand2 (call_of κs a u x) f)
demand_2 κs a u x p f e m t = joins_2 (join_says κs a u x p) t

pub fifth_words : Says 5 join_kinds.ps join_kinds.r join.Post (λ κs a u x. (f e m : ℕ)
    → Tells (answer_said u) 0 (f ∷ e ∷ m ∷ []) → FifthWords (call_of κs a u x) f)
fifth_words κs a u x p f e m t = joins_fifth (join_says κs a u x p) t

pub demand_3 : Says 5 join_kinds.ps join_kinds.r join.Post (λ κs a u x. (f e m : ℕ)
    → Tells (answer_said u) 0 (f ∷ e ∷ m ∷ []) → Demand3 (call_of κs a u x) e m)
demand_3 κs a u x p f e m t = joins_3 (join_says κs a u x p) t
