-- The work area is laid out: the codes are counted, and the counts are summed up to the starts.
-- The zeroed work area, and the laws of `count_codes` and `sum_starts`.
use mathlib.Core.List.{List, [], ◌∷◌, ◌++◌}
use mathlib.Core.Path.{◌≡◌, sym, ap, ◌∙◌}
use Prim.Native.Nat.{ℕ, suc, ◌+◌, ◌≤◌, ◌<◌, zero-le}
use native.Mathlib.Numerals.{add-one}
use native.Mathlib.Omega.{arith}
use lib.ListN.{length, get_or, set, take, replicate, length-replicate, length-set, length-take}
use lib.Seq.{take-suc, take_all}
use Rattle.tables.specs.Sound.{Sound}
use Rattle.tables.proofs.Sound.{code_small}
use Rattle.words.specs.Words.{Holds}
use Rattle.agenda.specs.Agenda.{summed, summed_to, SummedTo}
use Rattle.agenda.specs.Layout.{agenda_room}
use Rattle.agenda.specs.Postings.{often, codes_below}
use Rattle.agenda.proofs.Counting.{often_few, often_add, often_here, below_few, below_suc}
use Rattle.agenda.proofs.Summed.{zero_row, rowed_at, rowed_set, summed_done, summed_behind, summed_none, summed_add, summed_next}

-- ---- zeros throughout

pub none_counted : (n : ℕ) {now : List ℕ} → now ≡ replicate n 0 → agenda_room ≤ n → SummedTo 0 [] now
unfolding summed_to
none_counted n {now} e h =
    let l : length now ≡ n = ap length e ∙ length-replicate {A = ℕ} n 0 in
    record {
      holds = e ∙ ap (λ (m : ℕ). replicate m 0) (sym l) ∙ zero_row (summed 0 []) (length now) 1026 4097 (λ i k. summed_none i) (omega arith);
      room = omega arith;
    }

-- ---- the counts

-- i codes are counted
module _ {os cs now : List ℕ} {i : ℕ} (s : Sound os cs) (w : SummedTo 0 (take i cs) now) (h : i < length cs) where
  pub tally_small : get_or cs i 0 < 4096
  tally_small = code_small s i h

  tally_next : suc (get_or cs i 0) < 4097
  tally_next = omega (arith, tally_small)

  tally_at : get_or now (1027 + get_or cs i 0) 0 ≡ often (take i cs) (get_or cs i 0)
  unfolding summed_to
  tally_at = let e : 1027 + get_or cs i 0 ≡ 1026 + suc (get_or cs i 0) = omega arith in rw e (rowed_at (summed 0 (take i cs)) w.holds (suc (get_or cs i 0)) tally_next ∙ summed_behind 0 (take i cs) (get_or cs i 0) zero-le)

  pub tally_fits : get_or now (1027 + get_or cs i 0) 0 < 4096
  tally_fits = omega (arith, tally_at, often_few (take i cs) (get_or cs i 0), length-take i cs, s.short)

  counted : (at v : ℕ) → at ≡ 1026 + suc (get_or cs i 0) → v ≡ often (take i cs) (get_or cs i 0) + 1 → Holds (set now at v) (summed_to 0 (take (i + 1) cs))
  unfolding summed_to
  counted at v e q =
      let c = get_or cs i 0 in
      let front = take i cs in
      let grown : take (i + 1) cs ≡ front ++ c ∷ [] = rw (add-one i) (take-suc cs i 0 h) in
      let value : v ≡ summed 0 (front ++ c ∷ []) (suc c) = omega (arith, q, summed_behind 0 (front ++ c ∷ []) c zero-le, often_add front c c, often_here c) in
      rw (grown, e) (rowed_set (summed 0 front) w.holds (suc c) tally_next (summed 0 (front ++ c ∷ [])) v (omega (arith, w.room)) (λ k d. summed_add front c k d) value)

  pub tally_more : SummedTo 0 (take (i + 1) cs) (set now (1027 + get_or cs i 0) (get_or now (1027 + get_or cs i 0) 0 + 1))
  tally_more =
      let c = get_or cs i 0 in
      let v = get_or now (1027 + c) 0 + 1 in
      record { holds = counted (1027 + c) v (omega arith) (ap (λ (n : ℕ). n + 1) tally_at); room = omega (arith, length-set now (1027 + c) v, w.room) }

-- all of them
pub tally_end : {cs now : List ℕ} {i : ℕ} → SummedTo 0 (take i cs) now → length cs ≤ i → SummedTo 0 cs now
tally_end {cs} {now} {i} w h = let e = take_all i cs h in record { holds = rw (← e) w.holds; room = w.room }

-- ---- the sums

-- up to y they are summed up
module _ {os cs now : List ℕ} {y : ℕ} (s : Sound os cs) (w : SummedTo y cs now) (h : y < 4096) where
  sum_here : get_or now (1026 + y) 0 ≡ codes_below cs y
  unfolding summed_to
  sum_here = rowed_at (summed y cs) w.holds y (omega arith) ∙ summed_done y cs y (omega arith)

  sum_behind : get_or now (1027 + y) 0 ≡ often cs y
  unfolding summed_to
  sum_behind = let e : 1027 + y ≡ 1026 + suc y = omega arith in rw e (rowed_at (summed y cs) w.holds (suc y) (omega arith) ∙ summed_behind y cs y (omega arith))

  sum_is : get_or now (1027 + y) 0 + get_or now (1026 + y) 0 ≡ codes_below cs (suc y)
  sum_is = omega (arith, sum_here, sum_behind, below_suc cs y)

  pub sum_fits : get_or now (1027 + y) 0 + get_or now (1026 + y) 0 ≤ 4096
  sum_fits = omega (arith, sum_is, below_few cs (suc y), s.short)

  summed_up : (at v : ℕ) → at ≡ 1026 + suc y → v ≡ codes_below cs (suc y) → Holds (set now at v) (summed_to (y + 1) cs)
  unfolding summed_to
  summed_up at v e q = rw (add-one y, e) (rowed_set (summed y cs) w.holds (suc y) (omega arith) (summed (suc y) cs) v (omega (arith, w.room)) (λ k d. summed_next y cs k d) (q ∙ sym (summed_done (suc y) cs (suc y) (omega arith))))

  pub sum_more : SummedTo (y + 1) cs (set now (1027 + y) (get_or now (1027 + y) 0 + get_or now (1026 + y) 0))
  sum_more =
      let v = get_or now (1027 + y) 0 + get_or now (1026 + y) 0 in
      record { holds = summed_up (1027 + y) v (omega arith) sum_is; room = omega (arith, length-set now (1027 + y) v, w.room) }

-- the laws of `count_codes` and `sum_starts`
pub ruleset tallying = (tally_small, tally_fits, tally_more, tally_end)

pub ruleset summing = (sum_fits, sum_more)
