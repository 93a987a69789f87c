-- What sound tables are: their site rises, its contexts are parts of the codes, and its sizes are small.
-- Callers use these laws and never open the checks.
use mathlib.Core.List.{List}
use mathlib.Core.Path.{◌≡◌, sym, ◌∙◌}
use Prim.Native.Nat.{ℕ, suc, ◌+◌, ◌-◌, ◌≤◌, ◌<◌, zero-le}
use native.Mathlib.Numerals.{add-one}
use native.Mathlib.Omega.{arith}
use lib.Dec.{ltb}
use lib.ListN.{length, get_or, take, drop}
use lib.Seq.{slice, length-slice}
use borrow.Author.Tests.{ne_eqb, lt-ltb, le-ltb}
use Rattle.words.proofs.Split.{by_le}
use Rattle.words.proofs.Lists.{slice_is}
use Rattle.order.specs.Order.{Sorted}
use Rattle.site.specs.Site.{Rising, codes_of, size_of, has, Pair, Shares, first_code_of}
use Rattle.site.specs.Events.{ahead}
use Rattle.site.specs.Tables.{site_of}
use Rattle.site.proofs.Contexts.{first_bound, first_at}
use Rattle.site.proofs.Tables.{site_length, site_codes, site_rises, slice_at}
use Rattle.tables.specs.Rules.{code_rule, code_rule_by}
use Rattle.tables.specs.Sound.{Sound}
use Rattle.tables.proofs.Meaning.{fine_means}
use Rattle.tables.proofs.Parts.{begins, rising, last_is, first_zero}

module _ {os cs : List ℕ} (s : Sound os cs) where
  -- contexts
  pub contexts_are : length (site_of os cs) + 1 ≡ length os
  contexts_are = omega (arith, s.some, site_length os cs)

  pub offset_first : get_or os 0 0 ≡ 0
  offset_first = first_zero os (length cs) s.some s.cut

  pub offset_last : (i : ℕ) → i + 1 ≡ length os → get_or os i 0 ≡ length cs
  offset_last i h = last_is os (length cs) s.some s.cut i h

  pub offset_rises : (i : ℕ) → i + 1 < length os → get_or os i 0 ≤ get_or os (i + 1) 0
  offset_rises i h = rising os (length cs) s.some s.cut i (i + 1) (omega arith) h

  pub offset_within : (i : ℕ) → i < length os → get_or os i 0 ≤ length cs
  offset_within i h =
      omega (arith, s.some, rising os (length cs) s.some s.cut i (length os - 1) (omega arith) (omega arith), last_is os (length cs) s.some s.cut (length os - 1) (omega arith))

  rule_kept : (k : ℕ) → k < length cs → code_rule os cs k ≡ 0
  rule_kept k h = fine_means (code_rule os cs) 0 (length cs) zero-le s.rising k zero-le h

  -- a code is at most 4095
  pub code_small : (k : ℕ) → k < length cs → get_or cs k 0 < 4096
  unfolding code_rule code_rule_by
  code_small k h = by_le (get_or cs k 0) 4095 (λ l. omega arith) (λ l. let z : ◌≡◌ {A = ℕ} 4 0 = rw (lt-ltb _ _ l) at (rule_kept k h) in absurd (omega arith))

  steps : (i n : ℕ) → suc i < length os → get_or os i 0 ≤ n → suc n < get_or os (suc i) 0 → get_or cs n 0 < get_or cs (suc n) 0
  unfolding code_rule code_rule_by
  steps i n h lo hi =
      let hi' : suc n < get_or os (i + 1) 0 = rw (add-one i) hi in
      let b = begins os (length cs) s.some s.cut i (suc n) (omega arith) (omega arith) hi' in
      let k = rule_kept (suc n) (omega (arith, offset_within (suc i) h)) in
      by_le (get_or cs (suc n) 0) (get_or cs n 0)
      (λ l. by_le (get_or cs (suc n) 0) 4095
      (λ q. let p : suc n - 1 ≡ n = omega arith in let z : ◌≡◌ {A = ℕ} 5 0 = rw (le-ltb _ _ q, b, ne_eqb (suc n) (get_or os i 0) (λ e. omega arith), p, le-ltb _ _ l) at k in absurd (omega arith))
      (λ q. let z : ◌≡◌ {A = ℕ} 4 0 = rw (lt-ltb _ _ q) at k in absurd (omega arith)))
      (λ l. l)

  pub sound_rises : Rising (site_of os cs)
  sound_rises = site_rises os cs (λ i h. offset_within (suc i) h) steps

  -- a context, as a part of the codes
  pub context_codes : (i : ℕ) → i + 1 < length os → codes_of (site_of os cs) i ≡ slice (get_or os i 0) (get_or os (i + 1) 0) cs
  context_codes i h = rw (add-one i) (site_codes os cs i (omega arith))

  pub context_part : (i : ℕ) → i + 1 < length os → take (get_or os (i + 1) 0 - get_or os i 0) (drop (get_or os i 0) cs) ≡ codes_of (site_of os cs) i
  context_part i h = slice_is (get_or os i 0) (get_or os (i + 1) 0) cs ∙ sym (context_codes i h)

  pub context_size : (i : ℕ) → i + 1 < length os → size_of (site_of os cs) i ≡ get_or os (i + 1) 0 - get_or os i 0
  context_size i h = rw (context_codes i h) (length-slice (get_or os i 0) (get_or os (i + 1) 0) cs (offset_within (i + 1) h))

  pub size_small : (i : ℕ) → i + 1 < length os → size_of (site_of os cs) i ≤ 4096
  size_small i h = omega (arith, s.short, context_size i h, offset_within (i + 1) h)

  pub place_small : (i n : ℕ) → i + 1 < length os → n < size_of (site_of os cs) i → get_or (codes_of (site_of os cs) i) n 0 < 4096
  place_small i n h k =
      let l : get_or os i 0 + n < get_or os (i + 1) 0 = omega (arith, k, context_size i h) in
      rw (context_codes i h, slice_at (get_or os i 0) (get_or os (i + 1) 0) cs n l) (code_small (get_or os i 0 + n) (omega (arith, offset_within (i + 1) h)))

  -- two contexts can be walked
  -- the first shared code of a pair is at most 4,095
  pub first_small : (q : Pair) → Shares (site_of os cs) q → first_code_of (site_of os cs) q < 4096
  first_small q h =
      let xs = codes_of (site_of os cs) q.lower in
      let ys = codes_of (site_of os cs) q.higher in
      let c = place_small q.lower (ahead (has ys) xs) (omega (arith, contexts_are, h.rising, h.inside)) (omega (arith, first_bound xs ys, h.some)) in
      omega (arith, first_at xs ys, c)

  pub two_parts : {xs ys : List ℕ} (i j : ℕ) → i + 1 < length os → j + 1 < length os → xs ≡ codes_of (site_of os cs) i → ys ≡ codes_of (site_of os cs) j → (Sorted ltb xs × Sorted ltb ys) × ((length xs ≤ 4096) × (length ys ≤ 4096))
  two_parts i j h k e f = rw (e, f) ((sound_rises.rises i, sound_rises.rises j), (size_small i h, size_small j k))
