-- The outcome of the search from what its parts leave in the buffers.
-- The list is cleared first; at the end the trail behind what is met, and the work area. After a refusal all three are.
use mathlib.Core.List.{List}
use mathlib.Core.Path.{◌≡◌, sym, ap, ◌∙◌}
use Prim.Native.Nat.{ℕ, ◌*◌, ◌≤◌, ◌<◌}
use native.Mathlib.Omega.{arith}
use lib.ListN.{length, replicate}
use borrow.Author.Tests.{lt-ltb, le-ltb}
use Rattle.site.specs.Measure.{in_use}
use Rattle.site.specs.Site.{Site}
use Rattle.site.specs.Events.{met, trail as trail_of}
use Rattle.site.proofs.Trail.{trail_met}
use Rattle.words.specs.Words.{padded, zeroed_from}
use Rattle.words.proofs.Split.{by_le}
use Rattle.words.proofs.Words.{begins_zeroed}
use Rattle.search.specs.Outcome.{outcome, zeros, trail_need, listed_words, met_words, search_of}
use Rattle.search.specs.Search.{Searched}
use Rattle.search.specs.Answer.{Answer}
use Rattle.search.specs.Answer as answer
use Rattle.search.proofs.Kept.{trail_length}

-- zeros of a length are zeros of an equal one
pub zeros_as : (old : List ℕ) (m : ℕ) {now : List ℕ} → now ≡ replicate m 0 → m ≡ length old → now ≡ zeros old
zeros_as old m e q = rw (← q) e

module _ {site : Site} {k : ℕ} {list buffer : List ℕ} {r : Answer} (w : Searched site k list buffer r) where
  -- a refusal is 8, and only where the trail does not fit
  refused_full : {n p : ℕ} → r ≡ answer.Refused n p → length buffer < trail_need k site
  refused_full e = by_le (trail_need k site) (length buffer)
      (λ h. let z : ◌≡◌ {A = ℕ} 0 1 = cc (e, w.told h) in absurd (omega arith))
      (λ h. h)

  counted_fits : {f e m : ℕ} → r ≡ answer.Listed f e m → trail_need k site ≤ length buffer
  counted_fits e = by_le (trail_need k site) (length buffer)
      (λ h. h)
      (λ h. let z : ◌≡◌ {A = ℕ} 0 1 = cc (e, w.full h) in absurd (omega arith))

  -- list₀, work₀ and buffer₀ are the buffers at entry
  module _ (list₀ work₀ buffer₀ : List ℕ) {work : List ℕ} (ll : length list ≡ length list₀) (lb : length buffer ≡ length buffer₀) (cleared : work ≡ zeros work₀) where
    pub search_full : {n p : ℕ} → r ≡ answer.Refused n p → {list' buffer' : List ℕ} → list' ≡ zeros list → buffer' ≡ zeros buffer → outcome r list' work buffer' ≡ search_of k site list₀ work₀ buffer₀
    unfolding search_of
    search_full e a b =
        let h = refused_full e in
        let t : length buffer₀ < trail_need k site = omega (arith, h) in
        let l = zeros_as list₀ (length list) a ll in
        let m = zeros_as buffer₀ (length buffer) b lb in
        let q = w.full h in
        rw (lt-ltb (length buffer₀) (trail_need k site) t) (λ i. record { answer = q i; list = l i; work = cleared i; trail = m i })

    pub search_told : {f e m : ℕ} → r ≡ answer.Listed f e m → {buffer' : List ℕ} → buffer' ≡ zeroed_from buffer (2 * m) → outcome (answer.Listed f e m) list work buffer' ≡ search_of k site list₀ work₀ buffer₀
    unfolding search_of
    search_told {f} {e} {m} z {buffer'} cut =
        let h = counted_fits z in
        let t : trail_need k site ≤ length buffer₀ = omega (arith, h) in
        let q = sym z ∙ w.told h in
        let l : list ≡ padded (length list₀) (listed_words k site) = rw (← ll) (w.listed h) in
        let n : m ≡ met in_use site k = cc q in
        let i : 2 * m ≡ length (met_words k site) = omega (arith, n, trail_length (trail_of in_use site k), trail_met in_use site k) in
        let b : buffer' ≡ padded (length buffer₀) (met_words k site) = cut ∙ begins_zeroed buffer (met_words k site) i (w.trailed h) ∙ ap (λ (i : ℕ). padded i (met_words k site)) lb in
        rw (le-ltb (length buffer₀) (trail_need k site) t) (λ i. record { answer = q i; list = l i; work = cleared i; trail = b i })

  -- the counted pairs are on the trail
  pub counted_room : {f e m : ℕ} → r ≡ answer.Listed f e m → 2 * m ≤ length buffer
  counted_room {f} {e} {m} z = let h = counted_fits z in let n : m ≡ met in_use site k = cc (z, w.told h) in omega (arith, h, n)
