-- A call that tells three counts: it was accepted, its site rises, and the entries of the pairs listed are read back from its list.
use mathlib.Core.List.{[], ◌∷◌, map}
use mathlib.Core.Path.{◌≡◌, sym, ap, ◌∙◌}
use Prim.Native.Nat.{ℕ, ◌-◌, ◌*◌}
use native.Mathlib.Omega.{arith}
use lib.ListN.{length, drop, replicate}
use Rattle.site.specs.Measure.{in_use}
use Rattle.site.specs.Site.{Rising, list_of}
use Rattle.site.specs.Events.{found, events, met}
use Rattle.words.proofs.Words.{padded_front, padded_drop}
use Rattle.tables.proofs.Sound.{sound_rises}
use Rattle.entries.specs.Entries.{width, entry_of, entries}
use Rattle.entries.proofs.Listed.{entry_length, entries_back}
use Rattle.search.specs.Outcome.{Tells, listed_words}
use Rattle.search.proofs.Answers.{tells_listed}
use Rattle.join.specs.Join.{JoinCall, call_site, Found, Joins}
use Rattle.join.proofs.Checks.{CallAccepted, call_accepted}
use Rattle.join.proofs.Outcomes.{listed_only}

module _ {c : JoinCall} (j : Joins c) {f e m : ℕ} (t : Tells c.answer 0 (f ∷ e ∷ m ∷ [])) where
  pub told_accepted : CallAccepted c.k c.offsets c.codes (length c.list) (length c.work)
  told_accepted = call_accepted c.k c.offsets c.codes (length c.list) (length c.work) (listed_only j (tells_listed c.answer t)).0

  pub told_rises : Rising (call_site c)
  told_rises = sound_rises told_accepted.sound

  pub told_found : Found c
  told_found = let a = listed_only j (tells_listed c.answer t) in j.found a.0 a.1

  -- the counts are found, events and met
  pub told_counts : (f ≡ found in_use (call_site c) c.k) × (e ≡ events in_use (call_site c) c.k) × (m ≡ met in_use (call_site c) c.k)
  told_counts =
      let told = sym t.1 ∙ told_found.told.1 in
      let x : f ≡ found in_use (call_site c) c.k = cc told in
      let y : e ≡ events in_use (call_site c) c.k = cc told in
      let z : m ≡ met in_use (call_site c) c.k = cc told in
      (x, y, z)

  -- the entries on the list
  pub told_entries : entries f c.list' ≡ map (entry_of (call_site c)) (list_of in_use (call_site c) c.k)
  told_entries =
      let ws = listed_words c.k (call_site c) in
      entries_back (call_site c) (list_of in_use (call_site c) c.k) c.list' told_counts.0 (rw told_found.list_holds (padded_front (length c.list) ws))

  -- and what stands behind them
  pub told_behind : drop (width * f) c.list' ≡ replicate (length c.list - width * f) 0
  told_behind =
      let ws = listed_words c.k (call_site c) in
      ap (drop (width * f)) told_found.list_holds ∙ padded_drop (length c.list) ws (width * f) (omega (arith, entry_length (call_site c) (list_of in_use (call_site c) c.k), told_counts.0))
