-- The list after an insertion at the rank p, where the best `keep` of the other entries stay: what `insert` leaves, word by word,
-- and that it holds the best k where it held entries and zeros.
use mathlib.Core.List.{List, ◌∷◌, ◌++◌, append_assoc}
use mathlib.Core.Path.{◌≡◌, sym, ◌∙◌}
use Prim.Native.Nat.{ℕ, suc, ◌+◌, ◌-◌, ◌*◌, ◌≤◌, ◌<◌, min}
use native.Mathlib.Nat.{zero-add}
use native.Mathlib.Omega.{arith}
use lib.ListN.{length, take, drop, length-take, take-append-drop}
use lib.Seq.{take_at, drop_at, take-take, take-append-le, length-take-le}
use Rattle.order.proofs.Sort.{insert_length}
use Rattle.words.specs.Words.{flat}
use Rattle.words.proofs.Lists.{take_seam}
use Rattle.words.proofs.Words.{flat_append, padded_over, held}
use Rattle.order.specs.Order.{rank_of}
use Rattle.entries.specs.Entries.{width, words, entries_from, entries, entry_before, Ordered, inserted, inserted_words, Inserts}
use Rattle.entries.specs.declared.Entry.{Entry}
use Rattle.order.proofs.Cut.{insert_cut, rank_le}
use Rattle.entries.proofs.Reading.{flat_width, length_entries, take_entries, drop_entries, flat_entries, entries_held}
use Rattle.entries.proofs.Ordered.{inserted_ordered}

-- ---- numbers

width_sub : (x y : ℕ) → width * x - width * y ≡ width * (x - y)
width_sub x y = omega arith

rest_kept : (n k p keep : ℕ) → p < k → p ≤ n → keep ≡ min n (k - 1) → min (k - 1 - p) (n - p) ≡ keep - p
rest_kept n k p keep h w q = omega arith

all_kept : (n k keep : ℕ) → 0 < k → keep ≡ min n (k - 1) → width * min k (n + 1) ≡ width * keep + width
all_kept n k keep h q = omega arith

-- ---- the words

-- what is put where a part was moved up
put_shifted : (ws vs : List ℕ) (a b : ℕ) → a ≤ b → b + width ≤ length ws
    → let sh = take (a + width) ws ++ take (b - a) (drop a ws) ++ drop (b + width) ws in
    take a sh ++ vs ++ drop (a + width) sh ≡ take a ws ++ (vs ++ take (b - a) (drop a ws)) ++ drop (b + width) ws
put_shifted ws vs a b h l =
    let p : length (take (a + width) ws) ≡ a + width = length-take-le (a + width) ws (omega arith) in
    let q = take (b - a) (drop a ws) ++ drop (b + width) ws in
    let t : take a (take (a + width) ws ++ q) ≡ take a ws = take-append-le a (take (a + width) ws) q (omega arith) ∙ take-take a (a + width) ws (omega arith) in
    rw (append_assoc (take (a + width) ws) (take (b - a) (drop a ws)) (drop (b + width) ws), t, drop_at (take (a + width) ws) q (a + width) p) (simp append_assoc)

module _ (ws : List ℕ) (e : Entry) (n k p : ℕ) (few : n ≤ k) (room : width * k ≤ length ws) (rank : p ≡ rank_of entry_before e (entries n ws)) where
  pub rank_within : p ≤ n
  rank_within = omega (arith, rank, length_entries ws 0 n, rank_le entry_before e (entries n ws))

  parted : inserted e (entries n ws) ≡ entries p ws ++ e ∷ entries_from (width * p) (n - p) ws
  unfolding inserted
  parted =
      let m : min p n ≡ p = omega (arith, rank_within) in
      insert_cut entry_before e (entries n ws) ∙ rw (← rank, take_entries ws p 0 n, m, drop_entries ws p 0 n rank_within, zero-add)

  none_words : k ≤ p → ws ≡ inserted_words k e n ws
  none_words h =
      let z : p ≡ k = omega (arith, rank_within) in
      let m : min k (n + 1) ≡ k = omega (arith, rank_within) in
      rw (parted, z, m, take_at (entries k ws) (e ∷ entries_from (width * k) (n - k) ws) k (length_entries ws 0 k), flat_entries ws 0 k (omega arith)) (sym (take-append-drop (width * k) ws))

  one_words : p < k → (keep : ℕ) → keep ≡ min n (k - 1)
      → take (width * p) ws ++ (words e ++ take (width * keep - width * p) (drop (width * p) ws)) ++ drop (width * keep + width) ws ≡ inserted_words k e n ws
  unfolding flat
  one_words h keep q =
      let w = rank_within in
      let lo : 0 + width * p ≤ length ws = omega arith in
      let hi : width * p + width * (keep - p) ≤ length ws = omega arith in
      let z : k ≡ p + suc (k - 1 - p) = omega arith in
      let m = rest_kept n k p keep h w q in
      let r = all_kept n k keep (omega arith) q in
      rw (
        parted,
        r,
        width_sub keep p,
        take_seam (entries p ws) (e ∷ entries_from (width * p) (n - p) ws) p (suc (k - 1 - p)) k (length_entries ws 0 p) z,
        take_entries ws (k - 1 - p) (width * p) (n - p),
        m,
        flat_append,
        flat_entries ws 0 p lo,
        flat_entries ws (width * p) (keep - p) hi,
      )

-- ---- what it holds

pub inserts : (ws : List ℕ) (e : Entry) (n k : ℕ) {out : List ℕ} → n ≤ k → width * k ≤ length ws → out ≡ inserted_words k e n ws → Inserts k e n ws out
unfolding inserted
inserts ws e n k {out} few room o es q h =
    let new = flat words (take k (inserted e es)) in
    let old = flat words es in
    let count : length (take k (inserted e es)) ≡ min k (n + 1) = omega (arith, length-take k (inserted e es), insert_length entry_before e es) in
    let size : width * min k (n + 1) ≡ length new = omega (arith, flat_width (take k (inserted e es))) in
    let within : length old ≤ width * min k (n + 1) = omega (arith, flat_width es) in
    held (length ws) new (omega arith) (padded_over (length ws) old new (width * min k (n + 1)) h within size (rw (entries_held es q h) at o))

-- ---- the ways out of `insert`

-- what it tells of its answer r and of the list that it leaves
abbrev pub InsertTold : ℕ → Entry → ℕ → List ℕ → ℕ → List ℕ → Type 0
InsertTold k e n ws r out = (r ≡ min k (n + 1)) × ((out ≡ inserted_words k e n ws) × (Inserts k e n ws out × Ordered out r))

module _ (ws : List ℕ) (e : Entry) (n k p : ℕ) (few : n ≤ k) (room : width * k ≤ length ws) (order : Ordered ws n × (0 < e.union)) (rank : p ≡ rank_of entry_before e (entries n ws)) where
  told : (r : ℕ) {out : List ℕ} → r ≡ min k (n + 1) → out ≡ inserted_words k e n ws → InsertTold k e n ws r out
  told r c o = (c, (o, (inserts ws e n k few room o, inserted_ordered ws e n k r order.0 order.1 c o)))

  -- e comes behind the k-th
  pub none_listed : k ≤ p → InsertTold k e n ws k ws
  none_listed h = told k (omega (arith, rank_within ws e n k p few room rank)) (none_words ws e n k p few room rank h)

  -- sh is what `shift` leaves, and out what `put_entry` leaves of that
  pub one_listed : p < k → {keep : ℕ} → keep ≡ min n (k - 1) → {sh out : List ℕ}
      → sh ≡ take (width * p + width) ws ++ take (width * keep - width * p) (drop (width * p) ws) ++ drop (width * keep + width) ws
      → out ≡ take (width * p) sh ++ words e ++ drop (width * p + width) sh → InsertTold k e n ws (keep + 1) out
  one_listed h {keep} q s o =
      let w = rank_within ws e n k p few room rank in
      told (keep + 1) (omega arith) (o ∙ rw s (put_shifted ws (words e) (width * p) (width * keep) (omega arith) (omega arith)) ∙ one_words ws e n k p few room rank h keep q)
