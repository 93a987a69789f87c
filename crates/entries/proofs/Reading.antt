-- Entries and their words: parts of a list of entries are parts of its words, and what was written is read back.
-- That an entry has `width` words is said here once.
use mathlib.Core.List.{List, [], ◌∷◌, ◌++◌, append_assoc}
use mathlib.Core.Path.{◌≡◌, refl, sym, ap, ap₂, ◌∙◌}
use Prim.Native.Nat.{ℕ, zero, suc, ◌+◌, ◌-◌, ◌*◌, ◌≤◌, ◌<◌, min}
use native.Mathlib.Nat.{add-zero, zero-add, sub-zero, le_of_suc-le-suc}
use native.Mathlib.Numerals.{towards_suc}
use native.Mathlib.Omega.{arith}
use lib.ListN.{length, get_or, take, drop, replicate, length-append}
use lib.Seq.{take-add, drop-drop, get_or-append-add, get_or-append_seam}
use Rattle.words.specs.Words.{flat, padded, Holds}
use Rattle.words.proofs.Lists.{read_from, read_part}
use Rattle.words.proofs.Words.{flat_length}
use Rattle.entries.specs.Entries.{context, width, first_four, words, entry_at, entries_from, entries}
use Rattle.entries.specs.declared.Entry.{Entry}

pub words_width : (e : Entry) → length (words e) ≡ width
words_width e = refl

pub flat_width : (es : List Entry) → length (flat words es) ≡ width * length es
flat_width es = flat_length words width words_width es

-- ---- entries read from words

module _ (ws : List ℕ) where
  pub length_entries : (at n : ℕ) → length (entries_from at n ws) ≡ n
  unfolding entries_from
  length_entries at zero = refl
  length_entries at (suc n) = ap suc (length_entries (at + width) n)

  pub take_entries : (m at n : ℕ) → take m (entries_from at n ws) ≡ entries_from at (min m n) ws
  unfolding entries_from
  take_entries zero at n = let e : min 0 n ≡ 0 = omega arith in rw e
  take_entries (suc m) at zero = let e : min (suc m) 0 ≡ 0 = omega arith in rw e
  take_entries (suc m) at (suc n) = let e : min (suc m) (suc n) ≡ suc (min m n) = omega arith in rw (e, take_entries m (at + width) n)

  pub drop_entries : (m at n : ℕ) → m ≤ n → drop m (entries_from at n ws) ≡ entries_from (at + width * m) (n - m) ws
  unfolding entries_from
  drop_entries zero at n h = rw (add-zero, sub-zero)
  drop_entries (suc m) at zero h = absurd (omega arith)
  drop_entries (suc m) at (suc n) h =
      let e : at + width * suc m ≡ at + width + width * m = omega arith in
      let f : suc n - suc m ≡ n - m = omega arith in
      rw (e, f) (drop_entries m (at + width) n (omega arith))

  pub entry_words_lem : (at : ℕ) → at + width ≤ length ws → words (entry_at ws at) ≡ take width (drop at ws)
  unfolding read_from
  entry_words_lem at h = simp towards_suc (read_part ws width at h)

  pub flat_entries : (at n : ℕ) → at + width * n ≤ length ws → flat words (entries_from at n ws) ≡ take (width * n) (drop at ws)
  unfolding entries_from flat
  flat_entries at zero h = refl
  flat_entries at (suc n) h =
      let e : width * suc n ≡ width + width * n = omega arith in
      rw (e, take-add width (width * n) (drop at ws), drop-drop, flat_entries (at + width) n (omega arith), ← entry_words_lem at (omega arith))

  entries_from_lem : (at n i : ℕ) (d : Entry) → i < n → get_or (entries_from at n ws) i d ≡ entry_at ws (at + width * i)
  unfolding entries_from
  entries_from_lem at zero i d h = absurd (omega arith)
  entries_from_lem at (suc n) zero d h = rw (add-zero at)
  entries_from_lem at (suc n) (suc i) d h = let e : at + width * suc i ≡ at + width + width * i = omega arith in rw e (entries_from_lem (at + width) n i d (le_of_suc-le-suc h))

  -- the entry i of the first n
  pub entries_at : (n i : ℕ) (d : Entry) → i < n → get_or (entries n ws) i d ≡ entry_at ws (width * i)
  entries_at n i d h = rw zero-add at (entries_from_lem 0 n i d h)

-- ---- the first four words alone

-- the entry without its code
abbrev pub uncoded : Entry → Entry
uncoded e = entry_at (first_four e) 0

pub same_uncoded : (e f : Entry) → first_four e ≡ first_four f → uncoded e ≡ uncoded f
same_uncoded e f q = ap (λ (ws : List ℕ). entry_at ws 0) q

-- ---- and back

entry_eq : (e f : Entry) → e.lower.0 ≡ f.lower.0 → e.higher.0 ≡ f.higher.0 → e.shared ≡ f.shared → e.union ≡ f.union → e.code ≡ f.code → e ≡ f
entry_eq e f a b c d x = λ i. record { lower = context (a i); higher = context (b i); shared = c i; union = d i; code = x i }

pub read_back : (front : List ℕ) (es : List Entry) (behind : List ℕ) → entries_from (length front) (length es) (front ++ (flat words es ++ behind)) ≡ es
unfolding entries_from flat
read_back front [] behind = refl
read_back front (e ∷ es) behind =
    let ws = flat words (e ∷ es) ++ behind in
    let q : front ++ ws ≡ (front ++ words e) ++ (flat words es ++ behind) = sym (append_assoc front (words e) (flat words es ++ behind)) in
    let n : length front + width ≡ length (front ++ words e) = sym (length-append front (words e)) in
    ap₂ ◌∷◌ (entry_eq (entry_at (front ++ ws) (length front)) e (get_or-append_seam front _ _ 0) (get_or-append-add front ws 1 0) (get_or-append-add front ws 2 0) (get_or-append-add front ws 3 0) (get_or-append-add front ws 4 0)) (rw (n, q) (read_back (front ++ words e) es behind))

entries_padded : (n : ℕ) (es : List Entry) → entries (length es) (padded n (flat words es)) ≡ es
unfolding padded
entries_padded n es = read_back [] es (replicate (n - length (flat words es)) 0)

-- entries that a buffer holds are read from it
pub entries_held : {ws : List ℕ} {n : ℕ} (es : List Entry) → n ≡ length es → Holds ws (flat words es) → entries n ws ≡ es
entries_held {ws} {n} es q h = rw q (ap (entries (length es)) h ∙ entries_padded (length ws) es)
