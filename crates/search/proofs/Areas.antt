-- The work area in its parts: what is written to one of them leaves the others.
use mathlib.Core.List.{List, ◌++◌}
use mathlib.Core.Path.{◌≡◌, sym, ap, ◌∙◌}
use Prim.Native.Nat.{ℕ, ◌+◌, ◌<◌}
use native.Mathlib.Omega.{arith}
use lib.ListN.{length, take, drop, length-drop}
use lib.Seq.{take_at, drop_at, take-take, drop-drop, drop-append-add, length-take-le}
use borrow.Rule.Slice.PartMut.{put_mid, same_len_mid}
use Rattle.site.specs.Site.{codes_of}
use Rattle.site.specs.Tables.{site_of}
use Rattle.words.proofs.Lists.{slice_is}
use Rattle.tables.specs.Sound.{Sound}
use Rattle.tables.proofs.Sound.{place_small}
use Rattle.marks.specs.Marks.{code_words, HaveMarks}
use Rattle.marks.proofs.Loops.{small_by}
use Rattle.agenda.specs.Layout.{agenda_room}
use Rattle.search.specs.Search.{pair_words, Wide, agenda_part, marks_part, pairs_part, Remarked}

-- behind one part, and behind two
behind_one : (a b : ℕ) (xs ys : List ℕ) → length xs ≡ a → drop (a + b) (xs ++ ys) ≡ drop b ys
behind_one a b xs ys e = rw (← e) (drop-append-add xs ys b)

behind : (a b : ℕ) (xs ys zs : List ℕ) → length xs ≡ a → length ys ≡ b → drop (a + b) (xs ++ (ys ++ zs)) ≡ zs
behind a b xs ys zs e f = behind_one a b xs (ys ++ zs) e ∙ drop_at ys zs b f

-- the words in front of the marks of pairs tell those of the agenda and the marks of codes
module _ (work work' : List ℕ) (e : take (agenda_room + code_words) work' ≡ take (agenda_room + code_words) work) where
  front_agenda : agenda_part work' ≡ agenda_part work
  front_agenda = sym (take-take agenda_room (agenda_room + code_words) work' (omega arith)) ∙ ap (take agenda_room) e ∙ take-take agenda_room (agenda_room + code_words) work (omega arith)

  front_marks : marks_part work' ≡ marks_part work
  front_marks = slice_is agenda_room (agenda_room + code_words) work' ∙ ap (drop agenda_room) e ∙ sym (slice_is agenda_room (agenda_room + code_words) work)

module _ (work : List ℕ) (wide : Wide work) where
  pub agenda_long : length (agenda_part work) ≡ agenda_room
  agenda_long = length-take-le agenda_room work (omega arith)

  pub marks_long : length (marks_part work) ≡ code_words
  marks_long = length-take-le code_words (drop agenda_room work) (omega (arith, length-drop agenda_room work))

  pub pairs_long : length (pairs_part work) ≡ pair_words
  pairs_long = length-take-le pair_words (drop (agenda_room + code_words) work) (omega (arith, length-drop (agenda_room + code_words) work))

  front_long : length (take (agenda_room + code_words) work) ≡ agenda_room + code_words
  front_long = length-take-le (agenda_room + code_words) work (omega arith)

  -- words are written to the agenda's part
  module _ (words : List ℕ) (long : length words ≡ length (agenda_part work)) where
    pub agenda_written : agenda_part (words ++ drop agenda_room work) ≡ words
    agenda_written = take_at words _ agenda_room (long ∙ agenda_long)

    pub agenda_besides : pairs_part (words ++ drop agenda_room work) ≡ pairs_part work
    agenda_besides =
        ap (take pair_words) (behind_one agenda_room code_words words (drop agenda_room work) (long ∙ agenda_long) ∙ drop-drop code_words agenda_room work)

  -- to the marks of codes
  module _ (marks : List ℕ) (long : length marks ≡ code_words) where
    pub marks_besides : Remarked work (put_mid agenda_room code_words work marks)
    marks_besides = (take_at (agenda_part work) _ agenda_room agenda_long, ap (take pair_words) (behind agenda_room code_words (agenda_part work) marks _ agenda_long long ∙ drop-drop code_words agenda_room work))

    pub marks_written : marks_part (put_mid agenda_room code_words work marks) ≡ marks
    marks_written = ap (take code_words) (drop_at (agenda_part work) _ agenda_room agenda_long) ∙ take_at marks _ code_words long

  -- to the marks of pairs
  module _ (marks : List ℕ) (long : length marks ≡ pair_words) where
    abbrev out : List ℕ
    out = put_mid (agenda_room + code_words) pair_words work marks

    pub pairs_besides : (agenda_part out ≡ agenda_part work) × (marks_part out ≡ marks_part work)
    pairs_besides = let e = take_at (take (agenda_room + code_words) work) _ (agenda_room + code_words) front_long in (front_agenda work out e, front_marks work out e)

    -- the work area stays as long
    pub pairs_wide : Wide out
    pairs_wide = omega (arith, same_len_mid (agenda_room + code_words) pair_words work marks (long ∙ sym pairs_long))

    pub pairs_written : pairs_part out ≡ marks
    pairs_written = ap (take pair_words) (drop_at (take (agenda_room + code_words) work) _ (agenda_room + code_words) front_long) ∙ take_at marks _ pair_words long

-- the codes of a context have marks
pub context_small : {os cs xs : List ℕ} → Sound os cs → (i : ℕ) → i + 1 < length os → xs ≡ codes_of (site_of os cs) i → HaveMarks xs
context_small {os} {cs} {xs} s i h e = small_by xs (λ n l. rw e (place_small s i n h (omega (arith, l, ap length e))))
