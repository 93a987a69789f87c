-- Tables that pass 1 to 5 fit a sheet, and the reader's words and room.
use mathlib.Core.Path.{◌≡◌}
use mathlib.Core.List.{List, [], ◌∷◌}
use Prim.Native.Nat.{ℕ, zero, suc, ◌≤◌, ◌<◌, zero-le}
use native.Mathlib.Omega.{arith}
use borrow.Author.Tests.{lt-ltb}
use lib.ListN.{length, get_or, take, drop}
use Rattle.words.proofs.Split.{by_le}
use Rattle.site.specs.Tables.{site_of}
use Rattle.sheet.proofs.ReadsBack.{SiteWords, SheetFits}
use Rattle.words.specs.Words.{Words16}
use Rattle.tables.specs.Rules.{code_rule, code_rule_by}
use Rattle.tables.specs.Sound.{Sound}
use Rattle.tables.proofs.Meaning.{fine_means}
use Rattle.tables.proofs.Sound.{contexts_are}
use Rattle.tables.proofs.Checks.{Accepted}
use Rattle.tables.proofs.Cuts.{tables_back}

-- the codes fit their words
words_of : (cs : List ℕ) → ((i : ℕ) → i < length cs → get_or cs i 0 ≤ 65535) → Words16 cs
words_of [] h = tt
words_of (c ∷ cs) h = (h 0 (omega arith), words_of cs (λ i l. h (suc i) (omega arith)))

words_take : (n : ℕ) (cs : List ℕ) → Words16 cs → Words16 (take n cs)
words_take zero cs w = tt
words_take (suc n) [] w = tt
words_take (suc n) (c ∷ cs) w = (w.0, words_take n cs w.1)

words_drop : (n : ℕ) (cs : List ℕ) → Words16 cs → Words16 (drop n cs)
words_drop zero cs w = w
words_drop (suc n) [] w = tt
words_drop (suc n) (c ∷ cs) w = words_drop n cs w.1

site_words : (os cs : List ℕ) → Words16 cs → SiteWords (site_of os cs)
unfolding site_of
site_words [] cs w = tt
site_words (a ∷ []) cs w = tt
site_words (a ∷ b ∷ os) cs w = (words_drop a (take b cs) (words_take b cs w), site_words (b ∷ os) cs w)

code_small : {os cs : List ℕ} → Sound os cs → (i : ℕ) → i < length cs → get_or cs i 0 ≤ 65535
unfolding code_rule code_rule_by
code_small {os} {cs} S i h =
    by_le (get_or cs i 0) 4095 (λ l. omega arith)
    (λ l. let z : ◌≡◌ {A = ℕ} 4 0 = rw (lt-ltb 4095 (get_or cs i 0) l) at (fine_means (code_rule os cs) 0 (length cs) zero-le S.rising i zero-le h) in absurd (omega arith))

-- what passes 1 to 5 fits a sheet, and lent tables that are as long
pub written_fits : {k : ℕ} {os cs : List ℕ} → Accepted k os cs → (lo lc : ℕ) → length os ≤ lo → length cs ≤ lc → SheetFits lo lc k (site_of os cs)
written_fits {k} {os} {cs} A lo lc h g =
    let S = A.sound in
    record {
      k_word = omega (arith, A.most);
      words = site_words os cs (words_of cs (code_small S));
      contexts = omega (arith, contexts_are S, S.few);
      room = rw (tables_back S).1 (omega (arith, S.short));
    }
