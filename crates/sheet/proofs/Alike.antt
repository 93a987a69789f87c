-- Texts with the same first bytes, and what of that is left when both are cut into pieces.
use mathlib.Core.Path.{◌≡◌, refl, sym, ap, ap₂, ◌∙◌}
use mathlib.Core.List.{List, [], ◌∷◌, ◌++◌}
use Prim.Native.Nat.{ℕ, zero, suc, ◌+◌, ◌≤◌, zero-le, suc-le-suc}
use native.Mathlib.Nat.{not-suc-le-zero, le_of_suc-le-suc, le_refl}
use native.Mathlib.Omega.{arith}
use borrow.Author.Tests.{eq-eqb, ne_eqb}
use lib.ListN.{length, take, length-append}
use lib.Seq.{take-take, take-append-le, take-append-add}
use Rattle.words.proofs.Split.{by_eq}
use Rattle.sheet.specs.Pieces.{split, on_first}
use Rattle.sheet.specs.Meaning.{Alike}
use Rattle.sheet.proofs.Pieces.{split_some}

pub alike_none : (s t : List ℕ) → Alike 0 s t
alike_none s t = record { left = zero-le; right = zero-le; same = refl }

pub alike_self : (s : List ℕ) → Alike (length s) s s
alike_self s = record { left = le_refl _; right = le_refl _; same = refl }

pub alike_is : {m n : ℕ} {s t x y : List ℕ} → m ≡ n → s ≡ x → t ≡ y → Alike m s t → Alike n x y
alike_is h e f a = rw (← h, ← e, ← f) a

pub alike_sooner : {m n : ℕ} {s t : List ℕ} → n ≤ m → Alike m s t → Alike n s t
alike_sooner {m} {n} {s} {t} h a =
    record { left = omega arith; right = omega arith; same = sym (take-take n m s h) ∙ ap (take n) a.same ∙ take-take n m t h }

-- with anything behind the one or the other
pub alike_left : {m : ℕ} {s t : List ℕ} (x : List ℕ) → Alike m s t → Alike m (s ++ x) t
alike_left {m} {s} x a = record { left = rw length-append (omega arith); right = a.right; same = take-append-le m s x a.left ∙ a.same }

pub alike_right : {m : ℕ} {s t : List ℕ} (x : List ℕ) → Alike m s t → Alike m s (t ++ x)
alike_right {m} {s} {t} x a = record { left = a.left; right = rw length-append (omega arith); same = a.same ∙ sym (take-append-le m t x a.right) }

-- with the same text before both
pub alike_before : {m : ℕ} {s t : List ℕ} (x : List ℕ) → Alike m s t → Alike (length x + m) (x ++ s) (x ++ t)
alike_before {m} {s} {t} x a =
    record {
      left = rw length-append (omega arith);
      right = rw length-append (omega arith);
      same = take-append-add x s m ∙ ap (λ (r : List ℕ). x ++ r) a.same ∙ sym (take-append-add x t m);
    }

pub alike_cons : {m x y : ℕ} {s t : List ℕ} → x ≡ y → Alike m s t → Alike (suc m) (x ∷ s) (y ∷ t)
alike_cons q a = record { left = suc-le-suc a.left; right = suc-le-suc a.right; same = ap₂ ◌∷◌ q a.same }

-- the pieces of two texts with m bytes in common: those bytes end in the first piece, or the first pieces are the same
pub data Agree : ℕ → List (List ℕ) → List (List ℕ) → Type 0 where
  inside : {m : ℕ} {l k : List ℕ} (ls ks : List (List ℕ)) → Alike m l k → Agree m (l ∷ ls) (k ∷ ks)
  beyond : {m : ℕ} (n : ℕ) (l : List ℕ) {ls ks : List (List ℕ)} → m ≡ length l + suc n → Agree n ls ks → Agree m (l ∷ ls) (l ∷ ks)

agree_first : {m : ℕ} (x : ℕ) {ls ks : List (List ℕ)} → Agree m ls ks → Agree (suc m) (on_first x ls) (on_first x ks)
unfolding on_first
agree_first x (inside ls ks a) = inside ls ks (alike_cons refl a)
agree_first {m} x (beyond n l e a) = beyond {m = suc m} n (x ∷ l) (omega arith) a

agree_none : (ls ks : List (List ℕ)) (l k : List ℕ) (ms ns : List (List ℕ)) → ls ≡ l ∷ ms → ks ≡ k ∷ ns → Agree 0 ls ks
agree_none ls ks l k ms ns e f = rw (e, f) (inside ms ns (alike_none l k))

pub agree_split : (b m : ℕ) (s t : List ℕ) → Alike m s t → Agree m (split b s) (split b t)
unfolding split
agree_split b zero s t a = let x = split_some b s in let y = split_some b t in agree_none (split b s) (split b t) _ _ _ _ x.2 y.2
agree_split b (suc m) [] t a = absurd (not-suc-le-zero a.left)
agree_split b (suc m) (x ∷ s) [] a = absurd (not-suc-le-zero a.right)
agree_split b (suc m) (x ∷ s) (y ∷ t) a =
    let q : x ≡ y = cc a.same in
    let r : take m s ≡ take m t = cc a.same in
    let i = agree_split b m s t (record { left = le_of_suc-le-suc a.left; right = le_of_suc-le-suc a.right; same = r }) in
    rw (← q) (by_eq x b
    (λ e. rw (eq-eqb x b e) (beyond {m = suc m} m [] (omega arith) i))
    (λ n. rw (ne_eqb x b n) (agree_first x i)))
