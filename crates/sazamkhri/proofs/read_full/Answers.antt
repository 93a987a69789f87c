-- `sazamkhri::read_full`: what one more read gave stands behind what was read before.
use Rattle.std.proofs.Common.{◌≡◌, ℕ, ◌+◌, ◌-◌, ◌≤◌, List, ◌++◌, length, take, drop, arith, sym, ap, ◌∙◌, subst, le_refl, drop_at, length-take-le}
use Rattle.std.proofs.lemmas.Slice.{take-put_mid_below}
use Rattle.std.specs.Io.KnownBytes.{Consumes}
use Rattle.std.proofs.KnownBytes.{Consumes-trans}
use borrow.Rule.Slice.PartMut.{put_mid, post_of}
use lib.Seq.{take-add, take-append-le}
use Rattle.sazamkhri.proofs.read_full.Goals as goal

-- n bytes of ys behind the first `at` bytes of xs
joined : (at n : ℕ) (xs ys : List ℕ) → at ≤ length xs → n ≤ length ys
    → take at xs ++ take n ys ≡ take (at + n) (put_mid at (length xs - at) xs ys)
joined at n xs ys within fits =
    let k = length xs - at in
    let after = post_of at k xs in
    let front : take at (put_mid at k xs ys) ≡ take at xs = take-put_mid_below _ _ _ _ _ (le_refl _) within in
    let back : take n (drop at (put_mid at k xs ys)) ≡ take n ys =
    ap (take n) (drop_at (take at xs) (ys ++ after) at (length-take-le at xs within)) ∙ take-append-le n ys after fits in
    sym (take-add at n (put_mid at k xs ys) ∙ ap (λ l. l ++ take n (drop at (put_mid at k xs ys))) front ∙ ap (λ l. take at xs ++ l) back)

pub loop-done-preserved : goal.loop-done-preserved
loop-done-preserved g c =
    let read = c.in_ok-n.ensures in
    record {
      within = omega (arith, read.bound.0);
      bytes = subst (Consumes _ _) (joined _ _ _ _ c.loop-done.invariant.within read.bound.0) (Consumes-trans _ _ _ _ _ c.loop-done.invariant.bytes read.bytes.0);
    }
