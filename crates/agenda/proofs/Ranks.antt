-- The tournament in the work area: what is read of a node, and what a store leaves as it is.
use mathlib.Core.List.{List}
use mathlib.Core.Path.{◌≡◌, refl, sym, ◌∙◌}
use Prim.Native.Nat.{ℕ, ◌+◌, ◌≤◌, ◌<◌}
use native.Mathlib.Omega.{arith}
use lib.ListN.{length, get_or, set, length-set}
use lib.Seq.{get_or-set_same, get_or-set_other}
use Rattle.walk.specs.declared.Fraction.{Fraction}
use Rattle.words.proofs.Split.{by_eq, by_le}
use Rattle.agenda.specs.Tournament.{left_in, node_word, NodesPlayed}
use Rattle.agenda.proofs.Nodes.{node_small}
use Rattle.agenda.proofs.Paths.{node_same}

-- ---- what is left

pub left_eq : {p q : Fraction} → p.num ≡ q.num → p.den ≡ q.den → p ≡ q
left_eq e d = λ i. record { num = e i; den = d i }

-- a store behind it has no say
pub left_kept : (work : List ℕ) (k v : ℕ) → 514 ≤ k → (w : ℕ) → w ≤ 256 → left_in (set work k v) w ≡ left_in work w
left_kept work k v h w l = left_eq (get_or-set_other work k w v 0 (λ e. omega arith)) (get_or-set_other work k (257 + w) v 0 (λ e. omega arith))

-- ---- a node

pub node_inside : {y : ℕ} {work : List ℕ} → NodesPlayed y work → (t : ℕ) → y < t → t < 512 → get_or work (514 + t) 0 ≤ 256
node_inside {y} {work} R t h l = rw (R.nodes t h l) (node_small (left_in work) t (omega arith) l)

-- and so have those behind another
pub ranked_from : {y : ℕ} {work : List ℕ} → NodesPlayed y work → {z : ℕ} → y ≤ z → NodesPlayed z work
ranked_from R h = record { room = R.room; nodes = λ t a b. R.nodes t (omega arith) b }

-- ---- a store

-- as before, but for the words of the nodes from the top on
pub record Framed (top : ℕ) (old now : List ℕ) : Type 0 where
  pub long : length now ≡ length old
  pub front : (i : ℕ) → i < 514 + top → get_or now i 0 ≡ get_or old i 0
  pub behind : (i : ℕ) → 1026 ≤ i → get_or now i 0 ≡ get_or old i 0

pub framed_start : (top : ℕ) (work : List ℕ) → Framed top work work
framed_start top work = record { long = refl; front = λ i h. refl; behind = λ i h. refl }

pub framed_left : {top : ℕ} {old now : List ℕ} → Framed top old now → (w : ℕ) → w ≤ 256 → left_in now w ≡ left_in old w
framed_left F w h = left_eq (F.front w (omega arith)) (F.front (257 + w) (omega arith))

pub framed_set : {top : ℕ} {old now : List ℕ} → Framed top old now → (t v : ℕ) → top ≤ t → t < 512 → Framed top old (set now (514 + t) v)
framed_set {top} {old} {now} F t v h l = record {
  long = length-set now (514 + t) v ∙ F.long;
  front = λ i k. get_or-set_other now (514 + t) i v 0 (λ e. omega arith) ∙ F.front i k;
  behind = λ i k. get_or-set_other now (514 + t) i v 0 (λ e. omega arith) ∙ F.behind i k;
}

-- node t gets its word, where those behind it have theirs, and those from y on up to it
pub ranked_set : {t : ℕ} {work : List ℕ} → NodesPlayed t work → 0 < t → t < 512 → {v : ℕ} → v ≡ node_word (left_in work) t → (y : ℕ) → ((u : ℕ) → y < u → u < t → get_or work (514 + u) 0 ≡ node_word (left_in work) u) → NodesPlayed y (set work (514 + t) v)
ranked_set {t} {work} R h l {v} e y between = record {
  room = omega (arith, R.room, length-set work (514 + t) v);
  nodes = λ u a b. by_eq u t
      (λ (q : u ≡ t). rw q (get_or-set_same work (514 + t) v 0 (omega (arith, R.room)) ∙ e ∙ sym (same t h l)))
      (λ d. get_or-set_other work (514 + t) (514 + u) v 0 (λ z. d (omega arith)) ∙ by_le t u (λ m. R.nodes u (omega (arith, d)) b) (λ m. between u a m) ∙ sym (same u (omega arith) b));
}
  where
    same : (u : ℕ) → 0 < u → u < 512 → node_word (left_in (set work (514 + t) v)) u ≡ node_word (left_in work) u
    same u z b = node_same (left_in (set work (514 + t) v)) (left_in work) (λ w k. left_kept work (514 + t) v (omega arith) w k) u z b

-- what is behind the nodes has no say
pub ranked_behind : {y : ℕ} {work : List ℕ} → NodesPlayed y work → (i v : ℕ) → 1026 ≤ i → NodesPlayed y (set work i v)
ranked_behind {y} {work} R i v h = record {
  room = omega (arith, R.room, length-set work i v);
  nodes = λ t a b. get_or-set_other work i (514 + t) v 0 (λ z. omega arith) ∙ R.nodes t a b ∙ sym (node_same (left_in (set work i v)) (left_in work) (λ w k. left_kept work i v (omega arith) w k) t (omega arith) b);
}
