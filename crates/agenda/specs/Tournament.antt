-- The tournament of the contexts: a tree of 256 leaves, in which each node has the context under it whose next event comes first.
-- Node 1 is the root, the nodes below node t are 2 t and 2 t + 1, and from 256 on they are the contexts themselves.
-- Few contexts play in a subtree, and no node above its top is in use.
-- A context is told by its word, one more than its number, and 0 is none. What is left of each is a fraction, the ceiling of its next place.
use Rattle.std.specs.Prelude.{cond, List, ◌≡◌, ℕ, zero, suc, ◌+◌, ◌-◌, ◌*◌, ◌≤◌, ◌<◌, eqb, ltb, leb, length, get_or}
use Rattle.site.specs.Site.{Site, size_of}
use Rattle.walk.specs.declared.Fraction.{Fraction}
use Rattle.walk.specs.Fractions.{lower}
use Rattle.agenda.specs.Layout.{agenda_room}
use Rattle.agenda.specs.declared.Contender.{Contender}

-- ---- what is left of the context of a word

-- where n says how far each context has come; none has nothing left
unfoldable pub left_of : Site → (ℕ → ℕ) → ℕ → Fraction
left_of site n zero = record { num = 0; den = 1 }
left_of site n (suc i) = record { num = size_of site i - n i; den = size_of site i }

-- by the words of the work area
abbrev pub left_in : List ℕ → ℕ → Fraction
left_in work w = record { num = get_or work w 0; den = get_or work (257 + w) 0 }

-- ---- the nodes

-- the word of a leaf: that of its context, or 0 where nothing is left of it
unfoldable pub leaf_word : ℕ → ℕ → ℕ
leaf_word left w = cond (eqb left 0) 0 w

module _ (f : ℕ → Fraction) where
  -- the same, where f says what is left
  abbrev pub own_word : ℕ → ℕ
  own_word w = leaf_word (f w).num w

  -- of two words that with the higher ceiling, and the first at equal ones
  unfoldable pub winner : ℕ → ℕ → ℕ
  winner a b = cond (lower (f a) (f b)) b a

  -- the word of node t, where at most m levels are below it
  unfoldable pub word_in : ℕ → ℕ → ℕ
  word_in zero t = own_word (t - 255)
  word_in (suc m) t = cond (ltb t 256) (winner (word_in m (2 * t)) (word_in m (2 * t + 1))) (own_word (t - 255))

  -- the word of node t
  unfoldable pub node_word : ℕ → ℕ
  node_word t = word_in 8 t

  -- a word, with what is left of its context
  unfoldable pub contender_of : ℕ → Contender
  contender_of w = record { word = w; left = f w }

  -- the contender of node t
  abbrev pub contender_at : ℕ → Contender
  contender_at t = contender_of (node_word t)

-- the one of two with the higher ceiling; at equal ones the first, and the second where the margin is 1
unfoldable pub ahead_by : ℕ → Contender → Contender → Contender
ahead_by margin a b = cond (ltb (a.left.num * b.left.den) (b.left.num * a.left.den + margin)) b a

-- ---- few contexts

-- the top of the subtree in which n contexts play: node 8 has 32 leaves under it, node 4 has 64 and node 2 has 128
unfoldable pub top_node : ℕ → ℕ
top_node n = cond (leb n 32) 8 (cond (leb n 64) 4 (cond (leb n 128) 2 1))

-- ---- in the work area

-- the nodes behind y have their words
pub record NodesPlayed (y : ℕ) (work : List ℕ) : Type 0 where
  pub room : agenda_room ≤ length work
  pub nodes : (t : ℕ) → y < t → t < 512 → get_or work (514 + t) 0 ≡ node_word (left_in work) t

-- the context of word w has come one place further: the nodes from the top on have their words, and else there is what stood there
pub record Moved (top w : ℕ) (old now : List ℕ) : Type 0 where
  pub ranked : NodesPlayed (top - 1) now
  pub here : get_or now w 0 ≡ get_or old w 0 - 1
  pub other : (i : ℕ) → i < 514 + top → (i ≡ w → ⊥) → get_or now i 0 ≡ get_or old i 0
  pub behind : (i : ℕ) → 1026 ≤ i → get_or now i 0 ≡ get_or old i 0
