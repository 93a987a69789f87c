-- Slices as they are passed to a call, and a text that is lent again for the time of a call.
use mathlib.Core.Path.{◌≡◌, sym, ap, ◌∙◌}
use Prim.Native.Nat.{ℕ}
use mathlib.Core.List.{[], ◌∷◌, List}
use lib.ListN.{length}
use seplogic.Ra.Ura.{Ura}
use base.Fraction.{full_share}
use mir.Syntax.{named, erased}
use mir.Val.{Val}
use base.Logic.{ent}
use base.Fml.{Fml, GName, Lft, Share, flft}
use types.Logic.{Logic}
use types.Kit.{Item, ‵, raw, some, given, later, mean, ◌⊛◌, ⋆, ◌$◌, ◌∵◌, !, qed, use2, use3, split, pick, learn, fsplit, fjoin, feq_l, feq_i, show, await, updating, now as at_once, done}
use denote.Builtin.{u8, u16}
use denote.MutBor.{MutBor, as_bor}
use denote.Slice.{slice_val, MutSlice, ShrSlice, finally, mut_slice_vals}
use borrow.Rule.Slice.Lend.{kept_f, sl_relend, sl_relent_backˡ}
use borrow.Table.Owned as Owned

-- a slice as it is passed: for which lifetime, with which share of its token
pub record LentSlice : Type 0 where
  pub lft : Lft
  pub share : Share
  pub ref : MutBor (List ℕ)

-- its token
abbrev pub token : LentSlice → Fml
token p = flft p.lft p.share

-- its machine value
abbrev pub slot : LentSlice → Val
slot p = slice_val p.ref.ref_ptr (length p.ref.now)

-- what it owns as a key
abbrev pub Key : LentSlice → Fml
Key p = (ShrSlice (named 2) p.lft u8).own_val (as_bor p.ref) (slot p ∷ [])

-- what it owns as numbers
abbrev pub Numbers : LentSlice → Fml
Numbers p = (ShrSlice (named 3) p.lft u16).own_val (as_bor p.ref) (slot p ∷ [])

-- what a text owns, at the machine value s
abbrev pub Text : LentSlice → Val → Fml
Text p s = (MutSlice (named 0) p.lft u8).own_val p.ref (s ∷ [])

-- the text with other bytes
abbrev pub holding : LentSlice → List ℕ → LentSlice
holding p zs = record { lft = p.lft; share = p.share; ref = record { ref_ptr = p.ref.ref_ptr; ghost_name = p.ref.ghost_name; now = zs } }

-- the text lent again for ν under the name γ
abbrev pub again : LentSlice → ℕ → GName → LentSlice
again p ν γ = record { lft = ν ∷ []; share = full_share; ref = record { ref_ptr = p.ref.ref_ptr; ghost_name = γ; now = p.ref.now } }

-- what its lender keeps meanwhile
abbrev pub SliceKept : {M : Type 1} {𝓤 : Ura M} (𝓛 : Logic 𝓤) → LentSlice → ℕ → GName → Item 𝓤
SliceKept 𝓛 t ν γ = kept_f 𝓛 u8 t.lft t.share (ν ∷ []) t.ref.ghost_name γ t.ref.now t.ref.ref_ptr.0 t.ref.ref_ptr.1

module _ {M : Type 1} {𝓤 : Ura M} (𝓛 : Logic 𝓤) (t : LentSlice) (s : Val) (is : s ∷ [] ≡ mut_slice_vals t.ref) (ν : ℕ) where
  -- the text is lent again
  open 𝓛 use {A}

  pub text_lent : ent 𝓤 (⋆ 𝓛 (‵ (Text t s) ∷ ‵ (token t) ∷ [])) (mean 𝓛 (later (some (λ (γ : GName). ‵ (Text (again t ν γ) s) ⊛ SliceKept 𝓛 t ν γ))))
  text_lent =
      qed 𝓛 (‵ (Text t s) ∷ ‵ (token t) ∷ []) ∵ updating ! $ fsplit ! $ fsplit ! $ feq_l ! (λ e. fjoin ! $
      use2 𝓛 (later (some (λ (γ : GName). ‵ ((Owned.MutSlice erased (ν ∷ []) u8).own_val (again t ν γ).ref) ⊛ SliceKept 𝓛 t ν γ))) (sl_relend 𝓛 u8 t.lft t.share (ν ∷ []) t.ref.ref_ptr.0 t.ref.ref_ptr.1 t.ref.ghost_name t.ref.now) $
      await ! tt $ pick ! (λ γ. split ! $ fsplit ! $ feq_i ! (List Val) (s ∷ []) (mut_slice_vals t.ref) is $ fjoin ! $ fjoin ! $ at_once ! $
      show ! (λ (δ : GName). mean 𝓛 (‵ (Text (again t ν δ) s) ⊛ SliceKept 𝓛 t ν δ)) γ $ done !))

  -- and comes back with the bytes zs
  pub text_back : (γ : GName) (zs : List ℕ) → ent 𝓤 (⋆ 𝓛 (raw (A.dead (ν ∷ [])) ∷ SliceKept 𝓛 t ν γ ∷ ‵ (finally u8 γ zs) ∷ [])) (mean 𝓛 (later (‵ (Text (holding t zs) s) ⊛ ‵ (token t))))
  text_back γ zs =
      qed 𝓛 (raw (A.dead (ν ∷ [])) ∷ SliceKept 𝓛 t ν γ ∷ ‵ (finally u8 γ zs) ∷ []) ∵ updating ! $
      use3 𝓛 (later (given (length zs ≡ length t.ref.now) (‵ ((Owned.MutSlice erased t.lft u8).own_val (holding t zs).ref) ⊛ ‵ (token t)))) (sl_relent_backˡ 𝓛 u8 t.lft t.share (ν ∷ []) t.ref.ref_ptr.0 t.ref.ref_ptr.1 t.ref.ghost_name γ t.ref.now zs) $
      await ! tt $ learn ! (λ l. split ! $ fsplit ! $ feq_i ! (List Val) (s ∷ []) (mut_slice_vals (holding t zs).ref) (is ∙ ap (λ (m : ℕ). slice_val t.ref.ref_ptr m ∷ []) (sym l)) $ fjoin ! $ fjoin ! $ at_once ! $ done !)
