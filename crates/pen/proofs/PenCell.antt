-- A `Pen` in a local: its row, its machine value, and the step to what can be lent, and back. For another struct, change the two definitions.
use Prim.Native.Nat.{ℕ, ◌<◌, ◌^◌}
use mathlib.Core.List.{[], ◌∷◌, List}
use seplogic.Ra.Ura.{Ura}
use base.Fraction.{full_share}
use mir.Syntax.{w64}
use mir.Val.{Val, vint, vstruct, vnil, vcons, WT, has_ty}
use base.Logic.{ent}
use base.Fml.{fsep, fat, Fml}
use types.Logic.{Logic, sem}
use types.Kit.{‵, ◌$◌, ◌∵◌, !, qed, move, keep, use1, fpick, fpack, fsplit, fjoin, done}
use denote.RattleType.{RattleType}
use denote.Memory.{part_of, part_at, cell_at}
use denote.Laws.{Is, shows}
use denote.Steps.{owned}
use denote.Struct.Steps.{spelt}
use denote.Struct.Laws as LL
use Rattle.pen.specs.declared.Pen.{Pen}
use Rattle.pen.specs.contracts.Pen as P
use Rattle.pen.proofs.Pen.TheLaws as P'
use mathlib.Core.Path.{refl}
use lib.ListN.{length}
use lib.Dec.{T as Holds}
use native.Mathlib.Omega.{arith}
use Rattle.pen.specs.Lines.{Fits}

-- its row
abbrev pub R : RattleType
R = P.the_row

-- its machine value
abbrev pub mach : Pen → Val
mach z = vstruct (vcons (vint w64 z.place) (vcons (vint w64 z.room) vnil))

-- the pen in a local at l
abbrev pub cell : ℕ → Pen → Fml
cell l z = fat full_share P'.mir l 0 (mach z)

-- a pen whose place and room are those of a text is a pen of the machine
pub pen_is : (z : Pen) (zs : List ℕ) → Fits z zs → length zs < 2 ^ 64 → Is R z (mach z ∷ [])
pen_is z zs f few =
    let place-fits : z.place < 2 ^ 64 = omega (arith, f) in
    let room_fits : z.room < 2 ^ 64 = omega (arith, f) in
    LL.owes P.the_type P'.the_laws z ((refl, place-fits), ((refl, room_fits), tt))

-- and so it has the local's type
pub pen_typed : {M : Type 1} {𝓤 : Ura M} (𝓛 : Logic 𝓤) → (z : Pen) → Is R z (mach z ∷ []) → Holds (has_ty P'.mir (mach z)) × WT (mach z)
pen_typed 𝓛 z is = ((LL.lawful P.the_type P'.the_laws 𝓛).typed z (mach z ∷ []) is).0

-- a record in a local, as what can be lent, and back
module _ {M : Type 1} {𝓤 : Ura M} (𝓛 : Logic 𝓤) (z : Pen) (b o : ℕ) where
  open 𝓛 use {H}

  pub pen_in : Is R z (mach z ∷ []) → ent 𝓤 (H.at full_share P'.mir b o (mach z)) (sem 𝓛 (part_at R full_share z b o))
  unfolding part_of
  pen_in g =
      qed 𝓛 (‵ (fat full_share P'.mir b o (mach z)) ∷ []) ∵ use1 𝓛 (‵ (cell_at full_share R.mir (mach z ∷ []) b o)) (𝓛.laws.at_raw full_share P'.mir b o (mach z)) $ owned ! R (Is R) (LL.makes P.the_type P'.the_plain 𝓛) z _ g $ move ! (1 ∷ 0 ∷ []) $ fjoin ! $
      fpack ! (List Val) (λ vs. fsep (cell_at full_share R.mir vs b o) (R.own_val z vs)) (mach z ∷ []) $ done !

  pub pen_out : ent 𝓤 (sem 𝓛 (part_at R full_share z b o)) (H.at full_share P'.mir b o (mach z))
  unfolding part_of
  pen_out =
      qed 𝓛 (‵ (part_at R full_share z b o) ∷ []) ∵ fpick ! (λ vs. fsplit ! $ spelt ! R (Is R) (shows 𝓛 R) (LL.vals P.the_type P'.the_laws) (LL.tells P.the_type P'.the_laws) full_share z vs b o $ keep ! (0 ∷ []) $
      use1 𝓛 (‵ (fat full_share P'.mir b o (mach z))) (𝓛.laws.raw_at full_share P'.mir b o (mach z)) $ done !)
