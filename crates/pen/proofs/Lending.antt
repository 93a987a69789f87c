-- One call of `line` as its callers see it: they lend it a text and a pen in a local, both for the time of the call only, and have both
-- back as `line` left them. Of `line` only its contract is used. A walk by hand takes this once for each line.
use mathlib.Core.Path.{◌≡◌, refl, ap}
use Prim.Native.Nat.{ℕ}
use mathlib.Core.List.{[], ◌∷◌, ◌++◌, List}
use lib.ListN.{length}
use seplogic.Ra.Ura.{Ura}
use base.Fraction.{full_share}
use mir.Syntax.{named, Place, Opd as Operand, Body as Code, seq, call}
use mir.Val.{Val, vptr, vunit}
use base.Logic.{SProp, ent, id⊢}
use base.Fml.{Fml, GName, ftrue, flft, flent}
use prog.Memory.{Memory}
use prog.Routine.{Routine}
use prog.Wp.{Env, Calls, Loops}
use types.Logic.{Logic}
use contract.Monad.{Fun, fact}
use types.Kit.{Item, Post, Seq, runs, lands, ‵, raw, some, given, later, mean, ◌⊛◌, ⋆, ◌$◌, ◌∵◌, !, qed, cut, move, keep, drop, use1, use2, use3, split, join, pick, learn, fsplit, fjoin, feq_l, regoal, show, check, await, updating, now as at_once, done}
use types.Run.{Opds}
use types.SemTy.{Body}
use types.Tokens.{lft_new, lft_end}
use sound.WpLaws.{FmC}
use denote.Memory.{mem, part_at}
use denote.Laws.{Is}
use denote.Builtin.{u8, unit}
use denote.MutBor.{MutBor, as_bor}
use denote.Ref.{MutRef}
use denote.Slice.{finally, mut_slice_vals}
use denote.Steps.{heard, nothing, only}
use denote.Lend.{lends_ref, ref_back}
use denote.Triple.Spec.{triple_of}
use denote.Triple.Statement.{Contract, Triple}
use denote.Triple.Call.{calls_at}
use denote.Triple.Clauses.{ensured, lasts}
use denote.Triple.Walked.{says}
use Rattle.sheet.specs.Text.{line_text}
use Rattle.pen.specs.declared.Pen.{Pen}
use Rattle.pen.specs.Lines.{Fits, Lined}
use Rattle.pen.proofs.PenCell.{R, mach, cell, pen_in, pen_out}
use Rattle.pen.specs.contracts.line as line
use Rattle.pen.proofs.line.Symbol.{name as #pen·line}
use Rattle.pen.proofs.Passed.{LentSlice, token, slot, Key, Numbers, Text, holding, again, SliceKept, text_lent, text_back}

-- the contract that is cited
abbrev pub LineTriple : {M : Type 1} {𝓤 : Ura M} (𝓛 : Logic 𝓤) (at_mem : Memory → SProp 𝓤) (run : Routine → Fun 𝓤) → Contract 𝓤
LineTriple 𝓛 at_mem run = triple_of 𝓛 line.signature (line.spec 𝓛 at_mem run)

-- what the lender of the local at l keeps: lent for the lifetime and under the name g
abbrev pub Lender : ℕ → ℕ × GName → Fml
Lender l g = flent (g.0 ∷ []) (Body (mem R) l 0 g.1)

module _ {M : Type 1} {𝓤 : Ura M} (𝓛 : Logic 𝓤) where
  -- the pen in the local at l is lent for ν, and is taken back as `line` left it; the text is given to it for good
  open 𝓛 use {H}

  module _ (at_mem : Memory → SProp 𝓤) (run : Routine → Fun 𝓤) (t : LentSlice) (s : Val) (h : Pen) (k n : LentSlice) (l : ℕ) where
    -- what `line` makes of the pen and the text
    abbrev Done : Pen → List ℕ → Type 0
    Done z zs = Lined (line_text k.ref.now n.ref.now) t.ref.now zs h z

    -- the loan of the local under the name δ
    abbrev pub lent : GName → MutBor Pen
    lent δ = record { ref_ptr = (l, 0); ghost_name = δ; now = h }

    -- what `line`'s triple binds outside: the slices as they are passed, and the local, lent for ν under the name δ
    abbrev pub to_line : ℕ × GName → (LineTriple 𝓛 at_mem run).Ghost
    to_line g = (((t.lft, (g.0 ∷ [], (k.lft, (n.lft, tt)))), (t.share, (full_share, (k.share, (n.share, tt)))), tt, (t.ref, (lent g.1, (as_bor k.ref, (as_bor n.ref, tt)))), (s ∷ [], (vptr l 0 ∷ [], (slot k ∷ [], (slot n ∷ [], tt))))), tt)

    -- what the caller hands over
    abbrev pub line_asks : List (Item 𝓤)
    line_asks = ‵ (cell l h) ∷ ‵ (token t) ∷ ‵ (token k) ∷ ‵ (token n) ∷ ‵ (Text t s) ∷ ‵ (Key k) ∷ ‵ (Numbers n) ∷ []

    -- it is what `line` asks, once the local is lent
    before : Is R h (mach h ∷ []) → Fits h t.ref.now → ent 𝓤 (⋆ 𝓛 line_asks) (mean 𝓛 (later (some (λ (g : ℕ × GName). raw ((LineTriple 𝓛 at_mem run).pre (to_line g)) ⊛ ‵ (Lender l g)))))
    before is within =
        qed 𝓛 line_asks ∵ updating ! $ use1 𝓛 (‵ (part_at R full_share h l 0)) (pen_in 𝓛 h l 0 is) $ lft_new ! tt (λ ν. move ! (1 ∷ []) $
        use1 𝓛 (later (some (λ (δ : GName). ‵ ((MutRef (named 1) (ν ∷ []) R).own_val (lent δ) (vptr l 0 ∷ [])) ⊛ ‵ (Lender l (ν, δ))))) (lends_ref 𝓛 R (named 1) (ν ∷ []) h l 0) $
        await ! tt $ pick ! (λ δ. split ! $ at_once ! $ show ! (λ (g : ℕ × GName). mean 𝓛 (raw ((LineTriple 𝓛 at_mem run).pre (to_line g)) ⊛ ‵ (Lender l g))) (ν, δ) $
        -- [the loan; the lender's part; the new token; the tokens of text, key and numbers; what these own]
        nothing ! $ move ! (6 ∷ 0 ∷ []) $ join ! $ move ! (5 ∷ 0 ∷ []) $ join ! $ move ! (3 ∷ 0 ∷ []) $ join ! $ move ! (3 ∷ 0 ∷ []) $ join ! $
        -- [the tokens; the loan; the lender's part; what text, key and numbers own]
        nothing ! $ move ! (6 ∷ 0 ∷ []) $ fjoin ! $ move ! (5 ∷ 0 ∷ []) $ fjoin ! $ move ! (2 ∷ 0 ∷ []) $ fjoin ! $ move ! (3 ∷ 0 ∷ []) $ fjoin ! $ move ! (1 ∷ 0 ∷ []) $ join ! $
        use1 𝓛 (raw ((LineTriple 𝓛 at_mem run).pre (to_line (ν, δ)))) (qed 𝓛 (raw _ ∷ []) ∵ says ! within $ done !) $ done !))

    -- what the call tells of the pen and the text that it leaves
    abbrev LineTold : Val → Pen × List ℕ → Type 0
    LineTold w z = (w ≡ vunit) × (Done z.0 z.1 × (length z.1 ≡ length t.ref.now))

    -- what it gives back: the local, the tokens, and the text's last bytes
    abbrev back : Val → Item 𝓤
    back w = later (some (λ (z : Pen × List ℕ). given (LineTold w z) (‵ (cell l z.0) ⊛ ‵ (token t) ⊛ ‵ (token k) ⊛ ‵ (token n) ⊛ ‵ (finally u8 t.ref.ghost_name z.1))))

    -- the local is taken back
    after : (g : ℕ × GName) (w : Val) → ent 𝓤 (⋆ 𝓛 (raw ((LineTriple 𝓛 at_mem run).post (to_line g) w) ∷ ‵ (Lender l g) ∷ [])) (mean 𝓛 (back w))
    after g w =
        qed 𝓛 (raw ((LineTriple 𝓛 at_mem run).post (to_line g) w) ∷ ‵ (Lender l g) ∷ []) ∵ updating ! $
        use1 𝓛 (later (some (λ (r : Unit {0}). ((‵ (token t) ⊛ ‵ (flft (g.0 ∷ []) full_share) ⊛ ‵ (token k) ⊛ ‵ (token n) ⊛ ‵ ftrue) ⊛ ‵ (unit.own_val r (w ∷ []))) ⊛ raw (ensured 𝓛 line.ended (line.clauses 𝓛 at_mem run) (to_line g).0.0 (to_line g).0.3 tt r)))) (id⊢ 𝓤 _) $ await ! tt $ pick ! (λ r.
        -- what `line` ensures, at some last text and pen
        split ! $ move ! (1 ∷ []) $ use1 𝓛 (some (λ (zs : List ℕ × (Pen × (Unit {0} × (Unit {0} × Unit {0})))). ‵ (lasts line.ended (to_line g).0.0 (to_line g).0.3 zs) ⊛ raw (fact 𝓤 (Done zs.1.0 zs.0)))) (id⊢ 𝓤 _) $ pick ! (λ zs.
        split ! $ move ! (1 ∷ []) $ heard ! (Done zs.1.0 zs.0) (λ e. fsplit ! $ fsplit ! $ fsplit ! $ move ! (1 ∷ []) $ feq_l ! (λ same. move ! (1 ∷ []) $ drop ! $ move ! (1 ∷ []) $ fsplit ! $ fsplit ! $ move ! (1 ∷ []) $ drop ! $ move ! (3 ∷ []) $ split ! $ move ! (1 ∷ []) $ feq_l ! (λ u.
        -- [the tokens; the last pen; …; the last text; the lender's part]
        split ! $ move ! (1 ∷ []) $ split ! $ lft_end ! tt $ move ! (0 ∷ 6 ∷ 3 ∷ []) $ use3 𝓛 (later (‵ (part_at R full_share zs.1.0 l 0))) (ref_back 𝓛 R (g.0 ∷ []) g.1 zs.1.0 l 0) $ await ! tt $
        use1 𝓛 (‵ (cell l zs.1.0)) (pen_out 𝓛 zs.1.0 l 0) $ move ! (1 ∷ []) $ split ! $ move ! (1 ∷ []) $ split ! $
        -- [the numbers' token; …; the key's token; the local; the text's token; …; the last text]
        at_once ! $ show ! (λ (z : Pen × List ℕ). mean 𝓛 (given (LineTold w z) (‵ (cell l z.0) ⊛ ‵ (token t) ⊛ ‵ (token k) ⊛ ‵ (token n) ⊛ ‵ (finally u8 t.ref.ghost_name z.1)))) (zs.1.0, zs.0) $
        check ! (ap only u, (e, same)) $ keep ! (3 ∷ 4 ∷ 2 ∷ 0 ∷ 6 ∷ []) $ done !)))))

    -- the call itself, between the two
    module _ {C : Calls 𝓤 H} (mono : FmC 𝓤 H 𝓛.laws C) (known : Triple 𝓤 (C #pen·line) (LineTriple 𝓛 at_mem run)) {K : Type 0} {Γ : List (Item 𝓤)} {E : Env 𝓤 H} {Λ : Loops 𝓤 H} {q : Post 𝓤 H} {d : Place} {xs : List Operand} {rest : Code} where
      lends : K → Is R h (mach h ∷ []) → Fits h t.ref.now
          → ((g : ℕ × GName) → Opds K 𝓛 (raw ((LineTriple 𝓛 at_mem run).pre (to_line g)) ∷ ‵ (Lender l g) ∷ Γ) E xs (s ∷ vptr l 0 ∷ slot k ∷ slot n ∷ []))
          → ((z : Pen) (zs : List ℕ) → Done z zs → length zs ≡ length t.ref.now → Seq K 𝓛 (‵ (cell l z) ∷ ‵ (token t) ∷ ‵ (token k) ∷ ‵ (token n) ∷ ‵ (finally u8 t.ref.ghost_name zs) ∷ Γ) (lands C Λ E d vunit rest q))
          → Seq K 𝓛 (line_asks ++ Γ) (runs C Λ E (seq (call #pen·line xs d) rest) q)
      lends i is within ops go =
          cut line_asks (later (some (λ (g : ℕ × GName). raw ((LineTriple 𝓛 at_mem run).pre (to_line g)) ⊛ ‵ (Lender l g))) ∷ []) Γ (before is within) $ await i tt $ pick i (λ g. split i $
          calls_at i mono (LineTriple 𝓛 at_mem run) known (to_line g) (ops g) (λ w. use2 𝓛 (back w) (after g w) $ await i tt $ pick i (λ z. learn i (λ told.
          split i $ move i (1 ∷ []) $ split i $ move i (1 ∷ []) $ split i $ move i (1 ∷ []) $ split i $ move i (4 ∷ 3 ∷ 2 ∷ 0 ∷ 1 ∷ []) $
          regoal i (λ (v : Val). lands C Λ E d v rest q) told.0 refl $ go z.0 z.1 told.1.0 told.1.1))))

  -- the call with the text lent too: text and pen are had again
  module _ (at_mem : Memory → SProp 𝓤) (run : Routine → Fun 𝓤) {C : Calls 𝓤 H} (mono : FmC 𝓤 H 𝓛.laws C) (known : Triple 𝓤 (C #pen·line) (LineTriple 𝓛 at_mem run)) (t : LentSlice) (s : Val) (at : s ∷ [] ≡ mut_slice_vals t.ref) (h : Pen) (k n : LentSlice) (l : ℕ) {K : Type 0} {Γ : List (Item 𝓤)} {E : Env 𝓤 H} {Λ : Loops 𝓤 H} {q : Post 𝓤 H} {d : Place} {xs : List Operand} {rest : Code} where
    pub lends_both : K → Is R h (mach h ∷ []) → Fits h t.ref.now
        → ((ν : ℕ) (γ : GName) (g : ℕ × GName) → Opds K 𝓛 (raw ((LineTriple 𝓛 at_mem run).pre (to_line at_mem run (again t ν γ) s h k n l g)) ∷ ‵ (Lender l g) ∷ SliceKept 𝓛 t ν γ ∷ Γ) E xs (s ∷ vptr l 0 ∷ slot k ∷ slot n ∷ []))
        → ((z : Pen) (zs : List ℕ) → Lined (line_text k.ref.now n.ref.now) t.ref.now zs h z → length zs ≡ length t.ref.now → Seq K 𝓛 (‵ (cell l z) ∷ ‵ (token t) ∷ ‵ (token k) ∷ ‵ (token n) ∷ ‵ (Text (holding t zs) s) ∷ Γ) (lands C Λ E d vunit rest q))
        → Seq K 𝓛 (line_asks at_mem run t s h k n l ++ Γ) (runs C Λ E (seq (call #pen·line xs d) rest) q)
    lends_both i is within ops go =
        lft_new i tt (λ ν. move i (5 ∷ 2 ∷ []) $ use2 𝓛 (later (some (λ (γ : GName). ‵ (Text (again t ν γ) s) ⊛ SliceKept 𝓛 t ν γ))) (text_lent 𝓛 t s at ν) $ await i tt $ pick i (λ γ. split i $
        -- [the text lent again; what is kept; the new token; the local; the tokens of key and numbers; what these own]
        move i (3 ∷ 2 ∷ 4 ∷ 5 ∷ 0 ∷ 6 ∷ 7 ∷ []) $ lends at_mem run (again t ν γ) s h k n l mono known i is within (ops ν γ) (λ z zs e same.
        -- [the local; the new token; the tokens of key and numbers; the last text; what is kept]
        move i (1 ∷ []) $ lft_end i tt $ move i (0 ∷ 5 ∷ 4 ∷ []) $ use3 𝓛 (later (‵ (Text (holding t zs) s) ⊛ ‵ (token t))) (text_back 𝓛 t s at ν γ zs) $ await i tt $ split i $
        move i (2 ∷ 1 ∷ 3 ∷ 4 ∷ 0 ∷ []) $ go z zs e same)))
