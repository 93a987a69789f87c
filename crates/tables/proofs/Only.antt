-- One answer only: two results that meet a function's contract are equal. `Post` is the contract itself, as it is read from the code.
use Rattle.std.proofs.Common.{◌≡◌, ℕ, IfOk, List, Result, Ok, Err, refl, ap, ap₂, sym, ◌∙◌, arith}
use Rattle.words.proofs.OneAnswer.{OneAnswer}
use Rattle.refusal.specs.declared.Refusal.{Refusal}
use Rattle.refusal.proofs.Said.{same_refusal}
use Rattle.tables.specs.Check.{check_said}
use Rattle.tables.specs.Accepted.{words_or_refusal}
use Rattle.tables.specs.declared.accepted.Tables.{Tables}
use Rattle.tables.proofs.check_tables.Kinds as check_tables_kinds
use Rattle.tables.proofs.check_tables.Reads as check_tables
use Rattle.tables.proofs.accept.Kinds as accept_kinds
use Rattle.tables.proofs.accept.Reads as accept
use Rattle.tables.proofs.accepted.Tables.contexts.Kinds as contexts_kinds
use Rattle.tables.proofs.accepted.Tables.contexts.Reads as contexts
use Rattle.tables.proofs.accepted.Tables.context.Kinds as context_kinds
use Rattle.tables.proofs.accepted.Tables.context.Reads as context

abbrev Holds : List ℕ → List ℕ → Result Tables Refusal → Type 0
Holds os cs r = IfOk r (λ tables. (tables.offsets.now ≡ os) × (tables.codes.now ≡ cs))

one_accept : (os cs : List ℕ) (u v : Result Tables Refusal) → check_said u ≡ check_said v → Holds os cs u → Holds os cs v → words_or_refusal u ≡ words_or_refusal v
one_accept os cs (Ok s) (Ok t) e h k = ap Ok (ap₂ (λ a b. (a, b)) (h.0 ∙ sym k.0) (h.1 ∙ sym k.1))
one_accept os cs (Ok s) (Err r) e h k = let z : ◌≡◌ {A = ℕ} 0 1 = cc e in absurd (omega arith)
one_accept os cs (Err r) (Ok t) e h k = let z : ◌≡◌ {A = ℕ} 0 1 = cc e in absurd (omega arith)
one_accept os cs (Err r) (Err s) e h k = ap Err (same_refusal r s (cc e) (cc e))

pub accept_only : OneAnswer 2 accept_kinds.ps accept_kinds.r accept.Post (λ κs u x. words_or_refusal u)
accept_only κs a u v x y p q = one_accept _ _ u v (p.0 ∙ sym q.0) p.1 q.1

one_check : (u v : Result Unit Refusal) → check_said u ≡ check_said v → u ≡ v
one_check (Ok s) (Ok t) e = refl
one_check (Ok s) (Err r) e = let z : ◌≡◌ {A = ℕ} 0 1 = cc e in absurd (omega arith)
one_check (Err r) (Ok t) e = let z : ◌≡◌ {A = ℕ} 0 1 = cc e in absurd (omega arith)
one_check (Err r) (Err s) e = ap Err (same_refusal r s (cc e) (cc e))

pub check_tables_only : OneAnswer 2 check_tables_kinds.ps check_tables_kinds.r check_tables.Post (λ κs u x. u)
check_tables_only κs a u v x y p q = one_check u v (p ∙ sym q)

pub contexts_only : OneAnswer 2 contexts_kinds.ps contexts_kinds.r contexts.Post (λ κs u x. u)
contexts_only κs a u v x y p q = p ∙ sym q

-- the part that is handed back holds the same codes
pub context_only : OneAnswer 2 context_kinds.ps context_kinds.r context.Post (λ κs u x. u.now)
context_only κs a u v x y p q = p ∙ sym q
