-- What it means that a function's contract says something, and that it leaves one answer only. `Post` is the contract itself, as it
-- is read from the code: of the arguments a, of the result u and of the parameters at exit x.
use mathlib.Core.Path.{◌≡◌}
use mathlib.Core.List.{List}
use Prim.Native.Nat.{ℕ}
use contract.Lifetimes.{Lfts}
use denote.Triple.Clauses.{AtExit}
use borrow.Fn.Kinds.{ParamKind, ResultKind, Out, Dens, res_t, ended_of}

-- a claim about arguments, result and parameters at exit
abbrev pub Claim : (n : ℕ) (ps : List (ParamKind n)) (r : ResultKind n) → Type 1
Claim n ps r = (κs : Lfts n) → Dens κs ps → (res_t r κs).Denot → AtExit (ended_of n ps r) κs → Type 0

-- every call that meets the contract has it
abbrev pub Says : (n : ℕ) (ps : List (ParamKind n)) (r : ResultKind n) → Out n ps r → Claim n ps r → Type 0
Says n ps r Post C = (κs : Lfts n) (a : Dens κs ps) (u : (res_t r κs).Denot) (x : AtExit (ended_of n ps r) κs) → Post κs a u x → C κs a u x

-- what is seen of a result and of the parameters at exit
abbrev pub View : (n : ℕ) (ps : List (ParamKind n)) (r : ResultKind n) → Type 0 → Type 0
View n ps r B = (κs : Lfts n) → (res_t r κs).Denot → AtExit (ended_of n ps r) κs → B

-- two calls with the same arguments that meet the contract are told apart by nothing that `view` sees of result and buffers
abbrev pub OneAnswer : (n : ℕ) (ps : List (ParamKind n)) (r : ResultKind n) → Out n ps r → {B : Type 0} → View n ps r B → Type 0
OneAnswer n ps r Post view =
    (κs : Lfts n) (a : Dens κs ps) (u v : (res_t r κs).Denot) (x y : AtExit (ended_of n ps r) κs) → Post κs a u x → Post κs a v y → view κs u x ≡ view κs v y
