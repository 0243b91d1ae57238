-- Demand 1: "Each entry point takes every frame, list, port table, round and line answer there can be, and ends. Bad input is refused there,
-- by its number in document 01, with no prior check expected of the caller. A refused call changes not one byte that was lent to it."
-- Assumes nothing.
use Rattle.std.specs.Prelude.{◌≡◌, ℕ, ◌≤◌}
use mathlib.Core.List.{List, [], ◌∷◌, Memᴰ}
use seplogic.Ra.Ura.{Ura}
use mir.Val.{Val}
use base.Logic.{SProp, emp, sep}
use prog.Machine.{done}
use prog.Memory.{Memory}
use prog.Model.{Model}
use types.Logic.{Logic}
use contract.Adequate.{Satisfies}
use contract.Monad.{fact}
use contract.Running.{Running}
use prog.Routine.{step}
use denote.Triple.Bound.{Bound, passed}
use denote.Triple.Entry.{on_entry}
use denote.Triple.Spec.{Meets}
use denote.Triple.Clauses.{Clauses, closing}
use Rattle.refusals.specs.Told.{Told, refused}
use Rattle.demands.specs.EntryPoints.{EntryPoint, entry_points}

-- "refused there, by its number in document 01": one of these numbers, from 1 to 19 as in its table, and nothing else; and then Unchanged holds
abbrev pub Refusing : List ℕ → Told → Type 0 → Type 0
Refusing numbers t Unchanged = (n : ℕ) (values : List ℕ) → t ≡ refused n values → (1 ≤ n) × (n ≤ 19) × Memᴰ n numbers × (values ≡ []) × Unchanged

-- what is asked of an entry point. "takes every .. there can be", "with no prior check expected of the caller": it requires nothing.
-- "A refused call changes not one byte that was lent to it": all that was passed is at exit what it was at entry
abbrev pub asked : {M : Type 1} (𝓤 : Ura M) (f : EntryPoint) → Clauses 𝓤 f.ended
asked 𝓤 f κs a = record { ghost = Unit {0}; requires = λ g. emp 𝓤; ensures = λ g r e. fact 𝓤 (Refusing f.refuses (f.told κs r) (f.passed_back κs e ≡ a)) }

-- the function, as it runs, meets these clauses: in every model of the logic, as its own theorem says it
abbrev pub Does : (f : EntryPoint) → ((M : Type 1) (𝓤 : Ura M) (𝓛 : Logic 𝓤) (𝓜 : Model 𝓤 𝓛.H) (𝓡 : Running 𝓤 𝓛.H 𝓜) → Clauses 𝓤 f.ended) → Type 2
Does f clauses =
    (M : Type 1) (𝓤 : Ura M) (𝓛 : Logic 𝓤) (𝓜 : Model 𝓤 𝓛.H) (𝓡 : Running 𝓤 𝓛.H 𝓜) →
    Meets 𝓛 f.ended.signature (𝓡.run f.routine) (closing 𝓛 f.ended (clauses M 𝓤 𝓛 𝓜 𝓡))

-- its own promise, from which "every result and every lent byte afterwards follows"
abbrev pub Promised : EntryPoint → Type 2
Promised f = Does f (λ M 𝓤 𝓛 𝓜 𝓡. f.promise 𝓛 𝓜.mem 𝓡.returns)

-- what demand 1 asks
abbrev pub Demanded : EntryPoint → Type 2
Demanded f = Does f (λ M 𝓤 𝓛 𝓜 𝓡. asked 𝓤 f)

-- "and ends": from every memory that holds what was passed, whatever that is and whatever else the memory holds, the machine's run of the
-- function comes to a return, after some number of steps, with some value and some memory
abbrev pub Returns : EntryPoint → Type 2
Returns f =
    (M : Type 1) (𝓤 : Ura M) (𝓛 : Logic 𝓤) (𝓜 : Model 𝓤 𝓛.H) (𝓡 : Running 𝓤 𝓛.H 𝓜) →
    (x : Bound 𝓛 f.ended.signature) (before : Memory) (else : SProp 𝓤) →
    Satisfies 𝓤 𝓛.H 𝓜 before (sep 𝓤 (on_entry 𝓛 f.ended.signature x.0 x.1 x.3 x.4) else) →
    ∥ ((steps : ℕ) × (value : Val) × (after : Memory) × (step f.routine steps (passed 𝓛 f.ended.signature x) before ≡ done (value, after))) ∥₁

-- each row of a table
abbrev pub Each : (EntryPoint → Type 2) → List EntryPoint → Type 2
Each P [] = Unit {2}
Each P (f ∷ fs) = P f × Each P fs

-- "Each entry point"
pub record Demand1 : Type 2 where
  pub promised : Each Promised entry_points
  pub demanded : Each Demanded entry_points
  pub returns : Each Returns entry_points
