-- A round as C lends it: a run of six numbers, phase, M, C, requests, reads, unresolved.
-- Assumes nothing.
use Rattle.std.specs.Prelude.{cond, List, [], ◌∷◌, ◌++◌, ℕ, zero, suc, ltb, length, get_or, drop, Ok, Err}
use Rattle.refusals.specs.Told.{Told, gives, refusal, refusing}
use Rattle.frames.specs.Line.{answer_of}
use Rattle.rounds.specs.declared.Phase.{Phase}
use Rattle.rounds.specs.declared.Phase.TheVariants.{Asked, Read, Ended}
use Rattle.rounds.specs.declared.Round.{Round}
use Rattle.rounds.specs.declared.Step.TheVariants.{Next, End}
use Rattle.rounds.specs.Rounds.{Handed, start_of, step_of}
use Rattle.rounds.specs.Told.{round_values}

-- "phase 0 waits for the answer to a request, 1 for the answer to a read, anything else has ended"
abbrev pub phase_of : ℕ → Phase
phase_of zero = Asked
phase_of (suc zero) = Read
phase_of (suc (suc n)) = Ended

-- the round in a run
unfoldable pub round_in : List ℕ → Round
round_in run =
    record { phase = phase_of (get_or run 0 0); m = get_or run 1 0; c = get_or run 2 0; counts = record { requests = get_or run 3 0; reads = get_or run 4 0; unresolved = get_or run 5 0 } }

-- the run with a round in it; "numbers beyond six stay"
abbrev pub stored : Round → List ℕ → List ℕ
stored r run = round_values r ++ drop 6 run

-- what a step tells C: the word, the end, or the refusal
abbrev pub told_step : Handed → Told
told_step (Ok (Next r word)) = gives (word ∷ [])
told_step (Ok (End r k)) = gives []
told_step (Err n) = refusing n

-- the run after a step: the new round, or as it was
abbrev pub run_after : List ℕ → Handed → List ℕ
run_after run (Ok (Next r word)) = stored r run
run_after run (Ok (End r k)) = stored r run
run_after run (Err n) = run

-- a start: 6 for the parameter bits, then 4 for a run too short
abbrev pub start_by {ℓ} : {A : Type ℓ} → ℕ → ℕ → (ℕ → A) → A → A
start_by params room refused done = cond (ltb 4095 params) (refused 6) (cond (ltb room 6) (refused 4) done)

-- what a start answers
unfoldable pub start_answer : ℕ → ℕ → Told
start_answer params room = start_by params room refusal (told_step (start_of params))

-- the run after it
unfoldable pub start_run : ℕ → List ℕ → List ℕ
start_run params run = start_by params (length run) (λ n. run) (run_after run (start_of params))

-- a step: 4 for a run too short, before all else
unfoldable pub round_answer : List ℕ → List ℕ → Told
round_answer run bytes = cond (ltb (length run) 6) (refusal 4) (told_step (step_of (round_in run) (answer_of bytes)))

-- the run after it: a round that has ended is handed back unchanged
unfoldable pub round_run : List ℕ → List ℕ → List ℕ
round_run run bytes = cond (ltb (length run) 6) run (cond (ltb 1 (get_or run 0 0)) run (run_after run (step_of (round_in run) (answer_of bytes))))
