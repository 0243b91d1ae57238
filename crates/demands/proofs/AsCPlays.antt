-- A round that C plays over six numbers does what the round of the definitions does.
-- Assumes nothing.
use mathlib.Core.Path.{◌≡◌, refl, ap}
use mathlib.Core.Bool.{Bool, true, false, cond}
use mathlib.Core.List.{List, [], ◌∷◌}
use Prim.Native.Nat.{ℕ, zero, suc, ◌≤◌}
use native.Mathlib.Omega.{arith}
use lib.Dec.{ltb}
use lib.ListN.{length}
use borrow.Author.Tests.{le-ltb}
use Rattle.std.specs.Prelude.{Ok, Err}
use Rattle.refusals.specs.declared.Refusal.TheVariants.{OutOfRange}
use Rattle.refusals.specs.Told.{refusal}
use Rattle.frames.specs.Line.{answer_of}
use Rattle.groups.specs.Groups.{request_word}
use Rattle.rounds.specs.declared.Phase.{Phase}
use Rattle.rounds.specs.declared.Phase.TheVariants.{Asked, Read, Ended}
use Rattle.rounds.specs.declared.Round.{Round}
use Rattle.rounds.specs.declared.Step.TheVariants.{Next, End}
use Rattle.rounds.specs.Rounds.{round, none, Handed, step_by, step_of, start_of}
use Rattle.rounds.specs.Told.{phase_number}
use Rattle.rounds.specs.Lines.{Line, History, then, tick_by, run_by, on_line, begun, run}
use Rattle.rounds.specs.Bytes.{ByteLine, MadeFrom}
use Rattle.mvb.specs.Rounds.{phase_of, round_in, stored, told_step, run_after, start_answer, start_run, round_answer, round_run}
use Rattle.demands.specs.Demand3.{Played, play_on, play_for, played, Stands}

phase_back : (p : Phase) → phase_of (phase_number p) ≡ p
phase_back Asked = refl
phase_back Read = refl
phase_back Ended = refl

-- six numbers hold the round that was stored in them
round_back : (r : Round) (lent : List ℕ) → round_in (stored r lent) ≡ r
unfolding round_in
round_back r lent = ap (λ (p : Phase). record { phase = p; m = r.m; c = r.c; counts = r.counts }) (phase_back r.phase)

six : (r : Round) (lent : List ℕ) → ltb (length (stored r lent)) 6 ≡ false
six r lent = le-ltb (length (stored r lent)) 6 (omega arith)

-- an ended round answers the end again
ended_again : (r : Round) (bytes : List ℕ) → r.phase ≡ Ended → step_of r (answer_of bytes) ≡ Ok (End r r.counts)
unfolding step_by
ended_again r bytes e = rw e refl

module _ (lent : List ℕ) where
  after_is : (r : Round) (s : Handed) → Stands lent s (run_after (stored r lent) s)
  after_is r (Ok (Next q word)) = refl
  after_is r (Ok (End q k)) = refl
  after_is r (Err n) = tt

  step_told : (r : Round) (bytes : List ℕ) → round_answer (stored r lent) bytes ≡ told_step (step_of r (answer_of bytes))
  unfolding round_answer
  step_told r bytes = rw (six r lent, round_back r lent) refl

  step_stands : (r : Round) (bytes : List ℕ) → Stands lent (step_of r (answer_of bytes)) (round_run (stored r lent) bytes)
  unfolding round_run
  step_stands r bytes = rw (six r lent, round_back r lent) (go r.phase refl)
    where
      go : (p : Phase) → r.phase ≡ p → Stands lent (step_of r (answer_of bytes)) (cond (ltb 1 (phase_number p)) (stored r lent) (run_after (stored r lent) (step_of r (answer_of bytes))))
      go Asked e = after_is r (step_of r (answer_of bytes))
      go Read e = after_is r (step_of r (answer_of bytes))
      go Ended e = rw (ended_again r bytes e) refl

  -- what C has is what the history has
  pub record Same (p : Played) (h : History) : Type 0 where
    pub sent : p.sent ≡ h.sent
    pub last : p.last ≡ told_step h.last
    pub stands : Stands lent h.last p.numbers

  module _ (bytes : ByteLine) (line : Line) (made : MadeFrom bytes line) where
    one_more : (sent numbers : List ℕ) (s : Handed) → Stands lent s numbers → Same (play_on bytes sent numbers (told_step s)) (then (on_line line) sent s)
    one_more sent numbers (Ok (Next r word)) e =
        let b = bytes (word ∷ sent) in
        rw (e, made (word ∷ sent)) (record { sent = refl; last = step_told r b; stands = step_stands r b })
    one_more sent numbers (Ok (End r k)) e = record { sent = refl; last = refl; stands = e }
    one_more sent numbers (Err n) e = record { sent = refl; last = refl; stands = tt }

    goes_on : (p : Played) (h : History) → Same p h → Same (play_on bytes p.sent p.numbers p.last) (tick_by (on_line line) h)
    goes_on p h s = rw (s.sent, s.last) (one_more h.sent p.numbers h.last s.stands)

    all_the_way : (n : ℕ) (p : Played) (h : History) → Same p h → Same (play_for bytes n p) (run_by (on_line line) n h)
    all_the_way zero p h s = s
    all_the_way (suc n) p h s = all_the_way n _ _ (goes_on p h s)

  starts : (params : ℕ) → 6 ≤ length lent → Same (record { sent = []; numbers = start_run params lent; last = start_answer params (length lent) }) (begun params)
  unfolding start_answer start_run start_of
  starts params h = rw (le-ltb (length lent) 6 h) (go (ltb 4095 params))
    where
      first : Handed
      first = Ok (Next (round Asked 12 0 none) (request_word params 12 0))

      go : (b : Bool) → Same (record { sent = []; numbers = cond b lent (run_after lent (cond b (Err OutOfRange) first)); last = cond b (refusal 6) (told_step (cond b (Err OutOfRange) first)) }) (record { sent = []; last = cond b (Err OutOfRange) first })
      go true = record { sent = refl; last = refl; stands = tt }
      go false = record { sent = refl; last = refl; stands = refl }

  pub plays : (params : ℕ) → 6 ≤ length lent → (bytes : ByteLine) (line : Line) → MadeFrom bytes line → (n : ℕ) → Same (played bytes params lent n) (run line params n)
  plays params h bytes line made n = all_the_way bytes line made n _ _ (starts params h)
