-- What the functions inside this crate promise each other. No public promise cites this.
-- Assumes nothing.
use Rattle.std.specs.Prelude.{ℕ, ◌≡◌, false, List, get_or}
use Rattle.frames.specs.declared.LineAnswer.{LineAnswer}
use Rattle.frames.specs.Line.{answer_of}
use Rattle.rounds.specs.declared.Round.{Round}
use Rattle.rounds.specs.Rounds.{reading, step_of}
use Rattle.mvb.specs.Rounds.{phase_of}

-- a round in this phase takes the answer as it takes that of the bytes
abbrev pub AsHeard : ℕ → List ℕ → LineAnswer → Type 0
AsHeard phase bytes answer = (r : Round) → r.phase ≡ phase_of phase → step_of r answer ≡ step_of r (answer_of bytes)

-- a round that does not read has as many reads as the run
abbrev pub ReadsStand : List ℕ → Round → Type 0
ReadsStand run r = reading r.phase ≡ false → r.counts.reads ≡ get_or run 4 0
