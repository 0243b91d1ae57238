-- A round on a line, step by step, and what happened in it since its start.
-- Assumes nothing.
use Rattle.std.specs.Prelude.{ℕ, zero, suc, ◌+◌, ◌≤◌, ◌≡◌, Bool, true, false, cond, ◌&&◌, ◌||◌, List, [], ◌∷◌, eqb, Ok, Err}
use Rattle.frames.specs.declared.LineAnswer.{LineAnswer}
use Rattle.frames.specs.Words.{f_code_of, address}
use Rattle.rounds.specs.declared.Phase.{Phase}
use Rattle.rounds.specs.declared.Phase.TheVariants.{Asked, Read, Ended}
use Rattle.rounds.specs.declared.Counts.{Counts}
use Rattle.rounds.specs.declared.Round.{Round}
use Rattle.rounds.specs.declared.Step.TheVariants.{Next, End}
use Rattle.rounds.specs.Rounds.{Verdict, nobody, named, unclear, judge, ended, Handed, step_of, start_of}

-- ---- histories
-- any line at all: what it answers to the newest word may depend on all the words sent since the start, the newest first
abbrev pub Line : Type 0
Line = List ℕ → LineAnswer

-- the words sent whose answers were taken, the newest first; and what the last call handed back
pub record History : Type 0 where
  pub sent : List ℕ
  pub last : Handed

-- the word that was handed out is sent, and the round takes its answer; after the end nothing is sent
abbrev pub then : (List ℕ → Round → Handed) → List ℕ → Handed → History
then step sent (Ok (Next r word)) = record { sent = word ∷ sent; last = step (word ∷ sent) r }
then step sent (Ok (End r k)) = record { sent = sent; last = Ok (End r k) }
then step sent (Err n) = record { sent = sent; last = Err n }

-- one step
abbrev pub tick_by : (List ℕ → Round → Handed) → History → History
tick_by step h = then step h.sent h.last

-- so many steps
abbrev pub run_by : (List ℕ → Round → Handed) → ℕ → History → History
run_by step zero h = h
run_by step (suc n) h = run_by step n (tick_by step h)

-- the round takes the line's answer
abbrev pub on_line : Line → List ℕ → Round → Handed
on_line line words r = step_of r (line words)

-- "The start hands back the round and its first word"
abbrev pub begun : ℕ → History
begun params = record { sent = []; last = start_of params }

-- so many steps of a round that was started with these parameter bits, on a line
abbrev pub run : Line → ℕ → ℕ → History
run line params n = run_by (on_line line) n (begun params)

-- ---- events
-- a request has F_code 9, 13 or 14
abbrev pub is_request : ℕ → Bool
is_request word = eqb (f_code_of word) 9 || eqb (f_code_of word) 13 || eqb (f_code_of word) 14

-- a read has F_code 12
abbrev pub is_read : ℕ → Bool
is_read word = eqb (f_code_of word) 12

-- how many of the words are such
abbrev pub counted : (ℕ → Bool) → List ℕ → ℕ
counted f [] = 0
counted f (word ∷ words) = counted f words + cond (f word) 1 0

-- neither silence nor a good reply
abbrev pub is_unclear : Verdict → Bool
is_unclear nobody = false
is_unclear (named word) = false
is_unclear unclear = true

-- "unresolved": a request for one device (F_code 14) whose answer is neither silence nor a good reply
abbrev pub is_unresolved : ℕ → LineAnswer → Bool
is_unresolved word answer = eqb (f_code_of word) 14 && is_unclear (judge 0 (address word) answer)

-- how many of the words, with what the line answered to each, are such
abbrev pub unresolved_in : Line → List ℕ → ℕ
unresolved_in line [] = 0
unresolved_in line (word ∷ words) = unresolved_in line words + cond (is_unresolved word (line (word ∷ words))) 1 0

-- ---- what the counts mean
-- a request that waits for its answer has been handed out and is not yet counted
abbrev pub waiting : Phase → ℕ
waiting Asked = 1
waiting Read = 0
waiting Ended = 0

-- "Each count is the number of such events in the round since its start. (A request counts when its answer is taken, a read along with the
-- good reply that brings it.)" taken: the words whose answers were taken; handed: those, and the one handed out last
pub record Counted (line : Line) (taken handed : List ℕ) (r : Round) : Type 0 where
  pub requests : r.counts.requests ≡ counted is_request taken
  pub reads : r.counts.reads ≡ counted is_read handed
  pub unresolved : r.counts.unresolved ≡ unresolved_in line taken
  pub handed_out : counted is_request handed ≡ r.counts.requests + waiting r.phase

-- what the last call of a round handed back: a round with a word, or an ended one with its counts, and each count is right; "No round from a
-- start is refused"
abbrev pub Right : Line → List ℕ → Handed → Type 0
Right line sent (Ok (Next r word)) = (ended r.phase ≡ false) × Counted line sent (word ∷ sent) r
Right line sent (Ok (End r k)) = (ended r.phase ≡ true) × (k ≡ r.counts) × Counted line sent sent r
Right line sent (Err n) = ⊥

-- the round has ended, "after at most 8,191 requests" and 4,096 reads, and the request words handed out are as many as it reports
pub record Ending (h : History) : Type 0 where
  pub round : Round
  pub counts : Counts
  pub last : h.last ≡ Ok (End round counts)
  pub requests : counts.requests ≤ 8191
  pub reads : counts.reads ≤ 4096
  pub reported : counts.requests ≡ counted is_request h.sent
