-- The event round of document 01: what a start and a step hand back.
-- Assumes nothing.
use Rattle.std.specs.Prelude.{ℕ, zero, suc, ◌+◌, Bool, true, false, cond, not, ◌&&◌, ◌||◌, ltb, eqb, Result, Ok, Err}
use Rattle.refusals.specs.declared.Refusal.{Refusal}
use Rattle.refusals.specs.declared.Refusal.TheVariants.{OutOfRange, ImpossibleRound}
use Rattle.frames.specs.declared.LineAnswer.{LineAnswer}
use Rattle.frames.specs.declared.LineAnswer.TheVariants.{Silence, Reply, Collision}
use Rattle.frames.specs.Words.{f_code_of, address}
use Rattle.groups.specs.Groups.{is_group, in_group, group_word, request_word, Place, over, at, follows}
use Rattle.rounds.specs.declared.Phase.{Phase}
use Rattle.rounds.specs.declared.Phase.TheVariants.{Asked, Read, Ended}
use Rattle.rounds.specs.declared.Counts.{Counts}
use Rattle.rounds.specs.declared.Round.{Round}
use Rattle.rounds.specs.declared.Step.{Step}
use Rattle.rounds.specs.declared.Step.TheVariants.{Next, End}

-- ---- what a round holds: a phase, a place {M, C} and "three counts: requests, reads, unresolved"
abbrev pub round : Phase → ℕ → ℕ → Counts → Round
round p m c k = record { phase = p; m = m; c = c; counts = k }

-- one request more
abbrev pub one_request : Counts → Counts
one_request k = record { requests = k.requests + 1; reads = k.reads; unresolved = k.unresolved }

-- one read more
abbrev pub one_read : Counts → Counts
one_read k = record { requests = k.requests; reads = k.reads + 1; unresolved = k.unresolved }

-- "one unresolved device" more
abbrev pub one_unresolved : Counts → Counts
one_unresolved k = record { requests = k.requests; reads = k.reads; unresolved = k.unresolved + 1 }

-- ---- the line's answer to the request for {M, C}: "silence"; "a good reply", by its word; "anything else"
pub data Verdict : Type 0 where
  nobody : Verdict
  named : ℕ → Verdict
  unclear : Verdict

-- "good only when it is taken apart and has F_code 12 and an address in the group"
abbrev pub is_good : ℕ → ℕ → ℕ → Bool
is_good m c word = eqb (f_code_of word) 12 && in_group m c (address word)

-- "silence, a reply with its word, or a collision"
abbrev pub judge : ℕ → ℕ → LineAnswer → Verdict
judge m c Silence = nobody
judge m c (Reply word) = cond (is_good m c word) (named word) unclear
judge m c Collision = unclear

-- ---- where the round goes
-- the request for a group, M below 12
abbrev pub ask : ℕ → ℕ → Counts → Step
ask m c k = Next (round Asked m c k) (group_word m c)

-- "the new one with the next word, or its end and three counts"
abbrev pub stand : Place → Counts → Step
stand over k = End (round Ended 12 0 k) k
stand (at m c) k = ask m c k

-- "go on"
abbrev pub go_on : ℕ → ℕ → Counts → Step
go_on m c k = stand (follows m c) k

-- "for M at least 1 ask {M-1, C} and all under it, then {M-1, C + 2^(12-M)}; for M = 0 count one unresolved device and go on"
abbrev pub split : ℕ → ℕ → Counts → Step
split zero c k = go_on zero c (one_unresolved k)
split (suc m) c k = ask m c k

-- "silence, go on; a good reply, send that word as Master Frame (the read) ..; anything else" splits
abbrev pub heard : Verdict → ℕ → ℕ → Counts → Step
heard nobody m c k = go_on m c k
heard (named word) m c k = Next (round Read m c (one_read k)) word
heard unclear m c k = split m c k

-- ---- 18
-- there is a group to ask
abbrev pub is_at : Place → Bool
is_at over = false
is_at (at m c) = true

-- "one is still to be asked or answered": the request that waits, or the one to which a read leads
abbrev pub owes : Phase → Place → Bool
owes Asked place = true
owes Read place = is_at place
owes Ended place = false

-- "M above 12, C not below 2^(12-M), reads plus unresolved above requests"
abbrev pub broken : Round → Bool
broken r = not (is_group r.m r.c) || ltb r.counts.requests (r.counts.reads + r.counts.unresolved)

-- ".. or more than 8,190 requests counted while one is still to be asked or answered": cap is 8,190, and a read at {M, C} leads to lead M C
abbrev pub impossible : ℕ → (ℕ → ℕ → Place) → Round → Bool
impossible cap lead r = broken r || (ltb cap r.counts.requests && owes r.phase (lead r.m r.c))

-- ---- a step
-- the round has ended
abbrev pub ended : Phase → Bool
ended Asked = false
ended Read = false
ended Ended = true

-- the round waits for the answer to a read
abbrev pub reading : Phase → Bool
reading Asked = false
reading Read = true
reading Ended = false

-- what a start or a step hands back: a step, or a refusal
abbrev pub Handed : Type 0
Handed = Result Step Refusal

-- "A step on an ended round answers the end again. That comes first"; then 18; then the answer to a read, "whatever comes back", or to a request
unfoldable pub step_by : ℕ → (ℕ → ℕ → Place) → Verdict → Round → Handed
step_by cap lead v r =
    cond (ended r.phase) (Ok (End r r.counts))
    (cond (impossible cap lead r) (Err ImpossibleRound)
    (cond (reading r.phase) (Ok (stand (lead r.m r.c) r.counts))
    (Ok (heard v r.m r.c (one_request r.counts)))))

-- the step of the round, on the line's answer: after a read it goes on
abbrev pub step_of : Round → LineAnswer → Handed
step_of r answer = step_by 8190 follows (judge r.m r.c answer) r

-- nothing is counted at the start
abbrev pub none : Counts
none = record { requests = 0; reads = 0; unresolved = 0 }

-- "The start hands back the round and its first word"; parameter bits of "4,096 or more: 6"
unfoldable pub start_of : ℕ → Handed
start_of params = cond (ltb 4095 params) (Err OutOfRange) (Ok (Next (round Asked 12 0 none) (request_word params 12 0)))
