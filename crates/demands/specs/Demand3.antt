-- Demand 3: "Let k devices with different addresses have an event when a round starts, and let that set stand until it ends. Let the line
-- answer each request with silence for none, a collision for several, and for one the frame that names that device's own message. Then each of
-- the k is read exactly once and no other device is, in the order document 01 fixes, after at most 1 + 24 x floor(k/2) requests. On any line at
-- all, a round ends after at most 8,191 requests, and the count it reports is the number of requests it handed out."
-- A history is what was sent in a round and what its last call handed back; `run line params n` is the one after n words and their answers.
-- Assumes nothing.
use Rattle.std.specs.Prelude.{◌≡◌, Bool, false, ◌||◌, ℕ, zero, suc, ◌+◌, ◌*◌, ◌/◌, ◌≤◌, ◌<◌, eqb, length, Ok, Err}
use mathlib.Core.List.{List, [], ◌∷◌, Memᴰ}
use Rattle.refusals.specs.Told.{Told, gives, refused, told}
use Rattle.frames.specs.declared.LineAnswer.{LineAnswer}
use Rattle.frames.specs.Answers.{told_line}
use Rattle.frames.specs.Line.{answer_of, line_answer}
use Rattle.groups.specs.Sets.{Rising}
use Rattle.rounds.specs.declared.Counts.{Counts}
use Rattle.rounds.specs.declared.Round.{Round}
use Rattle.rounds.specs.declared.Step.TheVariants.{Next, End}
use Rattle.rounds.specs.Rounds.{Handed, start_of, step_of}
use Rattle.rounds.specs.Told.{step_values}
use Rattle.rounds.specs.Lines.{Line, History, run, is_request, counted, Right}
use Rattle.rounds.specs.Demand.{Truthful, read_order}
use Rattle.rounds.specs.Bytes.{ByteLine, MadeFrom, TruthfulBytes}
use Rattle.mvb.specs.Rounds.{stored, told_step, start_answer, start_run, round_answer, round_run}
use Rattle.list_laws.specs.Written.{All}
use Rattle.checks.specs.Bits.{one}
use Rattle.periods.specs.Once.{times}

-- no number stands twice
abbrev pub Different : List ℕ → Type 0
Different [] = Unit {0}
Different (a ∷ l) = (Memᴰ a l → ⊥) × Different l

-- "k devices with different addresses"
pub record Devices (k : ℕ) : Type 0 where
  pub addresses : List ℕ
  pub many : length addresses ≡ k
  pub different : Different addresses
  pub small : All (λ a. a < 4096) addresses

-- whether a number is one of these
abbrev pub among : ℕ → List ℕ → Bool
among a [] = false
among a (b ∷ l) = eqb b a || among a l

-- the devices that "have an event"
abbrev pub have : {k : ℕ} → Devices k → ℕ → Bool
have ds a = among a ds.addresses

-- how many requests a round has handed out whose answers were taken
abbrev pub requests_in : History → ℕ
requests_in h = counted is_request h.sent

-- the round is over; "each of the k is read exactly once and no other device is, in the order document 01 fixes, after at most
-- 1 + 24 x floor(k/2) requests"; and its three counts say so
pub record EachRead (k : ℕ) (ds : Devices k) (h : History) : Type 0 where
  pub round : Round
  pub counts : Counts
  pub over : h.last ≡ Ok (End round counts)
  pub once : (a : ℕ) → times a (read_order h.sent) ≡ one (have ds a)
  pub order : Rising 0 (read_order h.sent)
  pub most : requests_in h ≤ 1 + 24 * (k / 2)
  pub requests : counts.requests ≡ requests_in h
  pub reads : counts.reads ≡ k
  pub unresolved : counts.unresolved ≡ 0

-- "a round ends after at most 8,191 requests, and the count it reports is the number of requests it handed out"
pub record Ends (h : History) : Type 0 where
  pub round : Round
  pub counts : Counts
  pub over : h.last ≡ Ok (End round counts)
  pub most : requests_in h ≤ 8191
  pub requests : counts.requests ≡ requests_in h

-- ---- a round as C plays it: its six numbers are lent to every call, and a call takes the bytes that came

-- the words sent, the newest first; the run with the six numbers; what the last call told
pub record Played : Type 0 where
  pub sent : List ℕ
  pub numbers : List ℕ
  pub last : Told

-- a word that was told is sent, and the next call takes the bytes that came for it; an end tells no word, and nothing is sent any more
abbrev pub play_on : ByteLine → List ℕ → List ℕ → Told → Played
play_on bytes sent numbers (gives (word ∷ [])) = record { sent = word ∷ sent; numbers = round_run numbers (bytes (word ∷ sent)); last = round_answer numbers (bytes (word ∷ sent)) }
play_on bytes sent numbers (gives []) = record { sent = sent; numbers = numbers; last = gives [] }
play_on bytes sent numbers (gives (v ∷ w ∷ l)) = record { sent = sent; numbers = numbers; last = gives (v ∷ w ∷ l) }
play_on bytes sent numbers (refused n v) = record { sent = sent; numbers = numbers; last = refused n v }

-- so many words more
abbrev pub play_for : ByteLine → ℕ → Played → Played
play_for bytes zero p = p
play_for bytes (suc n) p = play_for bytes n (play_on bytes p.sent p.numbers p.last)

-- from a start, with these parameter bits and this run lent
abbrev pub played : ByteLine → ℕ → List ℕ → ℕ → Played
played bytes params lent n = play_for bytes n (record { sent = []; numbers = start_run params lent; last = start_answer params (length lent) })

-- the round that a step hands back stands in the run, and numbers beyond six are as they were lent
abbrev pub Stands : List ℕ → Handed → List ℕ → Type 0
Stands lent (Ok (Next r word)) numbers = numbers ≡ stored r lent
Stands lent (Ok (End r k)) numbers = numbers ≡ stored r lent
Stands lent (Err n) numbers = Unit {0}

-- a round is over after 12,287 words: 8,191 requests and 4,096 reads. Parameter bits are below 4,096, or the start refuses them
pub record Demand3 : Type 0 where
  -- "Let k devices .. Then .."
  pub truthful_line : (k : ℕ) (ds : Devices k) (params : ℕ) → params ≤ 4095 → (line : Line) → Truthful (have ds) params line → (n : ℕ) → 12287 ≤ n → EachRead k ds (run line params n)
  -- the same of the bytes that came: no byte for none, for one the Master Frame of F_code 12 and its address, for several bytes that are
  -- no right frame
  pub truthful_bytes : (k : ℕ) (ds : Devices k) (params : ℕ) → params ≤ 4095 → (bytes : ByteLine) (line : Line) → MadeFrom bytes line → TruthfulBytes (have ds) params bytes line
      → (n : ℕ) → 12287 ≤ n → EachRead k ds (run line params n)
  -- there are such lines and such bytes for each set
  pub some_line : (k : ℕ) (ds : Devices k) (params : ℕ) → params ≤ 4095 → (line : Line) × Truthful (have ds) params line
  pub some_bytes : (k : ℕ) (ds : Devices k) (params : ℕ) → params ≤ 4095 → (bytes : ByteLine) × (line : Line) × MadeFrom bytes line × TruthfulBytes (have ds) params bytes line
  -- "On any line at all"
  pub any_line : (params : ℕ) → params ≤ 4095 → (line : Line) (n : ℕ) → 12287 ≤ n → Ends (run line params n)
  -- at every step, too, each count is the number of such events since the start, and no step is refused
  pub any_step : (params : ℕ) → params ≤ 4095 → (line : Line) (n : ℕ) → Right line (run line params n).sent (run line params n).last
  -- `run` is made of what the functions hand back: their promises allow nothing else
  pub start_is : (params : ℕ) (s : Handed) → told step_values s ≡ told step_values (start_of params) → s ≡ start_of params
  pub step_is : (r : Round) (answer : LineAnswer) (s : Handed) → told step_values s ≡ told step_values (step_of r answer) → s ≡ step_of r answer
  pub answer_is : (bytes : List ℕ) (answer : LineAnswer) → told_line answer ≡ line_answer bytes → answer ≡ answer_of bytes
  -- and so does C: the same words, the same answers, and the round in its six numbers
  pub as_c_plays : (params : ℕ) (lent : List ℕ) → 6 ≤ length lent → (bytes : ByteLine) (line : Line) → MadeFrom bytes line → (n : ℕ)
      → ((played bytes params lent n).sent ≡ (run line params n).sent)
      × ((played bytes params lent n).last ≡ told_step (run line params n).last)
      × Stands lent (run line params n).last (played bytes params lent n).numbers
