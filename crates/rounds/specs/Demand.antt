-- Demand 3: a set of devices, the line that tells the truth of it, and what a round on that line has done at its end.
-- Assumes nothing.
use Rattle.std.specs.Prelude.{ℕ, ◌+◌, ◌*◌, ◌/◌, ◌≤◌, ◌<◌, ◌≡◌, Bool, true, cond, length, Ok}
use mathlib.Core.List.{List, [], ◌∷◌, ◌++◌, Memᴰ}
use Rattle.frames.specs.declared.LineAnswer.{LineAnswer}
use Rattle.frames.specs.declared.LineAnswer.TheVariants.{Silence, Reply, Collision}
use Rattle.frames.specs.Words.{address, word_of}
use Rattle.groups.specs.Groups.{is_group, request_word}
use Rattle.groups.specs.Sets.{Member, how_many, Rising}
use Rattle.groups.specs.Search.{search_of}
use Rattle.rounds.specs.declared.Counts.{Counts}
use Rattle.rounds.specs.declared.Round.{Round}
use Rattle.rounds.specs.declared.Step.TheVariants.{Next, End}
use Rattle.rounds.specs.Lines.{Line, History, run, is_read}

-- "silence for none, a collision for several, and for one" the reply with F_code 12 and that device's address
pub data Truth (S : ℕ → Bool) (m c : ℕ) : LineAnswer → Type 0 where
  none : ((a : ℕ) → Member S m c a → ⊥) → Truth S m c Silence
  one : (a : ℕ) → Member S m c a → ((b : ℕ) → Member S m c b → b ≡ a) → Truth S m c (Reply (word_of 12 a))
  several : (a b : ℕ) → Member S m c a → Member S m c b → (a ≡ b → ⊥) → Truth S m c Collision

-- the line tells the truth to each request that this round hands out; "what it answers to a read is free"
abbrev pub Truthful : (ℕ → Bool) → ℕ → Line → Type 0
Truthful S params line =
    (n m c : ℕ) (r : Round) → is_group m c ≡ true → (run line params n).last ≡ Ok (Next r (request_word params m c)) →
    Truth S m c (line (request_word params m c ∷ (run line params n).sent))

-- the devices that were read, first to last, of the words sent, the newest first
abbrev pub read_order : List ℕ → List ℕ
read_order [] = []
read_order (word ∷ words) = read_order words ++ cond (is_read word) (address word ∷ []) []

-- "each of the k is read exactly once and no other device is, in the order document 01 fixes, after at most 1 + 24 x floor(k/2) requests",
-- with none unresolved; and read order, requests and reads "agree with" the search
pub record AllRead (S : ℕ → Bool) (h : History) : Type 0 where
  pub round : Round
  pub counts : Counts
  pub last : h.last ≡ Ok (End round counts)
  pub each : (a : ℕ) → a < 4096 → S a ≡ true → Memᴰ a (read_order h.sent)
  pub only : (a : ℕ) → Memᴰ a (read_order h.sent) → (a < 4096) × (S a ≡ true)
  pub rising : Rising 0 (read_order h.sent)
  pub devices : length (read_order h.sent) ≡ how_many S 4096
  pub reads : counts.reads ≡ how_many S 4096
  pub requests : counts.requests ≤ 1 + 24 * (how_many S 4096 / 2)
  pub unresolved : counts.unresolved ≡ 0
  pub order_found : read_order h.sent ≡ (search_of S 12 0).order
  pub requests_found : counts.requests ≡ (search_of S 12 0).requests
  pub reads_found : counts.reads ≡ length (search_of S 12 0).order
