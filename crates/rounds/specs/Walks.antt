-- "ask, and on a collision ask both halves", on any line: what is sent and counted from the request for {M, C} until all under it is done.
-- Assumes nothing.
use Rattle.std.specs.Prelude.{ℕ, zero, suc, ◌+◌, ◌-◌, ◌^◌, ◌≤◌, ◌≡◌, List, ◌∷◌, Ok}
use Rattle.groups.specs.Groups.{group_word, Place, over, at, follows}
use Rattle.rounds.specs.declared.Phase.TheVariants.{Asked}
use Rattle.rounds.specs.declared.Counts.{Counts}
use Rattle.rounds.specs.declared.Round.{Round}
use Rattle.rounds.specs.declared.Step.TheVariants.{Next}
use Rattle.rounds.specs.Rounds.{Verdict, nobody, named, unclear, one_request, one_read, one_unresolved, round, go_on, Handed, step_by}
use Rattle.rounds.specs.Lines.{History, tick_by}

-- the words sent so far, the newest first, and the counts
pub record Seen : Type 0 where
  pub sent : List ℕ
  pub counts : Counts

-- a request was sent and its answer taken
abbrev pub asked : ℕ → Seen → Seen
asked word s = record { sent = word ∷ s.sent; counts = one_request s.counts }

-- a read was sent
abbrev pub read : ℕ → Seen → Seen
read word s = record { sent = word ∷ s.sent; counts = one_read s.counts }

-- a device was left unresolved
abbrev pub left : Seen → Seen
left s = record { sent = s.sent; counts = one_unresolved s.counts }

-- what the answer to the newest word, the request for {M, C}, tells
abbrev pub Hearing : Type 0
Hearing = List ℕ → ℕ → ℕ → Verdict

-- from s, the request `word` for {M, C} and all that it brings lead to t. After a read the round goes on, or, where a read leads back to
-- its group, asks that group again
pub data Walk (hear : Hearing) (lead : ℕ → ℕ → Place) : ℕ → ℕ → ℕ → Seen → Seen → Type 0 where
  silence : {m c word : ℕ} {s : Seen} → hear (word ∷ s.sent) m c ≡ nobody → Walk hear lead m c word s (asked word s)
  reply : {m c word x : ℕ} {s : Seen} → hear (word ∷ s.sent) m c ≡ named x → lead m c ≡ follows m c → Walk hear lead m c word s (read x (asked word s))
  again : {m c word x : ℕ} {s t : Seen} → hear (word ∷ s.sent) m c ≡ named x → lead m c ≡ at m c →
      Walk hear lead m c (group_word m c) (read x (asked word s)) t → Walk hear lead m c word s t
  halves : {m c word : ℕ} {s t u : Seen} → hear (word ∷ s.sent) (suc m) c ≡ unclear →
      Walk hear lead m c (group_word m c) (asked word s) t →
      Walk hear lead m (c + 2 ^ (12 - suc m)) (group_word m (c + 2 ^ (12 - suc m))) t u → Walk hear lead (suc m) c word s u
  single : {c word : ℕ} {s : Seen} → hear (word ∷ s.sent) zero c ≡ unclear → Walk hear lead zero c word s (left (asked word s))

-- ---- the steps
-- how a round steps that hears so, with this cap and where a read leads there
abbrev pub hearing : ℕ → (ℕ → ℕ → Place) → Hearing → List ℕ → Round → Handed
hearing cap lead hear words r = step_by cap lead (hear words r.m r.c) r

-- some number of steps lead from one history to the other
pub data Reaches (step : List ℕ → Round → Handed) : History → History → Type 0 where
  here : {h : History} → Reaches step h h
  on : {h k : History} → Reaches step (tick_by step h) k → Reaches step h k

-- the request for {M, C} has been handed out
abbrev pub asking : ℕ → ℕ → ℕ → Seen → History
asking m c word s = record { sent = s.sent; last = Ok (Next (round Asked m c s.counts) word) }

-- the round goes on after {M, C}
abbrev pub done : ℕ → ℕ → Seen → History
done m c s = record { sent = s.sent; last = Ok (go_on m c s.counts) }

-- room under the cap: one more request may have been counted at the very end
abbrev pub Room : ℕ → Place → ℕ → Type 0
Room cap over requests = requests ≤ cap + 1
Room cap (at m c) requests = requests ≤ cap
