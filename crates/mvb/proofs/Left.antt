-- What a step leaves of a round lent as a run of six numbers, by the phase that it goes to; and that a start asks.
-- Assumes nothing.
use mathlib.Core.Path.{◌≡◌, refl, sym, ap, subst, ◌∙◌}
use mathlib.Core.Bool.{Bool, true, false, cond}
use mathlib.Core.List.{List}
use mathlib.Core.Logic.{◌⊎◌, ⊎_elim}
use Prim.Native.Nat.{ℕ, zero, suc, ◌≤◌}
use native.Mathlib.Omega.{arith}
use lib.Dec.{ltb}
use lib.ListN.{get_or}
use Rattle.std.specs.Prelude.{Ok, Err}
use Rattle.refusals.specs.declared.Refusal.TheVariants.{OutOfRange, ImpossibleRound}
use Rattle.refusals.specs.Told.{told}
use Rattle.frames.specs.declared.LineAnswer.{LineAnswer}
use Rattle.frames.specs.Line.{answer_of}
use Rattle.groups.specs.Groups.{Place, over, at, follows, request_word}
use Rattle.rounds.specs.declared.Counts.{Counts}
use Rattle.rounds.specs.declared.Phase.{Phase}
use Rattle.rounds.specs.declared.Phase.TheVariants.{Asked, Read, Ended}
use Rattle.rounds.specs.declared.Round.{Round}
use Rattle.rounds.specs.declared.Step.TheVariants.{Next, End}
use Rattle.rounds.specs.Rounds.{Verdict, nobody, named, unclear, judge, none, one_request, one_unresolved, round, stand, split, heard, impossible, ended, reading, Handed, step_by, step_of, start_of}
use Rattle.rounds.specs.Told.{step_values}
use Rattle.rounds.proofs.Apart.{steps_apart}
use Rattle.mvb.specs.Rounds.{phase_of, round_in}

-- ---- a step

-- what a round that waits has after a step as it had before: by the phase that it goes to
abbrev Keeps : Round → Phase → Round → Type 0
Keeps r Asked n = n.counts.reads ≡ r.counts.reads
Keeps r Read n = (n.m ≡ r.m) × (n.c ≡ r.c) × (n.counts.unresolved ≡ r.counts.unresolved)
Keeps r Ended n = ⊥

-- and at its end
abbrev Leaves : Round → Handed → Type 0
Leaves r (Ok (Next n w)) = Keeps r n.phase n
Leaves r (Ok (End n k)) = (n.phase ≡ Ended) × (n.m ≡ 12) × (n.c ≡ 0) × (n.counts.reads ≡ r.counts.reads)
Leaves r (Err n) = Unit {0}

module _ (r : Round) where
  stand_leaves : (place : Place) (k : Counts) → k.reads ≡ r.counts.reads → Leaves r (Ok (stand place k))
  stand_leaves over k e = (refl, refl, refl, e)
  stand_leaves (at m c) k e = e

  split_leaves : (m c : ℕ) (k : Counts) → k.reads ≡ r.counts.reads → Leaves r (Ok (split m c k))
  split_leaves zero c k e = stand_leaves (follows zero c) (one_unresolved k) e
  split_leaves (suc m) c k e = e

  heard_leaves : (v : Verdict) → Leaves r (Ok (heard v r.m r.c (one_request r.counts)))
  heard_leaves nobody = stand_leaves (follows r.m r.c) (one_request r.counts) refl
  heard_leaves (named word) = (refl, refl, refl)
  heard_leaves unclear = split_leaves r.m r.c (one_request r.counts) refl

  whichever : (b : Bool) (s t : Handed) → Leaves r s → Leaves r t → Leaves r (cond b s t)
  whichever true s t ls lt = ls
  whichever false s t ls lt = lt

  step_leaves : (a : LineAnswer) → ended r.phase ≡ false → Leaves r (step_of r a)
  unfolding step_by
  step_leaves a e =
      let read : Handed = Ok (stand (follows r.m r.c) r.counts) in
      let asked : Handed = Ok (heard (judge r.m r.c a) r.m r.c (one_request r.counts)) in
      let goes : Handed = cond (reading r.phase) read asked in
      let waits : Handed = cond (impossible 8190 follows r) (Err ImpossibleRound) goes in
      subst (λ (b : Bool). Leaves r (cond b (Ok (End r r.counts)) waits)) (sym e)
      (whichever (impossible 8190 follows r) (Err ImpossibleRound) goes tt
      (whichever (reading r.phase) read asked (stand_leaves (follows r.m r.c) r.counts refl) (heard_leaves (judge r.m r.c a))))

waiting : (n : ℕ) → n ≤ 1 → ended (phase_of n) ≡ false
waiting zero h = refl
waiting (suc zero) h = refl
waiting (suc (suc n)) h = absurd (omega arith)

module _ (run bytes : List ℕ) (g : get_or run 0 0 ≤ 1) {step : Handed} (i : step ≡ step_of (round_in run) (answer_of bytes)) where
  left : (s : Handed) → step ≡ s → Leaves (round_in run) s
  unfolding round_in
  left s e = subst (Leaves (round_in run)) (sym i ∙ e) (step_leaves (round_in run) (answer_of bytes) (waiting (get_or run 0 0) g))

  -- a step to a read leaves M, C and the unresolved devices
  pub read_left : (n : Round) (w : ℕ) → step ≡ Ok (Next n w) → n.phase ≡ Read
      → (n.phase ≡ Read) × (n.m ≡ get_or run 1 0) × (n.c ≡ get_or run 2 0) × (n.counts.unresolved ≡ get_or run 5 0)
  unfolding round_in
  read_left n w e t = let k = subst (λ (p : Phase). Keeps (round_in run) p n) t (left (Ok (Next n w)) e) in (t, k.0, k.1, k.2)

  -- a step to any other word is to a request, and leaves the reads
  pub asked_left : (n : Round) (w : ℕ) → step ≡ Ok (Next n w) → (n.phase ≡ Asked) ⊎ (n.phase ≡ Ended) → (n.phase ≡ Asked) × (n.counts.reads ≡ get_or run 4 0)
  unfolding round_in
  asked_left n w e t =
      let kept : (p : Phase) → n.phase ≡ p → Keeps (round_in run) p n = λ p z. subst (λ (q : Phase). Keeps (round_in run) q n) z (left (Ok (Next n w)) e) in
      ⊎_elim (λ z. (z, kept Asked z)) (λ z. absurd (kept Ended z)) t

  -- the end has M = 12 and C = 0, and leaves the reads
  pub ended_left : (n : Round) (k : Counts) → step ≡ Ok (End n k) → (n.phase ≡ Ended) × (n.m ≡ 12) × (n.c ≡ 0) × (n.counts.reads ≡ get_or run 4 0)
  unfolding round_in
  ended_left n k e = left (Ok (End n k)) e

-- ---- a start

-- the first step of a round
abbrev begun : ℕ → Handed
begun params = Ok (Next (round Asked 12 0 none) (request_word params 12 0))

-- what a step goes to
abbrev phase_after : Handed → Phase
phase_after (Ok (Next r w)) = r.phase
phase_after (Ok (End r k)) = r.phase
phase_after (Err n) = Ended

module _ (params : ℕ) (run : List ℕ) {step : Handed} (es : told step_values step ≡ told step_values (start_of params)) where
  -- the first word of a round is a request
  pub start_asks : (r : Round) (w : ℕ) → step ≡ Ok (Next r w) → r.phase ≡ Asked
  unfolding start_of
  start_asks r w e = go (ltb 4095 params) (sym e ∙ steps_apart step (start_of params) es)
    where
      go : (b : Bool) → Ok (Next r w) ≡ cond b (Err OutOfRange) (begun params) → r.phase ≡ Asked
      go true q = absurd (let z : ◌≡◌ {A = ℕ} 0 1 = cc in omega arith)
      go false q = ap phase_after q
