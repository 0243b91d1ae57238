-- A round lent as a run of six numbers: what a start and a step leave in it, way out by way out.
-- Assumes nothing.
use mathlib.Core.Path.{◌≡◌, refl, sym, ap, subst, ◌∙◌}
use mathlib.Core.Bool.{Bool, true, false, cond}
use mathlib.Core.List.{List, [], ◌∷◌, ◌++◌}
use Prim.Native.Nat.{ℕ, zero, suc, ◌/◌, ◌≤◌, ◌<◌}
use native.Mathlib.Omega.{arith}
use borrow.Author.Tests.{lt-ltb, le-ltb, eq-eqb, ne_eqb}
use lib.Dec.{ltb}
use lib.ListN.{length, get_or, drop, set}
use Rattle.std.specs.Prelude.{Ok, Err}
use Rattle.refusals.specs.declared.Refusal.{Refusal}
use Rattle.refusals.specs.declared.Refusal.TheVariants.{OutOfRange, ImpossibleRound}
use Rattle.refusals.specs.Told.{gives, refusal, refusing, told}
use Rattle.frames.specs.declared.LineAnswer.{LineAnswer}
use Rattle.frames.specs.declared.LineAnswer.TheVariants.{Silence, Reply, Collision}
use Rattle.frames.specs.Answers.{told_line}
use Rattle.frames.specs.Words.{f_code_of, word_in}
use Rattle.frames.specs.Line.{right_frame, answer_of, line_answer}
use Rattle.frames.proofs.Apart.{lines_apart}
use Rattle.groups.specs.Groups.{Place, over, at, follows, request_word}
use Rattle.rounds.specs.declared.Counts.{Counts}
use Rattle.rounds.specs.declared.Phase.TheVariants.{Asked, Read, Ended}
use Rattle.rounds.specs.declared.Round.{Round}
use Rattle.rounds.specs.declared.Step.{Step}
use Rattle.rounds.specs.declared.Step.TheVariants.{Next, End}
use Rattle.rounds.specs.Rounds.{Verdict, nobody, named, unclear, judge, none, one_request, one_unresolved, round, stand, heard, impossible, ended, reading, Handed, step_by, step_of, start_of}
use Rattle.rounds.specs.Told.{round_values, step_values}
use Rattle.rounds.proofs.Apart.{steps_apart}
use Rattle.mvb.specs.Rounds.{phase_of, round_in, stored, told_step, run_after, start_answer, start_run, round_answer, round_run}
use Rattle.mvb.specs.Inside.{AsHeard, ReadsStand}

-- ---- six numbers

six : (l : List ℕ) → 6 ≤ length l → l ≡ get_or l 0 0 ∷ get_or l 1 0 ∷ get_or l 2 0 ∷ get_or l 3 0 ∷ get_or l 4 0 ∷ get_or l 5 0 ∷ drop 6 l
six [] h = absurd (omega arith)
six (x ∷ []) h = absurd (omega arith)
six (x ∷ y ∷ []) h = absurd (omega arith)
six (x ∷ y ∷ z ∷ []) h = absurd (omega arith)
six (x ∷ y ∷ z ∷ v ∷ []) h = absurd (omega arith)
six (x ∷ y ∷ z ∷ v ∷ w ∷ []) h = absurd (omega arith)
six (x ∷ y ∷ z ∷ v ∷ w ∷ t ∷ l) h = refl

module _ (run : List ℕ) (r : Round) (h : 6 ≤ length run) where
  -- with the reads written first
  pub reads_first : (n : ℕ) → stored r (set run 4 n) ≡ stored r run
  reads_first n = ap (λ (l : List ℕ). round_values r ++ drop 6 (set l 4 n)) (six run h)

-- ---- a step

pub step_4 : (run bytes : List ℕ) → length run < 6 → (refusal 4 ≡ round_answer run bytes) × (run ≡ round_run run bytes)
unfolding round_answer round_run
step_4 run bytes h = (simp (lt-ltb (length run) 6 h), simp (lt-ltb (length run) 6 h))

above_one : (n : ℕ) → 1 < n → phase_of n ≡ Ended
above_one zero h = absurd (omega arith)
above_one (suc zero) h = absurd (omega arith)
above_one (suc (suc n)) h = refl

-- an ended round answers the end again
stays : (r : Round) (a : LineAnswer) → r.phase ≡ Ended → step_of r a ≡ Ok (End r r.counts)
unfolding step_by
stays r a e = simp e

again : (n : ℕ) (r : Round) (a : LineAnswer) → 1 < n → r.phase ≡ phase_of n → told_step (step_of r a) ≡ gives []
again n r a h e = ap told_step (stays r a (e ∙ above_one n h))

pub step_ended : (run bytes : List ℕ) → 6 ≤ length run → 1 < get_or run 0 0 → (gives [] ≡ round_answer run bytes) × (run ≡ round_run run bytes)
unfolding round_answer round_run round_in
step_ended run bytes h g = (
  sym (again (get_or run 0 0) (round_in run) (answer_of bytes) g refl) ∙ simp (le-ltb (length run) 6 h),
  simp (le-ltb (length run) 6 h, lt-ltb 1 (get_or run 0 0) g),
)

-- after a read the answer is not looked at
unheard : (r : Round) (a b : LineAnswer) → r.phase ≡ Read → step_of r a ≡ step_of r b
unfolding step_by
unheard r a b e = simp e

-- another F_code than 12 is no good reply, whether the frame is right or not
no_reply : (m c : ℕ) (bytes : List ℕ) → length bytes ≡ 3 → ((f_code_of (word_in bytes) ≡ 12) → ⊥) → unclear ≡ judge m c (answer_of bytes)
unfolding answer_of
no_reply m c bytes l f = simp (ne_eqb (length bytes) 0 (λ z. omega arith)) (go (right_frame bytes))
  where
    go : (b : Bool) → unclear ≡ judge m c (cond b (Reply (word_in bytes)) Collision)
    go true = simp (ne_eqb (f_code_of (word_in bytes)) 12 f)
    go false = refl

module _ (phase : ℕ) (bytes : List ℕ) where
  pub heard_read : phase ≡ 1 → AsHeard phase bytes Silence
  heard_read e r p = unheard r Silence (answer_of bytes) (p ∙ ap phase_of e)

  pub heard_other : length bytes ≡ 3 → ((get_or bytes 0 0 / 16 ≡ 12) → ⊥) → get_or bytes 1 0 < 256 → AsHeard phase bytes Collision
  heard_other l f b r p = ap (λ (v : Verdict). step_by 8190 follows v r) (no_reply r.m r.c bytes l (λ e. f (omega arith)))

  pub heard_none : length bytes ≡ 0 → AsHeard phase bytes Silence
  unfolding answer_of
  heard_none l r p = simp (eq-eqb (length bytes) 0 l)

  pub heard_many : ((length bytes ≡ 0) → ⊥) → ((length bytes ≡ 3) → ⊥) → AsHeard phase bytes Collision
  unfolding answer_of
  heard_many n l r p = simp (ne_eqb (length bytes) 0 n, ne_eqb (length bytes) 3 l)

  pub heard_line : (a : LineAnswer) → told_line a ≡ line_answer bytes → AsHeard phase bytes a
  heard_line a e r p = ap (step_of r) (lines_apart a (answer_of bytes) e)

pub is_step : (run bytes : List ℕ) {r : Round} → r ≡ round_in run → (a : LineAnswer) → AsHeard (get_or run 0 0) bytes a → {step : Handed} → told step_values step ≡ told step_values (step_of r a)
    → step ≡ step_of (round_in run) (answer_of bytes)
unfolding round_in
is_step run bytes {r} er a ea {step} es = steps_apart step (step_of r a) es ∙ ap (λ (x : Round). step_of x a) er ∙ ea (round_in run) refl

-- a step that was handed back, by its parts
pub handed : {step : Handed} {s t : Step} → step ≡ Ok s → s ≡ t → step ≡ Ok t
handed e q = e ∙ ap (λ (x : Step). let h : Handed = Ok x in h) q

-- ---- only a read has other reads than the round before it
abbrev ReadsKept : Round → Handed → Type 0
ReadsKept r (Ok (Next n w)) = reading n.phase ≡ false → n.counts.reads ≡ r.counts.reads
ReadsKept r (Ok (End n k)) = reading n.phase ≡ false → n.counts.reads ≡ r.counts.reads
ReadsKept r (Err n) = Unit {0}

module _ (r : Round) where
  stand_keeps : (place : Place) (k : Counts) → k.reads ≡ r.counts.reads → ReadsKept r (Ok (stand place k))
  stand_keeps over k e = λ p. e
  stand_keeps (at m c) k e = λ p. e

  heard_keeps : (v : Verdict) (m : ℕ) → ReadsKept r (Ok (heard v m r.c (one_request r.counts)))
  heard_keeps nobody m = stand_keeps (follows m r.c) (one_request r.counts) refl
  heard_keeps (named word) m = λ p. absurd (let z : ◌≡◌ {A = ℕ} 0 1 = cc in omega arith)
  heard_keeps unclear zero = stand_keeps (follows zero r.c) (one_unresolved (one_request r.counts)) refl
  heard_keeps unclear (suc m) = λ p. refl

  whichever : (b : Bool) (s t : Handed) → ReadsKept r s → ReadsKept r t → ReadsKept r (cond b s t)
  whichever true s t ks kt = ks
  whichever false s t ks kt = kt

  step_keeps : (a : LineAnswer) → ReadsKept r (step_of r a)
  unfolding step_by
  step_keeps a =
      whichever (ended r.phase) _ _ (λ p. refl)
      (whichever (impossible 8190 follows r) (Err ImpossibleRound) _ tt
      (whichever (reading r.phase) _ _ (stand_keeps (follows r.m r.c) r.counts refl) (heard_keeps (judge r.m r.c a) r.m)))

module _ (run bytes : List ℕ) {step : Handed} (i : step ≡ step_of (round_in run) (answer_of bytes)) where
  kept : (s : Handed) → step ≡ s → ReadsKept (round_in run) s
  kept s e = subst (ReadsKept (round_in run)) (sym i ∙ e) (step_keeps (round_in run) (answer_of bytes))

  pub next_stands : (n : Round) (w : ℕ) → step ≡ Ok (Next n w) → ReadsStand run n
  unfolding round_in
  next_stands n w e = kept (Ok (Next n w)) e

  pub end_stands : (n : Round) (k : Counts) → step ≡ Ok (End n k) → ReadsStand run n
  unfolding round_in
  end_stands n k e = kept (Ok (End n k)) e

pub step_taken : (run bytes : List ℕ) → 6 ≤ length run → get_or run 0 0 ≤ 1 → {step : Handed} → step ≡ step_of (round_in run) (answer_of bytes) → (s : Handed) → step ≡ s
    → (run₁ : List ℕ) → run₁ ≡ run_after run s → (told_step s ≡ round_answer run bytes) × (run₁ ≡ round_run run bytes)
unfolding round_answer round_run
step_taken run bytes h g i s e run₁ e₁ = (
  ap told_step (sym e ∙ i) ∙ simp (le-ltb (length run) 6 h),
  e₁ ∙ ap (run_after run) (sym e ∙ i) ∙ simp (le-ltb (length run) 6 h, le-ltb 1 (get_or run 0 0) g),
)

-- ---- a start

-- the first step of a round
abbrev begun : ℕ → Handed
begun params = Ok (Next (round Asked 12 0 none) (request_word params 12 0))

module _ (params : ℕ) (run : List ℕ) {step : Handed} (es : told step_values step ≡ told step_values (start_of params)) where
  started : step ≡ start_of params
  started = steps_apart step (start_of params) es

  -- a word: the parameter bits are within their range
  within : (r : Round) (w : ℕ) → step ≡ Ok (Next r w) → ltb 4095 params ≡ false
  unfolding start_of
  within r w e = go (ltb 4095 params) (sym e ∙ started)
    where
      go : (b : Bool) → Ok (Next r w) ≡ cond b (Err OutOfRange) (begun params) → b ≡ false
      go true q = absurd (let z : ◌≡◌ {A = ℕ} 0 1 = cc in omega arith)
      go false q = refl

  pub start_4 : (r : Round) (w : ℕ) → step ≡ Ok (Next r w) → length run < 6 → (refusal 4 ≡ start_answer params (length run)) × (run ≡ start_run params run)
  unfolding start_answer start_run
  start_4 r w e h = (simp (within r w e, lt-ltb (length run) 6 h), simp (within r w e, lt-ltb (length run) 6 h))

  pub start_done : (r : Round) (w : ℕ) → step ≡ Ok (Next r w) → 6 ≤ length run → (run₁ : List ℕ) → run₁ ≡ stored r run
      → (gives (w ∷ []) ≡ start_answer params (length run)) × (run₁ ≡ start_run params run)
  unfolding start_answer start_run
  start_done r w e h run₁ e₁ = (
    ap told_step (sym e ∙ started) ∙ simp (within r w e, le-ltb (length run) 6 h),
    e₁ ∙ ap (run_after run) (sym e ∙ started) ∙ simp (within r w e, le-ltb (length run) 6 h),
  )

  pub start_refused : (n : Refusal) → step ≡ Err n → (refusing n ≡ start_answer params (length run)) × (run ≡ start_run params run)
  unfolding start_answer start_run start_of
  start_refused n e = go (ltb 4095 params) (sym e ∙ started)
    where
      go : (b : Bool) → Err n ≡ cond b (Err OutOfRange) (begun params)
          → (refusing n ≡ cond b (refusal 6) (cond (ltb (length run) 6) (refusal 4) (told_step (cond b (Err OutOfRange) (begun params)))))
          × (run ≡ cond b run (cond (ltb (length run) 6) run (run_after run (cond b (Err OutOfRange) (begun params)))))
      go true q = (ap told_step q, refl)
      go false q = absurd (let z : ◌≡◌ {A = ℕ} 0 1 = cc in omega arith)

  pub start_never_ends : (r : Round) (k : Counts) → step ≡ Ok (End r k) → ⊥
  unfolding start_of
  start_never_ends r k e = go (ltb 4095 params) (sym e ∙ started)
    where
      go : (b : Bool) → Ok (End r k) ≡ cond b (Err OutOfRange) (begun params) → ⊥
      go true q = let z : ◌≡◌ {A = ℕ} 0 1 = cc in omega arith
      go false q = let z : ◌≡◌ {A = ℕ} 0 1 = cc in omega arith
