-- What a refusal of each call is, and that it leaves what was lent: frames, telegram times, the search, the round.
-- Assumes nothing.
use mathlib.Core.Path.{◌≡◌, refl, ap}
use mathlib.Core.Bool.{Bool, true, false, not, cond}
use mathlib.Core.List.{List, [], ◌∷◌, ◌++◌}
use Prim.Native.Nat.{ℕ, zero, suc}
use lib.Dec.{eqb, ltb, leb}
use lib.ListN.{length, get_or, drop}
use Rattle.std.specs.Prelude.{Ok, Err}
use Rattle.refusals.specs.declared.Refusal.{Refusal}
use Rattle.refusals.specs.declared.Refusal.TheVariants.{OutOfRange, ImpossibleRound}
use Rattle.refusals.specs.Refusals.{number_of}
use Rattle.refusals.specs.Told.{Told, gives, refusal, refusing, told}
use Rattle.frames.specs.Words.{f_code_of, word_in}
use Rattle.rows.specs.Rows.{reserved, data_bytes, blocks, block_bytes, frame_bytes}
use Rattle.frames.specs.Blocks.{all_right}
use Rattle.frames.specs.Master.{master_read, master_write, master_write_out}
use Rattle.frames.specs.Slave.{slave_read, slave_read_out, slave_write, slave_write_out}
use Rattle.frames.specs.declared.LineAnswer.{LineAnswer}
use Rattle.frames.specs.Line.{answer_of}
use Rattle.timing.specs.Timing.{telegram_bits, gap_in_range, timed_by, telegram_answer, may, may_not, guard_answer}
use Rattle.groups.specs.Groups.{request_word, Place, over, at, follows}
use Rattle.groups.specs.Sets.{how_many}
use Rattle.groups.specs.Search.{search_of}
use Rattle.search.specs.Searches.{in_set, search_by, searched, written}
use Rattle.rounds.specs.declared.Step.TheVariants.{Next, End}
use Rattle.rounds.specs.declared.Phase.TheVariants.{Asked}
use Rattle.rounds.specs.declared.Counts.{Counts}
use Rattle.rounds.specs.declared.Round.{Round}
use Rattle.rounds.specs.Rounds.{round, one_request, one_unresolved, Verdict, nobody, named, unclear, judge, stand, heard, impossible, ended, reading, step_by, Handed, step_of, none, start_of}
use Rattle.rounds.specs.Told.{step_values}
use Rattle.mvb.specs.Rounds.{round_in, told_step, run_after, start_answer, start_run, round_answer, round_run}
use Rattle.mvb.specs.Searches.{search_answer, search_requests}
use Rattle.demands.specs.Demand1.{Refusing}
use Rattle.demands.proofs.Chains.{answers, refuses, told_so, is_listed, listed, after, chain, plain, unless}

-- ---- frames
pub master_read_lem : (w : List ℕ) → Refusing (1 ∷ 2 ∷ 3 ∷ []) (master_read w) (Unit {0})
unfolding master_read
master_read_lem w =
    plain (1 ∷ 2 ∷ 3 ∷ []) ((not (eqb (length w) 3), 1) ∷ (not (all_right 1 2 w), 2) ∷ (reserved (f_code_of (word_in w)), 3) ∷ []) (word_in w ∷ []) refl

pub master_write_lem : (word : ℕ) (out : List ℕ) → Refusing (3 ∷ 4 ∷ []) (master_write word (length out)) (master_write_out word out ≡ out)
unfolding master_write master_write_out
master_write_lem word out = chain (3 ∷ 4 ∷ []) ((reserved (f_code_of word), 3) ∷ (ltb (length out) 3, 4) ∷ []) _ _ out refl

pub slave_read_lem : (f : ℕ) (w out : List ℕ) → Refusing (3 ∷ 1 ∷ 2 ∷ 4 ∷ []) (slave_read f w (length out)) (slave_read_out f w out ≡ out)
unfolding slave_read slave_read_out
slave_read_lem f w out =
    chain (3 ∷ 1 ∷ 2 ∷ 4 ∷ []) ((reserved f, 3) ∷ (not (eqb (length w) (frame_bytes f)), 1) ∷ (not (all_right (blocks f) (block_bytes f) w), 2) ∷ (ltb (length out) (data_bytes f), 4) ∷ [])
    _ _ out refl

pub slave_write_lem : (f : ℕ) (d out : List ℕ) → Refusing (3 ∷ 1 ∷ 4 ∷ []) (slave_write f d (length out)) (slave_write_out f d out ≡ out)
unfolding slave_write slave_write_out
slave_write_lem f d out = chain (3 ∷ 1 ∷ 4 ∷ []) ((reserved f, 3) ∷ (not (eqb (length d) (data_bytes f)), 1) ∷ (ltb (length out) (frame_bytes f), 4) ∷ []) _ _ out refl

-- ---- telegram times and the guard
pub telegram : (f gap : ℕ) → Refusing (3 ∷ 6 ∷ []) (telegram_answer f gap) (Unit {0})
unfolding telegram_answer
telegram f gap = plain (3 ∷ 6 ∷ []) ((reserved f, 3) ∷ (not (gap_in_range gap), 6) ∷ []) (telegram_bits f gap ∷ []) refl

-- yes or no, by a test
either : (b : Bool) → (v : List ℕ) × (cond b may may_not ≡ gives v)
either true = (1 ∷ [], refl)
either false = (0 ∷ [], refl)

pub guarded : (left gap f : ℕ) → Refusing (3 ∷ 6 ∷ []) (guard_answer left gap f) (Unit {0})
unfolding guard_answer
guarded left gap f =
    let e = either (leb (telegram_bits f gap) left) in
    told_so (ap (λ (t : Told). timed_by f gap refusal t) e.1) (λ u. u) (plain (3 ∷ 6 ∷ []) ((reserved f, 3) ∷ (not (gap_in_range gap), 6) ∷ []) e.0 refl)

-- ---- the search
module _ (set out : List ℕ) where
  abbrev order : List ℕ
  order = (search_of (in_set set) 12 0).order

  -- 1, then 4
  searching : {X : Type 0} (v : List ℕ) (new old : X) → Refusing (1 ∷ 4 ∷ []) (search_by set (length out) refusal (gives v)) (search_by set (length out) (λ n. old) new ≡ old)
  searching v new old =
      unless (1 ∷ 4 ∷ []) (eqb (length set) 512) 1 _ _ old refl (chain (1 ∷ 4 ∷ []) ((ltb (length out) (how_many (in_set set) 4096), 4) ∷ []) v new old refl)

  pub search_set_lem : Refusing (1 ∷ 4 ∷ []) (searched set (length out)) (written set out ≡ out)
  unfolding searched written
  search_set_lem = searching ((search_of (in_set set) 12 0).requests ∷ length order ∷ []) (order ++ drop (length order) out) out

  pub mvb_search_lem : (requests : ℕ) → Refusing (1 ∷ 4 ∷ []) (search_answer set (length out)) ((written set out ≡ out) × (search_requests set (length out) requests ≡ requests))
  unfolding search_answer written search_requests
  mvb_search_lem requests n v e =
      let p = searching (length order ∷ []) (order ++ drop (length order) out) out n v e in
      (p.0, p.1, p.2, p.3, (p.4, (searching (length order ∷ []) (search_of (in_set set) 12 0).requests requests n v e).4))

-- ---- the round

-- a step that may refuse so, and not otherwise
abbrev By : Refusal → Handed → Type 0
By R (Ok (Next r word)) = Unit {0}
By R (Ok (End r k)) = Unit {0}
By R (Err n) = n ≡ R

start_by_lem : (params : ℕ) → By OutOfRange (start_of params)
unfolding start_of
start_by_lem params = go (ltb 4095 params)
  where
    go : (b : Bool) → By OutOfRange (cond b (Err OutOfRange) (Ok (Next (round Asked 12 0 none) (request_word params 12 0))))
    go true = refl
    go false = tt

stand_by : (p : Place) (k : Counts) → By ImpossibleRound (Ok (stand p k))
stand_by over k = tt
stand_by (at m c) k = tt

heard_by : (v : Verdict) (m c : ℕ) (k : Counts) → By ImpossibleRound (Ok (heard v m c k))
heard_by nobody m c k = stand_by (follows m c) k
heard_by (named word) m c k = tt
heard_by unclear zero c k = stand_by (follows zero c) (one_unresolved k)
heard_by unclear (suc m) c k = tt

step_by_lem : (r : Round) (answer : LineAnswer) → By ImpossibleRound (step_of r answer)
unfolding step_by
step_by_lem r answer =
    go (ended r.phase) (impossible 8190 follows r) (reading r.phase) _ _ (stand_by (follows r.m r.c) r.counts)
    (heard_by (judge r.m r.c answer) r.m r.c (one_request r.counts))
  where
    go : (a b c : Bool) (s t : Handed) → By ImpossibleRound s → By ImpossibleRound t → By ImpossibleRound (cond a (Ok (End r r.counts)) (cond b (Err ImpossibleRound) (cond c s t)))
    go true b c s t p q = tt
    go false true c s t p q = refl
    go false false true s t p q = p
    go false false false s t p q = q

-- what it tells
telling : (ns : List ℕ) (R : Refusal) (s : Handed) → By R s → is_listed ns (number_of R) ≡ true → Refusing ns (told step_values s) (Unit {0})
telling ns R (Ok (Next r word)) b h = answers _
telling ns R (Ok (End r k)) b h = answers _
telling ns R (Err n) b h = told_so (ap refusing b) (λ u. u) (refuses (number_of R) (listed ns (number_of R) h) tt)

pub round_start : (params : ℕ) → Refusing (6 ∷ []) (told step_values (start_of params)) (Unit {0})
round_start params = telling (6 ∷ []) OutOfRange (start_of params) (start_by_lem params) refl

pub round_answer_lem : (r : Round) (answer : LineAnswer) → Refusing (18 ∷ []) (told step_values (step_of r answer)) (Unit {0})
round_answer_lem r answer = telling (18 ∷ []) ImpossibleRound (step_of r answer) (step_by_lem r answer) refl

-- the same as C sees it, and the run it leaves
telling_c : (ns : List ℕ) (R : Refusal) (run : List ℕ) (s : Handed) → By R s → is_listed ns (number_of R) ≡ true → Refusing ns (told_step s) (run_after run s ≡ run)
telling_c ns R run (Ok (Next r word)) b h = answers _
telling_c ns R run (Ok (End r k)) b h = answers _
telling_c ns R run (Err n) b h = told_so (ap refusing b) (λ u. u) (refuses (number_of R) (listed ns (number_of R) h) refl)

pub mvb_round_start_lem : (params : ℕ) (run : List ℕ) → Refusing (6 ∷ 4 ∷ []) (start_answer params (length run)) (start_run params run ≡ run)
unfolding start_answer start_run
mvb_round_start_lem params run =
    after (6 ∷ 4 ∷ []) ((ltb 4095 params, 6) ∷ (ltb (length run) 6, 4) ∷ []) (told_step (start_of params)) (run_after run (start_of params)) run refl
    (telling_c (6 ∷ 4 ∷ []) OutOfRange run (start_of params) (start_by_lem params) refl)

pub mvb_round_answer_lem : (run bytes : List ℕ) → Refusing (4 ∷ 18 ∷ []) (round_answer run bytes) (round_run run bytes ≡ run)
unfolding round_answer round_run
mvb_round_answer_lem run bytes =
    let s : Handed = step_of (round_in run) (answer_of bytes) in
    after (4 ∷ 18 ∷ []) ((ltb (length run) 6, 4) ∷ []) (told_step s) (cond (ltb 1 (get_or run 0 0)) run (run_after run s)) run refl
    (told_so refl (over_again (ltb 1 (get_or run 0 0)) (run_after run s)) (telling_c (4 ∷ 18 ∷ []) ImpossibleRound run s (step_by_lem (round_in run) (answer_of bytes)) refl))
  where
    over_again : (b : Bool) (new : List ℕ) → new ≡ run → cond b run new ≡ run
    over_again true new e = refl
    over_again false new e = e
