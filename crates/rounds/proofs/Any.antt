-- On any line at all a round ends, within 8,191 requests and 4,096 reads; it is never refused; and at every step its counts are right.
-- Assumes nothing.
use mathlib.Core.Path.{◌≡◌, refl, sym, ap, ◌∙◌, subst}
use mathlib.Core.List.{[]}
use Prim.Native.Nat.{ℕ, ◌≤◌}
use native.Mathlib.Omega.{arith}
use lib.Dec.{lit≤}
use borrow.Author.Tests.{le-ltb}
use Rattle.std.specs.Prelude.{Ok, Err}
use Rattle.refusals.specs.declared.Refusal.{Refusal}
use Rattle.groups.specs.Groups.{request_word, after, follows}
use Rattle.groups.specs.Sets.{Rising}
use Rattle.groups.proofs.Follow.{Group}
use Rattle.rounds.specs.declared.Phase.TheVariants.{Ended}
use Rattle.rounds.specs.declared.Step.TheVariants.{End}
use Rattle.rounds.specs.Rounds.{none, round, judge, Handed, start_of}
use Rattle.rounds.specs.Lines.{Line, History, tick_by, run_by, on_line, begun, run, Right, Ending}
use Rattle.rounds.specs.Demand.{read_order}
use Rattle.rounds.specs.Walks.{Seen, Hearing, Walk, Reaches, asking}
use Rattle.rounds.proofs.Heart.{reached, heart, sends}
use Rattle.rounds.proofs.Copper.{walks, few}
use Rattle.rounds.proofs.Events.{Known, known, right, rises}
use Rattle.rounds.proofs.Runs.{run_run, kept, arrived}

-- what is heard on a line
abbrev pub hearing_on : Line → Hearing
hearing_on line words m c = judge m c (line words)

abbrev pub nothing : Seen
nothing = record { sent = []; counts = none }

pub top : Group 12 0
top = (lit≤ tt, lit≤ tt)

pub started : (p : ℕ) → p ≤ 4095 → begun p ≡ asking 12 0 (request_word p 12 0) nothing
unfolding start_of
started p h = simp (le-ltb 4095 p h)

module _ (line : Line) (p : ℕ) (h : p ≤ 4095) where
  -- the walk of all devices
  pub all : Seen
  all = (walks (hearing_on line) 12 0 (request_word p 12 0) nothing).0

  pub walk : Walk (hearing_on line) follows 12 0 (request_word p 12 0) nothing all
  unfolding all
  walk = (walks (hearing_on line) 12 0 (request_word p 12 0) nothing).1

  pub all_few : (all.counts.requests ≤ 8191) × (all.counts.reads ≤ 4096)
  all_few =
      let f = few (hearing_on line) walk top in
      let f₁ = f.requests in
      let f₂ = f.events in
      (omega arith, omega arith)

  -- the round at its end
  abbrev pub final : History
  final = record { sent = all.sent; last = Ok (End (round Ended 12 0 all.counts) all.counts) }

  pub whole_round : (n : ℕ) × (run line p n ≡ final)
  unfolding after
  whole_round =
      let r : Reaches (on_line line) (begun p) final = rw (started p h) (heart 8190 follows (hearing_on line) walk top (lit≤ tt) all_few.0) in
      reached r

  pub ended_here : (n : ℕ) → 12287 ≤ n → run line p n ≡ final
  ended_here n l =
      let w = whole_round in
      let s = sends 8190 follows (hearing_on line) walk refl in
      let f₁ = all_few.0 in
      let f₂ = all_few.1 in
      arrived (on_line line) w.0 (begun p) final w.1 refl n (omega arith)

  -- on any line at all a round has ended after 12,287 words, with at most 8,191 requests, 4,096 reads, and reports the requests it handed out
  pub ends : (n : ℕ) → 12287 ≤ n → Ending (run line p n)
  ends n l =
      let e = ended_here n l in
      subst (λ (x : History). Ending x) (sym e)
      (record {
        round = round Ended 12 0 all.counts;
        counts = all.counts;
        last = refl;
        requests = all_few.0;
        reads = all_few.1;
        reported = (subst (λ (x : History). Known line p h x.sent x.last) e (known line p h n)).2.requests;
      })

  -- no round from a start is refused
  pub accepted : (n : ℕ) (j : Refusal) → (run line p n).last ≡ Err j → ⊥
  accepted n j f =
      let w = whole_round in
      let x : run_by (on_line line) n (run line p w.0) ≡ final = ap (run_by (on_line line) n) w.1 ∙ kept (on_line line) n final refl in
      let y : run_by (on_line line) w.0 (run line p n) ≡ run line p n = kept (on_line line) w.0 (run line p n) (stays (run line p n) f) in
      let q : final ≡ run line p n = sym x ∙ run_run (on_line line) n w.0 (begun p) ∙ y in
      let o : ◌≡◌ {A = ℕ} 0 1 = cc (ap (λ (g : History). g.last) q, f) in
      omega arith
    where
      stays : (g : History) → g.last ≡ Err j → tick_by (on_line line) g ≡ g
      stays g e = subst (λ (s : Handed). tick_by (on_line line) (record { sent = g.sent; last = s }) ≡ record { sent = g.sent; last = s }) (sym e) refl

  -- at every step each of the three counts is the number of such events in the history since the start
  pub every_step : (n : ℕ) → Right line (run line p n).sent (run line p n).last
  every_step n = right line p h (run line p n).sent (run line p n).last (known line p h n) (accepted n)

  -- and the devices read, as far as the round has come, rise in the order of their bits taken lowest first: none is read twice on any line
  pub every_order : (n : ℕ) → Rising 0 (read_order (run line p n).sent)
  every_order n = rises line p h n (accepted n)
