-- The heart of the event round, over any hearing, any cap and wherever a read leads: from the request for {M, C} the steps do what
-- "ask, and on a collision ask both halves" does, and then stand at what follows {M, C}.
-- Assumes nothing.
use mathlib.Core.Path.{◌≡◌, refl, sym, ap, ◌∙◌, subst}
use mathlib.Core.Bool.{Bool, true, false, cond, ◌&&◌}
use mathlib.Core.List.{List, ◌∷◌}
use Prim.Native.Nat.{ℕ, zero, suc, ◌+◌, ◌-◌, ◌^◌, ◌≤◌, ◌<◌}
use native.Mathlib.Omega.{arith}
use lib.Dec.{ltb}
use lib.ListN.{length}
use borrow.Author.Tests.{le-ltb}
use Rattle.std.specs.Prelude.{Ok, Err}
use Rattle.refusals.specs.declared.Refusal.TheVariants.{ImpossibleRound}
use Rattle.groups.specs.Groups.{group_word, Place, over, at, follows}
use Rattle.groups.proofs.Follow.{Group, is_group_lem, in_lower, in_upper, lower, upper}
use Rattle.rounds.specs.declared.Phase.{Phase}
use Rattle.rounds.specs.declared.Phase.TheVariants.{Asked, Read}
use Rattle.rounds.specs.declared.Counts.{Counts}
use Rattle.rounds.specs.declared.Round.{Round}
use Rattle.rounds.specs.Rounds.{round, one_request, one_read, Verdict, nobody, named, unclear, stand, heard, is_at, broken, Handed, step_by}
use Rattle.rounds.specs.Lines.{History, tick_by, run_by}
use Rattle.rounds.specs.Walks.{Seen, asked, read, Hearing, Walk, silence, reply, again, halves, single, hearing, Reaches, here, on, asking, done, Room}

-- ---- steps, one after the other
pub beyond : {step : List ℕ → Round → Handed} {h k l : History} → Reaches step h k → Reaches step k l → Reaches step h l
beyond here b = b
beyond (on a) b = on (beyond a b)

pub one_step : {step : List ℕ → Round → Handed} {h k l : History} → tick_by step h ≡ k → Reaches step k l → Reaches step h l
one_step {step} {h} {k} {l} e r = on (subst (λ (x : History). Reaches step x l) (sym e) r)

pub reached : {step : List ℕ → Round → Handed} {h k : History} → Reaches step h k → (n : ℕ) × (run_by step n h ≡ k)
reached here = (0, refl)
reached (on a) = let r = reached a in (suc r.0, r.1)

-- ---- one step
-- reads and unresolved devices are no more than requests
abbrev pub Fits : Counts → Type 0
Fits k = k.reads + k.unresolved ≤ k.requests

pub whole : (p : Phase) (m c : ℕ) (k : Counts) → Group m c → Fits k → broken (round p m c k) ≡ false
whole p m c k t f = simp (is_group_lem m c t, le-ltb _ _ f)

module _ (cap : ℕ) (lead : ℕ → ℕ → Place) where
  pub room_most : (p : Place) (q : ℕ) → Room cap p q → q ≤ cap + 1
  room_most over q h = h
  room_most (at m c) q h = omega arith

  -- the answer to a request
  pub step_asked : (v : Verdict) (m c : ℕ) (k : Counts) → Group m c → Fits k → k.requests ≤ cap →
      step_by cap lead v (round Asked m c k) ≡ Ok (heard v m c (one_request k))
  unfolding step_by
  step_asked v m c k t f l = simp (is_group_lem m c t, le-ltb _ _ f, le-ltb _ _ l)

  -- the answer to a read, whatever it is
  pub step_read : (v : Verdict) (m c : ℕ) (k : Counts) → Group m c → Fits k → Room cap (lead m c) k.requests →
      step_by cap lead v (round Read m c k) ≡ Ok (stand (lead m c) k)
  unfolding step_by
  step_read v m c k t f l = simp (is_group_lem m c t, le-ltb _ _ f) (go (lead m c) l)
    where
      go : (p : Place) → Room cap p k.requests → cond (ltb cap k.requests && is_at p) (Err ImpossibleRound) (Ok (stand p k)) ≡ Ok (stand p k)
      go over h = same (ltb cap k.requests)
        where
          same : (b : Bool) → cond (b && false) (Err ImpossibleRound) (Ok (stand over k)) ≡ Ok (stand over k)
          same true = refl
          same false = refl
      go (at m₁ c₁) h = simp (le-ltb _ _ h)

  module _ (hear : Hearing) where
    -- ---- a walk counts at least its own request, and each event along with a request
    pub grows : {m c w : ℕ} {s t : Seen} → Walk hear lead m c w s t → Fits s.counts → (s.counts.requests < t.counts.requests) × Fits t.counts
    grows (silence e) f = (omega arith, omega arith)
    grows (reply e l) f = (omega arith, omega arith)
    grows (again e l a) f = let g = grows a (omega arith) in (omega arith, g.1)
    grows (halves e a b) f = let g = grows a (omega arith) in let h = grows b g.1 in (omega arith, h.1)
    grows (single e) f = (omega arith, omega arith)

    -- every word is a request or a read
    pub sends : {m c w : ℕ} {s t : Seen} → Walk hear lead m c w s t → length s.sent ≡ s.counts.requests + s.counts.reads →
        length t.sent ≡ t.counts.requests + t.counts.reads
    sends (silence e) h = omega arith
    sends (reply e l) h = omega arith
    sends (again e l a) h = sends a (omega arith)
    sends (halves e a b) h = sends b (sends a (omega arith))
    sends (single e) h = omega arith

    abbrev Step₀ : List ℕ → Round → Handed
    Step₀ = hearing cap lead hear

    abbrev Asks : ℕ → ℕ → ℕ → Seen → History → Type 0
    Asks m c w s h = Reaches Step₀ (asking m c w s) h

    -- the answer to the request for {M, C} was taken
    abbrev pub taken : Verdict → ℕ → ℕ → ℕ → Seen → History
    taken v m c w s = record { sent = w ∷ s.sent; last = Ok (heard v m c (one_request s.counts)) }

    pub first : (m c w : ℕ) (s : Seen) (v : Verdict) → hear (w ∷ s.sent) m c ≡ v → Group m c → Fits s.counts → s.counts.requests ≤ cap →
        tick_by Step₀ (asking m c w s) ≡ taken v m c w s
    first m c w s v e t f l =
        ap (λ (x : Handed). let h : History = record { sent = w ∷ s.sent; last = x } in h)
        (step_asked (hear (w ∷ s.sent) m c) m c s.counts t f l ∙ ap (λ (x : Verdict). let h : Handed = Ok (heard x m c (one_request s.counts)) in h) e)

    -- then the read, and where it leads
    second : (m c w x : ℕ) (s : Seen) → Group m c → Fits s.counts → Room cap (lead m c) (s.counts.requests + 1) →
        tick_by Step₀ (taken (named x) m c w s) ≡ record { sent = x ∷ w ∷ s.sent; last = Ok (stand (lead m c) (one_read (one_request s.counts))) }
    second m c w x s t f l =
        ap (λ (y : Handed). let h : History = record { sent = x ∷ w ∷ s.sent; last = y } in h)
        (step_read (hear (x ∷ w ∷ s.sent) m c) m c (one_read (one_request s.counts)) t (omega arith) l)

    standing : (m c w : ℕ) (s t : Seen) {p q : Place} → p ≡ q → Asks m c w s (record { sent = t.sent; last = Ok (stand p t.counts) }) →
        Asks m c w s (record { sent = t.sent; last = Ok (stand q t.counts) })
    standing m c w s t e r = subst (λ (p : Place). Asks m c w s (record { sent = t.sent; last = Ok (stand p t.counts) })) e r

    pub heart : {m c w : ℕ} {s t : Seen} → Walk hear lead m c w s t → Group m c → Fits s.counts → Room cap (follows m c) t.counts.requests →
        Reaches Step₀ (asking m c w s) (done m c t)
    heart {m} {c} {w} {s} (silence e) g f l =
        let q = room_most (follows m c) (s.counts.requests + 1) l in
        one_step (first m c w s nobody e g f (omega arith)) here
    heart {m} {c} {w} {s} (reply {x = x} e r) g f l =
        let q = room_most (follows m c) (s.counts.requests + 1) l in
        let l₂ : Room cap (lead m c) (s.counts.requests + 1) = subst (λ (p : Place). Room cap p (s.counts.requests + 1)) (sym r) l in
        standing m c w s (read x (asked w s)) r (one_step (first m c w s (named x) e g f (omega arith)) (one_step (second m c w x s g f l₂) here))
    heart {m} {c} {w} {s} {t} (again {x = x} e r a) g f l =
        let q = room_most (follows m c) t.counts.requests l in
        let z = (grows a (omega arith)).0 in
        let l₂ : Room cap (lead m c) (s.counts.requests + 1) = subst (λ (p : Place). Room cap p (s.counts.requests + 1)) (sym r) (omega arith) in
        beyond (standing m c w s (read x (asked w s)) r (one_step (first m c w s (named x) e g f (omega arith)) (one_step (second m c w x s g f l₂) here)))
        (heart a g (omega arith) l)
    heart (halves {m = m} {c = c} {word = w} {s = s} {t = t} {u = u} e a b) g f l =
        let d = c + 2 ^ (12 - suc m) in
        let q = room_most (follows (suc m) c) u.counts.requests l in
        let x = grows a (omega arith) in
        let y = grows b x.1 in
        let y₀ = y.0 in
        let x₀ = x.0 in
        let low = heart a (in_lower m c g) (omega arith) (subst (λ (p : Place). Room cap p t.counts.requests) (sym (lower m c g)) (omega arith)) in
        let high = heart b (in_upper m c g) x.1 (subst (λ (p : Place). Room cap p u.counts.requests) (sym (upper m c g)) l) in
        one_step (first (suc m) c w s unclear e g f (omega arith))
        (beyond (standing m c (group_word m c) (asked w s) t (lower m c g) low) (standing m d (group_word m d) t u (upper m c g) high))
    heart (single {c = c} {word = w} {s = s} e) g f l =
        let q = room_most (follows zero c) (s.counts.requests + 1) l in
        one_step (first zero c w s unclear e g f (omega arith)) here
