-- Where a read leads on: on any line there is a walk of every group, and it makes at most 2^(M+1) - 1 requests and 2^M reads.
-- Assumes nothing.
use mathlib.Core.Path.{◌≡◌, refl}
use mathlib.Core.List.{◌∷◌}
use Prim.Native.Nat.{ℕ, zero, suc, ◌+◌, ◌-◌, ◌^◌, ◌≤◌}
use native.Mathlib.Omega.{arith}
use lib.Pow.{pow_pos}
use Rattle.groups.specs.Groups.{group_word, follows}
use Rattle.groups.proofs.Follow.{Group, in_lower, in_upper, never_itself}
use Rattle.groups.proofs.Powers.{doubled}
use Rattle.rounds.specs.Rounds.{Verdict, nobody, named, unclear}
use Rattle.rounds.specs.Walks.{Seen, asked, read, left, Hearing, Walk, silence, reply, again, halves, single}

module _ (hear : Hearing) where
  abbrev pub Copper : ℕ → ℕ → ℕ → Seen → Seen → Type 0
  Copper m c w s t = Walk hear follows m c w s t

  pub walks : (m c w : ℕ) (s : Seen) → (t : Seen) × Copper m c w s t
  walks zero c w s = by (hear (w ∷ s.sent) zero c) refl
    where
      by : (v : Verdict) → hear (w ∷ s.sent) zero c ≡ v → (t : Seen) × Copper zero c w s t
      by nobody e = (asked w s, silence e)
      by (named x) e = (read x (asked w s), reply e refl)
      by unclear e = (left (asked w s), single e)
  walks (suc m) c w s =
      let low = walks m c (group_word m c) (asked w s) in
      let d = c + 2 ^ (12 - suc m) in
      let high = walks m d (group_word m d) low.0 in
      by (hear (w ∷ s.sent) (suc m) c) refl low high
    where
      by : (v : Verdict) → hear (w ∷ s.sent) (suc m) c ≡ v → (low : (t : Seen) × Copper m c (group_word m c) (asked w s) t) →
          (u : Seen) × Copper m (c + 2 ^ (12 - suc m)) (group_word m (c + 2 ^ (12 - suc m))) low.0 u → (t : Seen) × Copper (suc m) c w s t
      by nobody e low high = (asked w s, silence e)
      by (named x) e low high = (read x (asked w s), reply e refl)
      by unclear e low high = (high.0, halves e low.1 high.1)

  pub record Few (m : ℕ) (s t : Seen) : Type 0 where
    pub requests : t.counts.requests + 1 ≤ s.counts.requests + 2 ^ suc m
    pub events : t.counts.reads + t.counts.unresolved ≤ s.counts.reads + s.counts.unresolved + 2 ^ m

  pub few : {m c w : ℕ} {s t : Seen} → Copper m c w s t → Group m c → Few m s t
  few (silence {m = m} e) g = record { requests = omega (arith, pow_pos m, doubled m); events = omega arith }
  few (reply {m = m} e l) g = record { requests = omega (arith, pow_pos m, doubled m); events = omega (arith, pow_pos m) }
  few (again {m = m} {c = c} e l a) g = absurd (never_itself m c g l)
  few (halves {m = m} {c = c} e a b) g =
      let x = few a (in_lower m c g) in
      let y = few b (in_upper m c g) in
      let x₁ = x.requests in
      let x₂ = x.events in
      let y₁ = y.requests in
      let y₂ = y.events in
      record { requests = omega (arith, doubled (suc m)); events = omega (arith, doubled m) }
  few (single e) g = record { requests = omega arith; events = omega arith }
