-- A walk over the cycles of a list that is written so: what is left after some of them.
-- Assumes nothing.
use Prim.Native.Nat.{ℕ, suc, ◌+◌, ◌^◌, ◌≤◌, ◌<◌}
use mathlib.Core.Path.{◌≡◌, refl, ap, sym, ◌∙◌, subst}
use mathlib.Core.List.{List, [], ◌∷◌, ◌++◌, append_assoc, append-nil}
use native.Mathlib.Omega.{arith}
use lib.ListN.{length, drop, length-append}
use lib.Pow.{pow_mono}
use Rattle.numbers.specs.Written.{written}
use Rattle.numbers.proofs.WrittenLaws.{written_append}
use Rattle.lists.specs.Values.{Cycle, PeriodicList, cycles_of}
use Rattle.list_laws.specs.Written.{cycle_numbers, cycles_numbers, file, CycleObeys, CyclesObey, Obeys}
use Rattle.lists.proofs.ListLaws.{cycles_most}
use Rattle.list_laws.proofs.Acceptance.{one_list}
use Rattle.periods.specs.Inside.{CycleHere, IsList}

pub obey_right : (n : ℕ) (cs ds : List Cycle) → CyclesObey n (cs ++ ds) → CyclesObey (n + length cs) ds
obey_right n [] ds o = let e : n ≡ n + 0 = omega arith in subst (λ (k : ℕ). CyclesObey k ds) e o
obey_right n (c ∷ cs) ds o = let e : suc n + length cs ≡ n + suc (length cs) = omega arith in subst (λ (k : ℕ). CyclesObey k ds) e (obey_right (suc n) cs ds o.1)

-- ---- the place in the list after some cycles
pub record Walk (s : List ℕ) (ms cycles p n size : ℕ) : Type 0 where
  pub known : IsList s ms
  pub all_cycles : cycles ≡ cycles_of ms
  pub below : n ≤ cycles
  pub power : size ≡ 2 ^ n
  pub done : List Cycle
  pub todo : List Cycle
  pub both : known.l.cycles ≡ done ++ todo
  pub many : length done ≡ n
  pub bytes : drop p s ≡ written (cycles_numbers todo)

abbrev pub walk_start : (s : List ℕ) (ms cycles : ℕ) (k : IsList s ms) → cycles ≡ cycles_of ms → (p : ℕ) → drop p s ≡ written (cycles_numbers k.l.cycles) → Walk s ms cycles p 0 1
walk_start s ms cycles k c p b =
    record { known = k; all_cycles = c; below = omega arith; power = refl; done = []; todo = k.l.cycles; both = refl; many = refl; bytes = b }

nothing_left : (cs : List Cycle) → length cs ≡ 0 → cs ≡ []
nothing_left [] e = refl
nothing_left (c ∷ cs) e = absurd (omega arith)

module _ (s : List ℕ) (ms cycles p n size : ℕ) (at : Walk s ms cycles p n size) where
  pub all_of : length at.done + length at.todo ≡ cycles
  all_of = sym (length-append at.done at.todo) ∙ ap length (sym at.both) ∙ at.known.obeys.many ∙ sym (at.all_cycles ∙ ap cycles_of at.known.same)

  pub all_done : cycles ≤ n → (m : PeriodicList) → Obeys m → file m ≡ s → at.done ≡ m.cycles
  all_done h m o w =
      let e : at.todo ≡ [] = nothing_left at.todo (omega (arith, all_of, at.many)) in
      let f : at.known.l ≡ m = one_list at.known.l m at.known.obeys o (at.known.written_so ∙ sym w) in
      sym (append-nil at.done) ∙ ap (λ (x : List Cycle). at.done ++ x) (sym e) ∙ sym at.both ∙ ap (λ (x : PeriodicList). x.cycles) f

  module _ (h : n < cycles) where
    pub small_n : n ≤ 10
    small_n = omega (arith, at.all_cycles, cycles_most ms)

    pub size_small : size ≤ 1024
    size_small = let b : 2 ^ n ≤ 2 ^ 10 = pow_mono small_n in omega (arith, at.power)

    pub record Next : Type 0 where
      pub c : Cycle
      pub later : List Cycle
      pub is : at.todo ≡ c ∷ later
      pub obeys : CycleObeys n c

    pub next : Next
    next = go at.todo refl
      where
        go : (cs : List Cycle) → at.todo ≡ cs → Next
        go [] e = absurd (omega (arith, all_of, at.many, ap length e))
        go (c ∷ later) e =
            let o : CyclesObey (0 + length at.done) (c ∷ later) = obey_right 0 at.done (c ∷ later) (subst (CyclesObey 0) (at.both ∙ ap (λ (x : List Cycle). at.done ++ x) e) at.known.obeys.cycles) in
            let z : 0 + length at.done ≡ n = omega (arith, at.many) in
            record { c = c; later = later; is = e; obeys = subst (λ (m : ℕ). CycleObeys m c) z o.0 }

    pub bytes_here : drop p s ≡ written (cycle_numbers next.c) ++ written (cycles_numbers next.later)
    bytes_here = at.bytes ∙ ap (λ (x : List Cycle). written (cycles_numbers x)) next.is ∙ written_append (cycle_numbers next.c) (cycles_numbers next.later)

    abbrev pub cycle_here : CycleHere s p size
    cycle_here = record { n = n; c = next.c; rest = written (cycles_numbers next.later); small = small_n; power = at.power; obeys = next.obeys; bytes = bytes_here }

    pub all_are : at.known.l.cycles ≡ (at.done ++ next.c ∷ []) ++ next.later
    all_are = at.both ∙ ap (λ (x : List Cycle). at.done ++ x) next.is ∙ sym (append_assoc at.done (next.c ∷ []) next.later)

    abbrev pub walk_more : (p' : ℕ) → drop p' s ≡ written (cycles_numbers next.later) → Walk s ms cycles p' (n + 1) (size + size)
    walk_more p' b =
        record {
          known = at.known;
          all_cycles = at.all_cycles;
          below = omega arith;
          power = let f : n + 1 ≡ suc n = omega arith in omega (arith, at.power, ap (λ (x : ℕ). 2 ^ x) f);
          done = at.done ++ next.c ∷ [];
          todo = next.later;
          both = all_are;
          many = omega (arith, length-append at.done (next.c ∷ []), at.many);
          bytes = b;
        }
