-- The loop over the cycles of a list that is written so: their lines.
-- Assumes nothing.
use Prim.Native.Nat.{ℕ, suc, ◌+◌, ◌^◌, ◌≤◌, ◌<◌}
use mathlib.Core.Path.{◌≡◌, refl, ap, sym, ◌∙◌}
use mathlib.Core.List.{List, [], ◌∷◌, ◌++◌, append_assoc, append-nil}
use native.Mathlib.Omega.{arith}
use lib.ListN.{length, drop, length-append}
use Rattle.numbers.specs.Written.{written}
use Rattle.lists.specs.Values.{Cycle, cycles_of, words_of}
use Rattle.lists.specs.Sends.{subcycles}
use Rattle.list_laws.specs.Written.{cycles_numbers}
use Rattle.lists.proofs.SentLaws.{words_append}
use Rattle.periods.proofs.WalkLaws.{Walk, walk_start, walk_more, all_done, next, cycle_here}
use Rattle.list_text.specs.Text.{subcycle_lines, cycle_lines}
use Rattle.list_text.specs.Inside.{Few, Wrote, LinesPut, lines_of, CycleFew, CyclesHere, CyclesWrote}
use Rattle.list_text.proofs.LengthLaws.{cycles_few}
use Rattle.list_text.proofs.WroteLaws.{and_then, as_bytes, wrote_none}

cycles_append : (n : ℕ) (cs ds : List Cycle) → cycle_lines n (cs ++ ds) ≡ cycle_lines n cs ++ cycle_lines (n + length cs) ds
cycles_append n [] ds = let e : n ≡ n + 0 = omega arith in ap (λ (k : ℕ). cycle_lines k ds) e
cycles_append n (c ∷ cs) ds =
    let e : suc n + length cs ≡ n + suc (length cs) = omega arith in
    ap (λ (l : List ℕ). subcycle_lines (2 ^ n) 0 (subcycles c.words c.splits) ++ l) (cycles_append (suc n) cs ds ∙ ap (λ (k : ℕ). cycle_lines (suc n) cs ++ cycle_lines k ds) e)
    ∙ sym (append_assoc (subcycle_lines (2 ^ n) 0 (subcycles c.words c.splits)) (cycle_lines (suc n) cs) (cycle_lines (n + suc (length cs)) ds))

-- ---- one cycle more
module _ (s : List ℕ) (ms cycles p n size : ℕ) (at : Walk s ms cycles p n size) (h : n < cycles) where
  one_more : cycle_lines 0 (at.done ++ (next s ms cycles p n size at h).c ∷ []) ≡ cycle_lines 0 at.done ++ lines_of size (next s ms cycles p n size at h).c
  one_more =
      let z : 0 + length at.done ≡ n = omega (arith, at.many) in
      cycles_append 0 at.done ((next s ms cycles p n size at h).c ∷ []) ∙ ap (λ (m : ℕ). cycle_lines 0 at.done ++ cycle_lines m ((next s ms cycles p n size at h).c ∷ [])) z
      ∙ ap (λ (u : List ℕ). cycle_lines 0 at.done ++ u) (append-nil (lines_of (2 ^ n) (next s ms cycles p n size at h).c) ∙ ap (λ (x : ℕ). lines_of x (next s ms cycles p n size at h).c) (sym at.power))

  -- the words of the cycles before and of this one
  pub words_within : length (words_of at.done) + length (next s ms cycles p n size at h).c.words ≤ length (words_of at.known.l.cycles)
  words_within =
      omega (
        arith,
        ap (λ (x : List Cycle). length (words_of x)) (at.both ∙ ap (λ (x : List Cycle). at.done ++ x) (next s ms cycles p n size at h).is),
        ap length (words_append at.done ((next s ms cycles p n size at h).c ∷ (next s ms cycles p n size at h).later)),
        length-append (words_of at.done) (words_of ((next s ms cycles p n size at h).c ∷ (next s ms cycles p n size at h).later)),
        length-append (next s ms cycles p n size at h).c.words (words_of (next s ms cycles p n size at h).later),
      )

-- ---- writing
pub record Writing (s : List ℕ) (ms cycles to : ℕ) (out₀ out : List ℕ) (p q n size : ℕ) : Type 0 where
  pub at : Walk s ms cycles p n size
  pub few : Few to (length (words_of at.known.l.cycles))
  pub long : length out ≡ length out₀
  pub wrote : Wrote to (cycle_lines 0 at.done) out₀ out q

module _ (s : List ℕ) (ms cycles to : ℕ) (out₀ : List ℕ) where
  pub writing_start : (k : CyclesHere s ms to) → cycles ≡ cycles_of ms → (p : ℕ) → drop p s ≡ written (cycles_numbers k.known.l.cycles) → Writing s ms cycles to out₀ out₀ p to 0 1
  writing_start k c p b = record { at = walk_start s ms cycles k.known c p b; few = k.few; long = refl; wrote = wrote_none to out₀ }

  module _ (out : List ℕ) (p q n size : ℕ) (inv : Writing s ms cycles to out₀ out p q n size) where
    pub writing_end : cycles ≤ n → CyclesWrote s to out₀ out q
    writing_end h m o w = as_bytes to (cycle_lines 0 inv.at.done) (cycle_lines 0 m.cycles) out₀ out q (ap (cycle_lines 0) (all_done s ms cycles p n size inv.at h m o w)) inv.wrote

    module _ (h : n < cycles) where
      abbrev pub next_few : CycleFew s p size q
      next_few =
          record {
            here = cycle_here s ms cycles p n size inv.at h;
            few = omega (
              arith,
              inv.few,
              inv.wrote.next,
              cycles_few 0 inv.at.done,
              words_within s ms cycles p n size inv.at h,
            );
          }

      pub writing_more : (out' : List ℕ) (q' p' : ℕ) → LinesPut s q (lines_of size next_few.here.c) next_few.here.rest out out' q' p' → length out' ≡ length out
          → Writing s ms cycles to out₀ out' p' q' (n + 1) (size + size)
      writing_more out' q' p' w k =
          record {
            at = walk_more s ms cycles p n size inv.at h p' w.1;
            few = inv.few;
            long = k ∙ inv.long;
            wrote = as_bytes to (cycle_lines 0 inv.at.done ++ lines_of size (next s ms cycles p n size inv.at h).c) (cycle_lines 0 (inv.at.done ++ (next s ms cycles p n size inv.at h).c ∷ [])) out₀ out' q' (sym (one_more s ms cycles p n size inv.at h))
                (and_then to (cycle_lines 0 inv.at.done) (lines_of size (next s ms cycles p n size inv.at h).c) out₀ out out' q q' inv.long inv.wrote w.0);
          }
