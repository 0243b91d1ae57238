-- How long the lines of a list can be.
-- Assumes nothing.
use Prim.Native.Nat.{ℕ, suc, ◌*◌, ◌^◌, ◌≤◌}
use mathlib.Core.Path.{◌≡◌}
use mathlib.Core.List.{List, [], ◌∷◌}
use native.Mathlib.Omega.{arith}
use lib.ListN.{length, take, drop, length-append, length-take, length-drop}
use Rattle.numbers.specs.Number.{sum}
use Rattle.lists.specs.Values.{Cycle, words_of}
use Rattle.lists.specs.Sends.{cut_by, subcycles}
use Rattle.list_text.specs.Text.{space, newline, word_line, word_lines, subcycle_lines, cycle_lines}
use Rattle.list_text.proofs.LineLaws.{decimal_few, decimal_some, field_length, line_length}

pub line_some : (cycle sub w : ℕ) → 8 ≤ length (word_line cycle sub w)
line_some cycle sub w = omega (arith, line_length cycle sub w, field_length cycle space, field_length sub newline, decimal_some cycle)

pub line_few : (cycle sub w : ℕ) → length (word_line cycle sub w) ≤ 15
line_few cycle sub w = omega (arith, line_length cycle sub w, field_length cycle space, field_length sub newline, decimal_few cycle, decimal_few sub)

pub lines_few : (cycle sub : ℕ) (ws : List ℕ) → length (word_lines cycle sub ws) ≤ 15 * length ws
lines_few cycle sub [] = omega arith
lines_few cycle sub (w ∷ ws) = omega (arith, length-append (word_line cycle sub w) (word_lines cycle sub ws), line_few cycle sub w, lines_few cycle sub ws)

pub lines_long : (cycle sub : ℕ) (ws : List ℕ) → length (word_lines cycle sub ws) ≡ length ws * length (word_line cycle sub 0)
lines_long cycle sub [] = omega arith
lines_long cycle sub (w ∷ ws) =
    omega (arith, length-append (word_line cycle sub w) (word_lines cycle sub ws), lines_long cycle sub ws, line_length cycle sub w, line_length cycle sub 0)

pub sum_few : (cycle sub : ℕ) (ws zs : List ℕ) → length (subcycle_lines cycle sub (cut_by ws zs)) ≤ 15 * sum zs
sum_few cycle sub ws [] = omega arith
sum_few cycle sub ws (z ∷ zs) =
    omega (arith, length-append (word_lines cycle sub (take z ws)) (subcycle_lines cycle (suc sub) (cut_by (drop z ws) zs)), lines_few cycle sub (take z ws), sum_few cycle (suc sub) (drop z ws) zs, length-take z ws)

cut_few : (cycle sub : ℕ) (ws zs : List ℕ) → length (subcycle_lines cycle sub (cut_by ws zs)) ≤ 15 * length ws
cut_few cycle sub ws [] = omega arith
cut_few cycle sub ws (z ∷ zs) =
    omega (arith, length-append (word_lines cycle sub (take z ws)) (subcycle_lines cycle (suc sub) (cut_by (drop z ws) zs)), lines_few cycle sub (take z ws), cut_few cycle (suc sub) (drop z ws) zs, length-take z ws, length-drop z ws)

cycle_few : (cycle : ℕ) (ws zs : List ℕ) → length (subcycle_lines cycle 0 (subcycles ws zs)) ≤ 15 * length ws
cycle_few cycle ws [] = omega (arith, length-append (word_lines cycle 0 ws) [], lines_few cycle 0 ws)
cycle_few cycle ws (z ∷ zs) = cut_few cycle 0 ws (z ∷ zs)

pub cycles_few : (n : ℕ) (cs : List Cycle) → length (cycle_lines n cs) ≤ 15 * length (words_of cs)
cycles_few n [] = omega arith
cycles_few n (c ∷ cs) =
    omega (arith, length-append (subcycle_lines (2 ^ n) 0 (subcycles c.words c.splits)) (cycle_lines (suc n) cs), cycle_few (2 ^ n) c.words c.splits, cycles_few (suc n) cs, length-append c.words (words_of cs))
