-- `pass_numbers` meets its promise: each turn passes over one byte.
-- Assumes nothing.
use mathlib.Core.Path.{◌≡◌}
use Prim.Native.Nat.{◌+◌}
use lib.ListN.{drop}
use Rattle.periods.specs.Inside.{after}
use Rattle.list_text.proofs.lines.pass_numbers.Given as goal

abbrev pub invariant-loop-place : goal.invariant-loop-place
invariant-loop-place l = l.place + after l.left (drop l.place l.list) ≡ l.at + after l.many (drop l.at l.list)
