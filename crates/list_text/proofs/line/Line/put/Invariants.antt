-- `Line::put` meets its promise: each turn copies one byte.
-- Assumes nothing.
use Prim.Native.Nat.{◌+◌, ◌≤◌}
use mathlib.Core.Path.{◌≡◌}
use lib.ListN.{length, take}
use Rattle.list_text.specs.Inside.{wrote_at}
use Rattle.list_text.proofs.line.Line.put.Given as goal

abbrev pub invariant-loop-i : goal.invariant-loop-i
invariant-loop-i l = (l.at + length l.self ≤ length l.initial.out) × (length l.out ≡ length l.initial.out) × (l.out ≡ wrote_at l.at (take l.i l.self) l.initial.out)
