-- The bytes before i are copied.
-- Assumes nothing.
use Rattle.std.proofs.Common.{◌≡◌, ◌++◌, ◌≤◌, length, take, drop}
use Rattle.runs.proofs.copy_front.Given as goal

abbrev pub invariant-loop-i : goal.invariant-loop-i
invariant-loop-i l = record {
  read : l.i ≤ length l.from;
  copied : l.to ≡ take l.i l.from ++ drop l.i l.initial.to;
}
