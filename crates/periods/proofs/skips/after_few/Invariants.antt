-- `periods::skips::after_few` meets its contract: each turn passes over one byte.
-- Assumes nothing.
use mathlib.Core.Path.{◌≡◌}
use Prim.Native.Nat.{◌+◌}
use lib.ListN.{drop}
use Rattle.periods.specs.Inside.{after}
use Rattle.periods.proofs.skips.after_few.Given as goal

abbrev pub invariant-loop-i : goal.invariant-loop-i
invariant-loop-i l = l.i + after l.k (drop l.i l.bytes) ≡ after l.left l.bytes
