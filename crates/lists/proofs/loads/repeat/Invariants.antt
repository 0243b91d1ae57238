-- `repeat`: the front stands again behind itself, so far.
-- Assumes nothing.
use Rattle.std.proofs.Common.{◌≡◌, ◌+◌, ◌++◌, length, take}
use Rattle.lists.proofs.loads.repeat.Given as goal

abbrev pub invariant-loop-i : goal.invariant-loop-i
invariant-loop-i l = (length l.loads ≡ length l.fn.loads) × (take (l.len + l.i) l.loads ≡ take l.len l.fn.loads ++ take l.i l.fn.loads)
