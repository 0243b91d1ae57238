-- The blocks so far are right.
-- Assumes nothing.
use Rattle.std.proofs.Common.{◌≡◌, ◌≤◌}
use Rattle.frames.specs.Blocks.{right_blocks}
use Rattle.frames.proofs.blocks.right_run.Given as goal

abbrev pub invariant-loop-i : goal.invariant-loop-i
invariant-loop-i l = record { some : l.i ≤ l.count; right : right_blocks l.i l.size l.frame ≡ l.i }
