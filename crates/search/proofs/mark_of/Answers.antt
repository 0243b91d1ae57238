-- `search::mark_of` meets its contract: the goals that the check leaves open.
-- Assumes nothing.
use Rattle.std.proofs.Common.{arith}
use Rattle.search.proofs.Layers.{marks_end}
use Rattle.search.proofs.mark_of.Goals as goal

pub returns-clause-within : goal.returns-clause-within
returns-clause-within c = omega (arith, c.first_mark.ensures, marks_end c.args.m c.args.c c.requires)
