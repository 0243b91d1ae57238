-- `add_parts`: the split numbers read so far.
-- Assumes nothing.
use Rattle.std.proofs.Common.{◌*◌, ◌≤◌}
use Rattle.numbers.specs.Answers.{left}
use Rattle.lists.proofs.SplitLaws.{SplitsSoFar}
use Rattle.lists.proofs.loads.add_parts.Given as goal

abbrev pub invariant-loop-load : goal.invariant-loop-load
invariant-loop-load l = record {
  few : l.total ≤ 256 * l.load-index;
  so_far : SplitsSoFar l.weights.by_f_code l.words l.fn.loads l.loads (left l.fn.reader) (left l.reader) l.total l.load-index;
}
