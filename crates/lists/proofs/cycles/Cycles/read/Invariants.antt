-- `Cycles::read`: the cycles read so far.
-- Assumes nothing.
use Rattle.numbers.specs.Answers.{left}
use Rattle.lists.proofs.CycleLaws.{CyclesSoFar}
use Rattle.lists.proofs.cycles.Cycles.read.Given as goal

abbrev pub invariant-loop-n : goal.invariant-loop-n
invariant-loop-n l = CyclesSoFar l.fn.self.weights.by_f_code l.cycles l.n l.self (left l.fn.reader) (left l.reader)
