-- `Weights::sum`: what the words before the place weigh.
-- Assumes nothing.
use Rattle.std.proofs.Common.{◌≡◌, take}
use Rattle.lists.specs.Weights.{weigh}
use Rattle.lists.proofs.weights.Weights.sum.Given as goal

abbrev pub invariant-loop-word : goal.invariant-loop-word
invariant-loop-word l = l.sum ≡ weigh l.self.by_f_code (take l.word-index l.words)
