-- `some_above`: what was found is whether a load before the place is above.
-- Assumes nothing.
use Rattle.std.proofs.Common.{◌≡◌, ℕ, List, Bool, ltb, get_or}
use Rattle.lists.specs.Sends.{some}
use Rattle.lists.proofs.loads.some_above.Given as goal

abbrev pub above : List ℕ → ℕ → ℕ → Bool
above loads most k = ltb most (get_or loads k 0)

abbrev pub invariant-loop-load : goal.invariant-loop-load
invariant-loop-load l = l.found ≡ some l.load-index (above l.loads l.most)
