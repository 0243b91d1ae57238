-- The hash so far is that of the numbers so far.
-- Assumes nothing.
use Rattle.std.proofs.Common.{◌≡◌, take}
use Rattle.cases.specs.Hash.{hash_of_numbers}
use Rattle.cases.proofs.FnvFromRefSliceU16.from.Given as goal

abbrev pub invariant-loop-number : goal.invariant-loop-number
invariant-loop-number l = l.hash.0 ≡ hash_of_numbers (take l.number-index l.numbers)
