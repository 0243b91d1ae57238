-- The hash so far is that of the bytes so far.
-- Assumes nothing.
use Rattle.std.proofs.Common.{◌≡◌, take}
use Rattle.cases.specs.Hash.{hashed}
use Rattle.cases.proofs.FnvHasher.write.Given as goal

abbrev pub invariant-loop-byte : goal.invariant-loop-byte
invariant-loop-byte l = l.self.0 ≡ hashed l.initial.self.0 (take l.byte-index l.bytes)
