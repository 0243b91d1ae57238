-- `periods::skips::after_few` meets its contract: each turn passes over one byte.
-- Assumes nothing.
use mathlib.Core.Path.{sym, ◌∙◌}
use Prim.Native.Nat.{◌<◌}
use native.Mathlib.Omega.{arith}
use lib.ListN.{length}
use Rattle.periods.proofs.SkipLaws.{no_bytes, last_byte, other_byte}
use Rattle.periods.proofs.skips.after_few.Goals as goal
use Rattle.periods.proofs.skips.after_few.Goals.{then-byte-lt128, else-byte-lt128}

pub loop-i-preserved : goal.loop-i-preserved
loop-i-preserved c = let bytes = c.args.bytes.now in
    let left : c.loop-i.i < length bytes = c.loop-i-test.true in
    let some : 0 < c.loop-i.k = omega (arith, c.if-k-eq0.false) in
    elim c.if-byte-lt128.branch [
      | then-byte-lt128 w ↦ sym (last_byte bytes c.loop-i.i c.loop-i.k left some w.if-byte-lt128.true c.if-byte-lt128.k w.k-is) ∙ c.loop-i.invariant
      | else-byte-lt128 w ↦ sym (other_byte bytes c.loop-i.i c.loop-i.k left some w.if-byte-lt128.false c.if-byte-lt128.k w.k-is) ∙ c.loop-i.invariant
    ]

pub returns : goal.returns
returns c = (omega (arith, c.loop-i.invariant, no_bytes c.args.bytes.now c.loop-i.i c.loop-i.k c.loop-i-test.false, c.loop-i.auto.i-end), omega arith)
