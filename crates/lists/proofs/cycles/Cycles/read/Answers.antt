-- `Cycles::read`: by `CycleLaws`.
-- Assumes nothing.
use Rattle.std.proofs.Common.{arith}
use Rattle.lists.proofs.CycleLaws.{count_few, loads_few, wide_long, wide_small, cycles_stop, cycles_next}
use Rattle.lists.proofs.cycles.Cycles.read.Goals as goal

pub widen-requires : goal.widen-requires
widen-requires c = λ _. loads_few _ _ _ _ _ _ c.loop-n.invariant (omega arith)

pub read_one-requires-clause-small : goal.read_one-requires-clause-small
read_one-requires-clause-small c = wide_small _ _ _ _ _ _ c.loop-n.invariant _ c.widen.ensures c.args.self.now.weights.most (omega arith)

pub read_one-requires-clause-few : goal.read_one-requires-clause-few
read_one-requires-clause-few c = omega (arith, count_few _ _ _ _ _ _ c.loop-n.invariant)

pub returns-in-Err-clause-read : goal.returns-in-Err-clause-read
returns-in-Err-clause-read c =
    let s = c.loop-n.invariant in
    cycles_stop _ _ _ _ _ _ s _ c.widen.ensures c.loop-n-test.true _ (c.in-Err.ensures _ _ (wide_long _ _ _ _ _ _ s _ c.widen.ensures) s.are.marks)

pub loop-n-preserved : goal.loop-n-preserved
loop-n-preserved c =
    let s = c.loop-n.invariant in
    cycles_next _ _ _ _ _ _ s _ c.widen.ensures c.loop-n-test.true _ _ (c.in_default.ensures _ _ (wide_long _ _ _ _ _ _ s _ c.widen.ensures) s.are.marks)
