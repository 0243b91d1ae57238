-- `period_words` meets its promise: its loop by `PeriodLaws`.
-- Assumes nothing.
use native.Mathlib.Omega.{arith}
use Rattle.periods.proofs.WalkLaws.{cycle_here}
use Rattle.periods.proofs.PeriodLaws.{after_header_lem, start, end, size_fits, sub-fits, m_few, more}
use Rattle.periods.proofs.period_words.Goals as goal

pub loop-n-init : goal.loop-n-init
loop-n-init c = start c.args.list.now c.args.ms c.args.j c.cycles_of-cycles.result c.args.out.now c.requires.0 c.requires.1 c.requires.2 c.cycles_of-cycles.ensures _ (after_header_lem c.args.list.now c.args.ms c.requires.0 _ _ c.sum_numbers-header.ensures)

pub put_subcycle-c-requires : goal.put_subcycle-c-requires
put_subcycle-c-requires c = (cycle_here c.args.list.now c.args.ms c.cycles_of-cycles.result _ _ _ c.loop-n.invariant.at c.loop-n-test.true, sub-fits c.args.list.now c.args.ms c.args.j c.cycles_of-cycles.result c.args.out.now _ _ _ _ _ c.loop-n.invariant c.loop-n-test.true)

pub overflow_add-k : goal.overflow_add-k
overflow_add-k c = record { fits = omega (arith, m_few c.args.list.now c.args.ms c.args.j c.cycles_of-cycles.result c.args.out.now _ _ _ _ _ c.loop-n.invariant c.loop-n-test.true _ c.put_subcycle-c.result.many c.put_subcycle-c.result.next (c.put_subcycle-c.ensures (cycle_here c.args.list.now c.args.ms c.cycles_of-cycles.result _ _ _ c.loop-n.invariant.at c.loop-n-test.true) (sub-fits c.args.list.now c.args.ms c.args.j c.cycles_of-cycles.result c.args.out.now _ _ _ _ _ c.loop-n.invariant c.loop-n-test.true))) }

pub overflow_add-size : goal.overflow_add-size
overflow_add-size c = record { fits = omega (arith, size_fits c.args.list.now c.args.ms c.args.j c.cycles_of-cycles.result c.args.out.now _ _ _ _ _ c.loop-n.invariant c.loop-n-test.true) }

pub loop-n-preserved : goal.loop-n-preserved
loop-n-preserved c = more c.args.list.now c.args.ms c.args.j c.cycles_of-cycles.result c.args.out.now _ _ _ _ _ c.loop-n.invariant c.loop-n-test.true _ c.put_subcycle-c.result.many c.put_subcycle-c.result.next (c.put_subcycle-c.ensures (cycle_here c.args.list.now c.args.ms c.cycles_of-cycles.result _ _ _ c.loop-n.invariant.at c.loop-n-test.true) (sub-fits c.args.list.now c.args.ms c.args.j c.cycles_of-cycles.result c.args.out.now _ _ _ _ _ c.loop-n.invariant c.loop-n-test.true)) c.put_subcycle-c.auto.out

pub returns : goal.returns
returns c = end c.args.list.now c.args.ms c.args.j c.cycles_of-cycles.result c.args.out.now _ _ _ _ _ c.loop-n.invariant c.loop-n-test.false
