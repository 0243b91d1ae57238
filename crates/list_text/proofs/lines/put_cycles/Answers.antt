-- `put_cycles` meets its promise: its loop by `CyclesLaws`.
-- Assumes nothing.
use native.Mathlib.Omega.{arith}
use Rattle.periods.proofs.WalkLaws.{size_small}
use Rattle.periods.proofs.PeriodLaws.{after_header_lem}
use Rattle.list_text.proofs.CyclesLaws.{writing_start, writing_end, next_few, writing_more}
use Rattle.list_text.proofs.lines.put_cycles.Goals as goal

pub loop-n-init : goal.loop-n-init
loop-n-init c = writing_start c.args.list.now c.args.ms c.cycles_of-cycles.result c.args.at c.args.out.now c.requires c.cycles_of-cycles.ensures _ (after_header_lem c.args.list.now c.args.ms c.requires.known _ _ c.sum_numbers-header.ensures)

pub put_cycle-requires : goal.put_cycle-requires
put_cycle-requires c = next_few c.args.list.now c.args.ms c.cycles_of-cycles.result c.args.at c.args.out.now _ _ _ _ _ c.loop-n.invariant c.loop-n-test.true

pub overflow_add-size : goal.overflow_add-size
overflow_add-size c = record { fits = omega (arith, size_small c.args.list.now c.args.ms c.cycles_of-cycles.result _ _ _ c.loop-n.invariant.at c.loop-n-test.true) }

pub loop-n-preserved : goal.loop-n-preserved
loop-n-preserved c = writing_more c.args.list.now c.args.ms c.cycles_of-cycles.result c.args.at c.args.out.now _ _ _ _ _ c.loop-n.invariant c.loop-n-test.true _ c.put_cycle.new.places.written c.put_cycle.new.places.read
    (c.put_cycle.ensures (next_few c.args.list.now c.args.ms c.cycles_of-cycles.result c.args.at c.args.out.now _ _ _ _ _ c.loop-n.invariant c.loop-n-test.true)) c.put_cycle.auto.out

pub returns : goal.returns
returns c = writing_end c.args.list.now c.args.ms c.cycles_of-cycles.result c.args.at c.args.out.now _ _ _ _ _ c.loop-n.invariant c.loop-n-test.false
