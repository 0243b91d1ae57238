-- The last record, two more, and all.
-- Assumes nothing.
use Rattle.std.proofs.Common.{◌*◌, sym, ◌∙◌, arith}
use Rattle.port_table.proofs.Back.{last_bad, last_on, last_here, kept_even, upper_bad, lower_bad, pair_on, pair_here, kept_all}
use Rattle.port_table.proofs.test_table.Goals as goal
use Rattle.port_table.proofs.test_table.Goals.{then-count-eq1+else-not-fits+then-count-eq1-2, then-count-eq1+else-not-fits+else-count-eq1-2, else-count-eq1, then-not-fits-2-via-then-not-fits-2, then-not-fits-2-via-else-not-fits-2+then-not-fits-3}

pub returns-then-not-fits : goal.returns-then-not-fits
returns-then-not-fits c = last_bad c.args.table.now c.if-count-gt256.false c.if-count-eq1.true _ (omega arith) (sym c.fits.ensures ∙ c.if-not-fits.true)

pub loop-pair-init : goal.loop-pair-init
loop-pair-init c =
    elim c.if-count-eq1.branch [
      | then-count-eq1+else-not-fits+then-count-eq1-2 w ↦
          rw (w.limit-is, w.bits-is, w.sinks-is)
          (last_here c.args.table.now c.if-count-gt256.false w.if-count-eq1.true (sym w.fits.ensures ∙ w.if-not-fits.false) w.sink_bit-bits.result w.sink_bit-bits.ensures w.if-count-eq1-2.true)
      | then-count-eq1+else-not-fits+else-count-eq1-2 w ↦
          rw (w.limit-is, w.bits-is, w.sinks-is)
          (last_on c.args.table.now c.if-count-gt256.false w.if-count-eq1.true (sym w.fits.ensures ∙ w.if-not-fits.false) w.sink_bit-bits.result w.sink_bit-bits.ensures w.if-count-eq1-2.false)
      | else-count-eq1 w ↦ rw (w.limit-is, w.bits-is, w.sinks-is) (kept_even c.args.table.now c.if-count-gt256.false w.if-count-eq1.false)
    ]

pub returns-then-not-fits-2 : goal.returns-then-not-fits-2
returns-then-not-fits-2 c =
    let k = c.loop-pair in
    elim c.then-not-fits-2.branch [
      | then-not-fits-2-via-then-not-fits-2 w ↦ upper_bad c.args.table.now k.pair k.limit k.bits k.sinks k.invariant c.loop-pair-test.true (omega (arith, k.auto.pair)) (sym c.fits-in-loop-pair.ensures ∙ w.if-not-fits-2.true)
      | then-not-fits-2-via-else-not-fits-2+then-not-fits-3 w ↦
          lower_bad c.args.table.now k.pair k.limit k.bits k.sinks k.invariant c.loop-pair-test.true (omega (arith, k.auto.pair))
          (sym c.fits-in-loop-pair.ensures ∙ w.if-not-fits-2.false) (sym w.fits-else-not-fits-2.ensures ∙ w.if-not-fits-3.true)
    ]

pub loop-pair-preserved-then-pair-eq0 : goal.loop-pair-preserved-then-pair-eq0
loop-pair-preserved-then-pair-eq0 c =
    let k = c.loop-pair in
    pair_here c.args.table.now k.pair k.limit k.bits k.sinks k.invariant c.loop-pair-test.true (omega (arith, k.auto.pair))
    (sym c.fits-in-loop-pair.ensures ∙ c.if-not-fits-2.false) (sym c.fits-else-not-fits-2.ensures ∙ c.if-not-fits-3.false)
    c.sink_bit.result c.sink_bit-in-loop-pair.result c.sink_bit.ensures c.sink_bit-in-loop-pair.ensures c.if-pair-eq0.true

pub loop-pair-preserved : goal.loop-pair-preserved
loop-pair-preserved c =
    let k = c.loop-pair in
    pair_on c.args.table.now k.pair k.limit k.bits k.sinks k.invariant c.loop-pair-test.true (omega (arith, k.auto.pair))
    (sym c.fits-in-loop-pair.ensures ∙ c.if-not-fits-2.false) (sym c.fits-else-not-fits-2.ensures ∙ c.if-not-fits-3.false)
    c.sink_bit.result c.sink_bit-in-loop-pair.result c.sink_bit.ensures c.sink_bit-in-loop-pair.ensures c.if-pair-eq0.false

pub returns : goal.returns
returns c = let k = c.loop-pair in kept_all c.args.table.now (2 * k.pair) k.limit k.bits k.sinks k.invariant (omega (arith, c.loop-pair-test.false))
