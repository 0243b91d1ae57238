-- No part, one more, and all.
-- Assumes nothing.
use Rattle.std.proofs.Common.{sym, ◌∙◌, arith}
use Rattle.port_table.proofs.Told.{tested_few}
use Rattle.ports.proofs.Ageing.{aged_none, part_more, aged_all}
use Rattle.ports.proofs.ticks.tick.Goals as goal

pub loop-part-init : goal.loop-part-init
loop-part-init c = record { shown = sym c.in-Some.is ∙ c.test_table.ensures; room = c.if-ages-count.false; done = aged_none c.args.table.now c.args.ages.now }

pub loop-part-preserved : goal.loop-part-preserved
loop-part-preserved c =
    let t = c.in-Some.tested in
    let ps = c.args.table.now in
    let k = c.loop-part in
    let v = k.invariant in
    record {
      shown = v.shown;
      room = omega (arith, v.room, c.age_part.auto.ages);
      done = part_more t ps v.shown c.args.ages.now k.ages k.part v.done (let f = tested_few t ps v.shown in omega (arith, f.0, f.1, c.loop-part-test.true)) _ c.part_end-to.ensures _ c.age_part.ensures;
    }

pub returns : goal.returns
returns c =
    let k = c.loop-part in
    aged_all c.in-Some.tested c.args.table.now k.invariant.shown c.args.ages.now k.ages k.part k.invariant.done (omega (arith, c.loop-part-test.false)) c.if-ages-count.false
