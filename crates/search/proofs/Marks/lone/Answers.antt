-- `search::Marks::lone` meets its contract: the goals that the check leaves open.
-- Assumes nothing.
use Rattle.std.proofs.Common.{length, sym, ap, ◌∙◌, arith}
use Rattle.search.specs.Searches.{in_set}
use Rattle.search.proofs.Descent.{lower_group, half_has_it, single}
use Rattle.search.proofs.Marks.lone.Goals as goal

pub half-half-requires : goal.half-half-requires
half-half-requires c = lower_group (in_set c.args.self.now) c.loop-k.k c.loop-k.half (omega arith) c.loop-k.invariant.group

pub loop-k-preserved : goal.loop-k-preserved
loop-k-preserved c =
    let inv = c.loop-k.invariant in
    let r = half_has_it (in_set c.args.self.now) c.loop-k.k c.loop-k.half (omega arith) inv.group (ap length inv.same ∙ c.requires.1) c.half-half.result c.half-half.ensures in
    record { group = r.0; same = r.1 ∙ inv.same }

pub returns : goal.returns
returns c =
    let inv = c.loop-k.invariant in
    let r = single (in_set c.args.self.now) c.loop-k.k c.loop-k.half (omega arith) inv.group (ap length inv.same ∙ c.requires.1) in
    (sym inv.same ∙ r.0, r.1)
