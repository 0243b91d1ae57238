-- `search::Marks::half` meets its contract: the goals that the check leaves open.
-- Assumes nothing.
use Rattle.std.proofs.Common.{ℕ, List, ◌≡◌, ◌+◌, ◌-◌, ◌*◌, ◌^◌, ◌∙◌, leb, length, ap, subst, arith}
use Rattle.groups.specs.Sets.{devices}
use Rattle.search.specs.Searches.{in_set}
use Rattle.search.proofs.Layers.{marks_end}
use Rattle.search.proofs.Descent.{offset_mark, offset_half}
use Rattle.search.proofs.Marks.half.Goals as goal

pub overflow_add-offset : goal.overflow_add-offset
overflow_add-offset c = omega (arith, offset_mark c.args.m c.args.c _ c.requires.0 c.first_mark-offset.ensures, marks_end c.args.m c.args.c c.requires.1)

pub bit-lower-requires : goal.bit-lower-requires
bit-lower-requires c = omega (arith, offset_mark c.args.m c.args.c _ c.requires.0 c.first_mark-offset.ensures, marks_end c.args.m c.args.c c.requires.1, c.self.invariant.any_length)

pub overflow_add-result : goal.overflow_add-result
overflow_add-result c = omega (arith, offset_mark c.args.m c.args.c _ c.requires.0 c.first_mark-offset.ensures, marks_end c.args.m c.args.c c.requires.1)

pub returns : goal.returns
returns c =
    let (t, g) = c.requires in
    let any = c.self.inside.any in
    let mark = ap (in_set any) (offset_mark c.args.m c.args.c _ t c.first_mark-offset.ensures) in
    let lower = subst (λ (bytes : List ℕ). in_set any (2 * c.first_mark-offset.result + c.args.c) ≡ leb 1 (length (devices (in_set bytes) c.args.m c.args.c))) c.self.view_is
    (mark ∙ c.self.invariant.ones c.args.m c.args.c g (omega arith)) in
    let d : 12 - (c.args.m + 1) ≡ 11 - c.args.m = omega arith in
    let offset = c.first_mark-offset.ensures ∙ ap (λ (k : ℕ). 2 ^ k) d in
    rw (← lower, ← offset) (offset_half c.args.c _ _ _ _ c.bit-lower.ensures c.times_bit.ensures)
