-- `add_subcycles`: by `SplitLaws`, a law for each way out.
-- Assumes nothing.
use Rattle.std.proofs.Common.{arith}
use Rattle.lists.proofs.WordLaws.{weigh_few}
use Rattle.lists.proofs.SplitLaws.{adds_first, adds_none, adds_parts}
use Rattle.lists.proofs.loads.add_subcycles.Goals as goal

pub overflow_add-loads : goal.overflow_add-loads
overflow_add-loads c = record { fits = omega (arith, c.sum.ensures, weigh_few c.args.weights.now.by_f_code c.args.words.now c.args.weights.now.most, c.requires.small.at 0) }

pub returns-then-loads-eq1 : goal.returns-then-loads-eq1
returns-then-loads-eq1 c = λ n p. rw c.sum.ensures (adds_first _ n _ _ _ p c.if-loads-eq1.true)

pub returns-then-words-eq0 : goal.returns-then-words-eq0
returns-then-words-eq0 c = λ n p. adds_none _ n _ _ _ c.if-words-eq0.true

pub returns : goal.returns
returns c = λ n p. adds_parts _ n _ _ _ _ _ _ p c.if-loads-eq1.false c.if-words-eq0.false c.add_parts.ensures
