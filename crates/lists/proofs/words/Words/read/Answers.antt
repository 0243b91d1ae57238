-- `Words::read`: by `WordLaws`.
-- Assumes nothing.
use Rattle.std.proofs.Common.{append_assoc, arith}
use Rattle.std.proofs.lemmas.Grind.{common_steps}
use Rattle.lists.proofs.WordLaws.{words_next, words_stop}
use Rattle.lists.proofs.words.Words.read.Goals as goal

pub returns-in-Err-clause-read : goal.returns-in-Err-clause-read
returns-in-Err-clause-read c = λ listed m.
    words_stop _ _ listed c.loop.self _ _ c.loop-test.true (c.loop.invariant.left listed m) _ (c.in-Err.ensures.read _ (c.loop.invariant.marked listed m))

pub loop-preserved : goal.loop-preserved
loop-preserved c = record {
  many = grind (arith, common_steps);
  marked = λ listed m. rw (c.push.ensures, ← append_assoc) (c.in-Ok.ensures.marked _ (c.loop.invariant.marked listed m));
  left = λ listed m. rw c.push.ensures (words_next _ _ listed c.loop.self _ _ c.loop-test.true (c.loop.invariant.left listed m) _ _ (c.in-Ok.ensures.read _ (c.loop.invariant.marked listed m)));
}
