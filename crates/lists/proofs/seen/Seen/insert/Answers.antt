-- `Seen::insert`: a bit that is set clashes, one that is not is set.
-- Assumes nothing.
use borrow.Author.Rules.{rules}
use Rattle.lists.proofs.SeenLaws.{old, new_fits, new}
use Rattle.lists.proofs.seen.Seen.insert.Goals as goal

pub returns-then-self-i-eq1 : goal.returns-then-self-i-eq1
returns-then-self-i-eq1 c = old _ _ _ c.requires c.mark-mark.ensures.0 c.mark-mark.ensures.1 c.if-self-i-eq1.true _

pub overflow_add-self : goal.overflow_add-self
overflow_add-self c = record { fits = new_fits c.args.self.now.marks _ _ c.requires c.mark-mark.ensures.0 c.mark-mark.ensures.1 c.if-self-i-eq1.false (search rules) }

pub returns : goal.returns
returns c = new _ _ _ c.requires c.mark-mark.ensures.0 c.mark-mark.ensures.1 c.if-self-i-eq1.false
