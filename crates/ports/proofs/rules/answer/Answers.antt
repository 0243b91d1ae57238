-- Where the search gives up: by what is left of the order, and by what the frame's writer answers.
-- Assumes nothing.
use Rattle.ports.proofs.Frames.{written_small}
use Rattle.ports.proofs.Found.{sized}
use Rattle.ports.proofs.Order.{answer_done}
use Rattle.ports.proofs.rules.answer.Goals as goal

pub returns-clause-small : goal.returns-clause-small
returns-clause-small c = written_small _ _ _ _ c.slave_write.ensures.0

pub returns-clause-answers : goal.returns-clause-answers
returns-clause-answers c = answer_done _ _ _ _ c.in-Some.seen c.in-Some.ensures c.in-Some-place.place c.in-Some-place.is c.if-store-seen.false c.if-f_code-gt4.false c.if-place-f_code.false c.if-place-ne0.false _ (sized _ _ _ _ c.in-Some.ensures c.in-Some-place.is) _ c.slave_write.ensures.0 _ c.slave_write.ensures.1
