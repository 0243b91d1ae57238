-- Where the search gives up: by what is left of the order.
-- Assumes nothing.
use Rattle.ports.proofs.Found.{sized, few_bytes}
use Rattle.ports.proofs.Order.{read_17, read_done}
use Rattle.ports.proofs.rules.read.Goals as goal

pub returns-then-place-eq0-clause-answers : goal.returns-then-place-eq0-clause-answers
returns-then-place-eq0-clause-answers c = read_17 _ _ _ _ _ _ c.in-Some.seen c.in-Some.ensures c.in-Some-place.place c.in-Some-place.is c.if-store-seen.false c.if-ages-seen.false c.if-place-eq0.true

pub returns-clause-answers : goal.returns-clause-answers
returns-clause-answers c = read_done _ _ _ _ _ _ c.in-Some.seen c.in-Some.ensures c.in-Some-place.place c.in-Some-place.is c.if-store-seen.false c.if-ages-seen.false c.if-place-eq0.false _ (sized _ _ _ _ c.in-Some.ensures c.in-Some-place.is) c.if-out-size.false _ c.copy_front.ensures

pub returns-clause-small : goal.returns-clause-small
returns-clause-small c = few_bytes _ _ _ _ c.in-Some.ensures c.in-Some-place.is
