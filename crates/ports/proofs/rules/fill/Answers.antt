-- Where the search gives up: by what is left of the order.
-- Assumes nothing.
use Rattle.ports.proofs.Found.{sized}
use Rattle.ports.proofs.Order.{fill_done}
use Rattle.ports.proofs.rules.fill.Goals as goal

pub returns : goal.returns
returns c = fill_done _ _ _ _ c.in-Some.seen c.in-Some.ensures c.in-Some-place.place c.in-Some-place.is c.if-store-seen.false c.if-place-ne0.false _ (sized _ _ _ _ c.in-Some.ensures c.in-Some-place.is) c.if-data-place.false _ c.put.ensures
