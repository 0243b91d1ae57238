-- Where the search gives up: by what is left of the order.
-- Assumes nothing.
use Rattle.std.proofs.Common.{refl, ◌∙◌}
use borrow.Author.Tests.{eq-eqb, ne_eqb}
use Rattle.frames.specs.Words.{f_code_of}
use Rattle.ports.proofs.Order.{arrive_no, arrive_4, arrive_on, arrive_ok, arrive_err}
use Rattle.ports.proofs.rules.arrive.Goals as goal

pub returns-then-store-seen : goal.returns-then-store-seen
returns-then-store-seen c = arrive_no _ _ _ _ _ 4 (arrive_4 _ _ _ _ _ c.in-Some.seen c.in-Some.ensures c.if-store-seen.true) refl

pub returns-then-place-f_code : goal.returns-then-place-f_code
returns-then-place-f_code c =
    let p = c.in-Some-place.place in
    arrive_no _ _ _ _ _ 16 (arrive_on _ _ _ _ _ c.in-Some.seen c.in-Some.ensures c.in-Some-place.place c.in-Some-place.is c.if-store-seen.false c.if-ages-seen.false c.if-f_code-gt4.false ∙ simp (ne_eqb p.port.f_code (f_code_of c.args.word) c.if-place-f_code.true)) refl

pub returns-then-place-eq0 : goal.returns-then-place-eq0
returns-then-place-eq0 c =
    let p = c.in-Some-place.place in
    arrive_no _ _ _ _ _ 17 (arrive_on _ _ _ _ _ c.in-Some.seen c.in-Some.ensures c.in-Some-place.place c.in-Some-place.is c.if-store-seen.false c.if-ages-seen.false c.if-f_code-gt4.false ∙ simp (eq-eqb p.port.f_code (f_code_of c.args.word) c.if-place-f_code.false, eq-eqb p.port.sink 0 c.if-place-eq0.true)) refl

pub returns-in-Ok : goal.returns-in-Ok
returns-in-Ok c = arrive_ok _ _ _ _ _ c.in-Some.seen c.in-Some.ensures c.in-Some-place.place c.in-Some-place.is c.if-store-seen.false c.if-ages-seen.false c.if-f_code-gt4.false c.if-place-f_code.false c.if-place-eq0.false _ c.in-Ok.ensures.1 c.in-Ok.ensures.0

pub returns-in-Err : goal.returns-in-Err
returns-in-Err c = arrive_err _ _ _ _ _ c.in-Some.seen c.in-Some.ensures c.in-Some-place.place c.in-Some-place.is c.if-store-seen.false c.if-ages-seen.false c.if-f_code-gt4.false c.if-place-f_code.false c.if-place-eq0.false _ c.in-Err.ensures.1 _ c.in-Err.ensures.0
