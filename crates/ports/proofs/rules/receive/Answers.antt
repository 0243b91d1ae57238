-- The frame's data in the store, or the store as it was.
-- Assumes nothing.
use Rattle.std.proofs.Common.{◌∙◌, [], ◌∷◌, arith}
use Rattle.rows.specs.Rows.{data_bytes}
use Rattle.frames.specs.Slave.{slave_data}
use Rattle.ports.proofs.Bytes.{from, from_room, front_whole, put_is, put_kept}
use Rattle.ports.proofs.Frames.{read_gives, read_refuses}
use Rattle.ports.proofs.Order.{answered_no, answered_yes, kept, changed}
use Rattle.ports.proofs.rules.receive.Goals as goal

pub returns-in-Ok : goal.returns-in-Ok
returns-in-Ok c =
    let store = c.args.store.now in
    let f = c.args.f_code in
    let bytes = slave_data f c.args.frame.now in
    let d = read_gives f c.args.frame.now _ (from c.args.offset store) c.in-Ok.ensures.0 in
    (answered_yes d.0 (0 ∷ []), put_is store bytes _ c.args.offset (omega (arith, c.requires.1, d.2)) (c.in-Ok.ensures.1 ∙ d.1 ∙ front_whole bytes (data_bytes f) (from c.args.offset store) d.2) ∙ changed d.0 _ store)

pub returns-in-Err : goal.returns-in-Err
returns-in-Err c =
    let store = c.args.store.now in
    let f = c.args.f_code in
    let n = read_refuses f c.args.frame.now (from c.args.offset store) c.in-Err.refusal c.requires.0 (from_room c.args.offset (data_bytes f) store c.requires.1) c.in-Err.ensures.0 in
    (answered_no n.0 n.1 (0 ∷ []), put_kept c.args.offset store _ (c.in-Err.ensures.1 ∙ n.2) ∙ kept n.0 n.1 _ store)
