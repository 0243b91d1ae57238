-- `put_words` meets its promise: its loop by `LinesLaws`.
-- Assumes nothing.
use Prim.Native.Nat.{◌≤◌}
use mathlib.Core.Path.{◌≡◌, ap}
use native.Mathlib.Omega.{arith}
use lib.ListN.{length}
use Rattle.list_text.specs.Text.{word_line}
use Rattle.list_text.proofs.LineLaws.{line_set}
use Rattle.list_text.proofs.LengthLaws.{line_some, line_few}
use Rattle.list_text.proofs.WroteLaws.{as_bytes}
use Rattle.list_text.proofs.LinesLaws.{lines_start, room_left, word_small, lines_more, here_now, all_lines, none_next, counted}
use Rattle.list_text.proofs.lines.put_words.Goals as goal

pub loop-i-init : goal.loop-i-init
loop-i-init c h r = let a = c.args in
    let p = a.places.now in
    lines_start a.list.now p.read a.many a.cycle a.sub p.written a.out.now (here_now a.list.now p.read a.many a.cycle a.sub p.written a.out.now h r)

pub overflow_cast-word : goal.overflow_cast-word
overflow_cast-word c = let a = c.args in
    let p = a.places.now in
    let h = c.requires.2 in
    let r : p.written ≤ length a.out.now = omega (arith, c.if-out-places.false) in
    let i = c.loop-i.invariant h r in
    omega (arith, word_small a.list.now p.read a.many a.cycle a.sub p.written a.out.now (here_now a.list.now p.read a.many a.cycle a.sub p.written a.out.now h r) _ _ _ _ i c.loop-i-test.true _ _ c.sum_numbers-word.ensures)

pub put_word-places-requires : goal.put_word-places-requires
put_word-places-requires c = let a = c.args in
    let p = a.places.now in
    let h = c.requires.2 in
    let r : p.written ≤ length a.out.now = omega (arith, c.if-out-places.false) in
    let i = c.loop-i.invariant h r in
    let line : length c.push_word.new.self ≡ length (word_line a.cycle a.sub 0) = ap length c.push_word.ensures in (
      omega (arith, line, line_some a.cycle a.sub 0),
      omega (arith, line, line_few a.cycle a.sub 0),
      omega (
        arith,
        line,
        c.word_length.ensures.0,
        room_left a.list.now p.read a.many a.cycle a.sub p.written a.out.now (here_now a.list.now p.read a.many a.cycle a.sub p.written a.out.now h r) _ _ _ _ i c.loop-i-test.true c.word_length.result c.word_length.ensures.0 c.if-out-places.false,
      ),
    )

pub loop-i-preserved : goal.loop-i-preserved
loop-i-preserved c h r = let a = c.args in
    let p = a.places.now in
    let line = line_set a.cycle a.sub 0 c.sum_numbers-word.result.total _ c.push_word.ensures in
    lines_more a.list.now p.read a.many a.cycle a.sub p.written a.out.now (here_now a.list.now p.read a.many a.cycle a.sub p.written a.out.now h r) _ _ _ _ (c.loop-i.invariant h r) c.loop-i-test.true _ _ c.sum_numbers-word.ensures _ _
    (as_bytes _ _ _ _ _ _ line c.put_word-places.ensures) c.put_word-places.auto.out

pub returns : goal.returns
returns c h = let a = c.args in
    let p = a.places.now in
    let r : p.written ≤ length a.out.now = omega (arith, c.if-out-places.false) in
    all_lines a.list.now p.read a.many a.cycle a.sub p.written a.out.now h r _ _ _ _ (c.loop-i.invariant h r) c.loop-i-test.false

pub returns-then-many-eq0 : goal.returns-then-many-eq0
returns-then-many-eq0 c h = let a = c.args in
    let p = a.places.now in
    none_next a.list.now p.read a.many a.cycle a.sub p.written a.out.now h c.if-many-eq0.true

pub returns-then-out-places : goal.returns-then-out-places
returns-then-out-places c h = let a = c.args in
    let p = a.places.now in
    counted a.list.now p.read a.many a.cycle a.sub p.written a.out.now h c.word_length.result c.word_length.ensures.0 c.if-out-places.true
