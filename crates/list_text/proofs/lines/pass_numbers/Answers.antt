-- `pass_numbers` meets its promise: each turn passes over one byte.
-- Assumes nothing.
use mathlib.Core.Path.{sym, ◌∙◌}
use Prim.Native.Nat.{◌<◌, ◌≤◌}
use native.Mathlib.Omega.{arith}
use lib.ListN.{length}
use Rattle.periods.proofs.SkipLaws.{no_bytes, last_byte, other_byte}
use Rattle.list_text.proofs.lines.pass_numbers.Goals as goal
use Rattle.list_text.proofs.lines.pass_numbers.Goals.{then-list-at, else-list-at, then-list-place-lt128, else-list-place-lt128}

pub loop-place-preserved : goal.loop-place-preserved
loop-place-preserved c = let list = c.args.list.now in
    let here : c.loop-place.place < length list = elim c.if-list-at.branch [
      | then-list-at w ↦ absurd (omega (arith, w.end-is, c.loop-place.auto.place, c.loop-place-test.true))
      | else-list-at w ↦ omega (arith, w.end-is, c.loop-place-test.true)
    ] in
    let some : 0 < c.loop-place.left = omega (arith, c.if-left-eq0.false) in
    elim c.if-list-place-lt128.branch [
      | then-list-place-lt128 w ↦ sym (last_byte list c.loop-place.place c.loop-place.left here some w.if-list-place-lt128.true c.if-list-place-lt128.left w.left-is) ∙ c.loop-place.invariant
      | else-list-place-lt128 w ↦ sym (other_byte list c.loop-place.place c.loop-place.left here some w.if-list-place-lt128.false c.if-list-place-lt128.left w.left-is) ∙ c.loop-place.invariant
    ]

pub returns : goal.returns
returns c = let list = c.args.list.now in
    let most : (length list ≤ c.if-list-at.end) × (c.args.at ≤ c.if-list-at.end) = elim c.if-list-at.branch [
      | then-list-at w ↦ (omega (arith, w.end-is, w.if-list-at.true), omega (arith, w.end-is))
      | else-list-at w ↦ (omega (arith, w.end-is), omega (arith, w.end-is, w.if-list-at.false))
    ] in
    let last : c.loop-place.place ≤ c.if-list-at.end = c.loop-place.auto.place-end most.1 in
    let past : length list ≤ c.loop-place.place = omega (arith, most.0, c.loop-place-test.false) in
    omega (arith, c.loop-place.invariant, no_bytes list c.loop-place.place c.loop-place.left past, last, c.loop-place-test.false)
