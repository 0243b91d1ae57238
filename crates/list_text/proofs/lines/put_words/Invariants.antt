-- `put_words` meets its promise: its loop by `LinesLaws`.
-- Assumes nothing.
use Prim.Native.Nat.{◌≤◌}
use lib.ListN.{length}
use Rattle.list_text.specs.Inside.{WordsNext}
use Rattle.list_text.proofs.LinesLaws.{Lines, here_now}
use Rattle.list_text.proofs.lines.put_words.Given as goal

abbrev pub invariant-loop-i : goal.invariant-loop-i
invariant-loop-i l =
    (h : WordsNext l.list l.initial.places.read l.many l.initial.places.written (length l.initial.out)) (r : l.initial.places.written ≤ length l.initial.out)
    → Lines l.list l.initial.places.read l.many l.cycle l.sub l.initial.places.written l.initial.out l.out l.places.read l.places.written l.i
    (here_now l.list l.initial.places.read l.many l.cycle l.sub l.initial.places.written l.initial.out h r)
