-- `put_cycles` meets its promise: its loop by `CyclesLaws`.
-- Assumes nothing.
use Rattle.list_text.proofs.CyclesLaws.{Writing}
use Rattle.list_text.proofs.lines.put_cycles.Given as goal

abbrev pub invariant-loop-n : goal.invariant-loop-n
invariant-loop-n l = Writing l.list l.ms l.cycles l.at l.initial.out l.out l.places.read l.places.written l.n l.size
