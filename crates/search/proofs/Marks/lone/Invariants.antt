-- `search::Marks::lone`: what holds at each turn.
-- Assumes nothing.
use Rattle.std.proofs.Common.{◌≡◌, true}
use Rattle.groups.specs.Groups.{is_group}
use Rattle.groups.specs.Sets.{devices}
use Rattle.search.specs.Searches.{in_set}
use Rattle.search.proofs.Marks.lone.Given as goal

abbrev pub invariant-loop-k : goal.invariant-loop-k
invariant-loop-k l = record {
  group : is_group l.k l.half ≡ true;
  same : devices (in_set l.self) l.k l.half ≡ devices (in_set l.self) l.fn.m l.fn.c;
}
