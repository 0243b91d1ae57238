-- What is kept over the cycles of a list.
-- Assumes nothing.
use Rattle.std.specs.Prelude.{◌≡◌, ℕ, ◌+◌, ◌≤◌, List, ◌++◌, length}
use Rattle.lists.specs.declared.cycles.Cycles.{Cycles}
use Rattle.lists.specs.Values.{Cycle, words_of}
use Rattle.lists.specs.Marks.{SeenIs}
use Rattle.lists.specs.Loads.{AddsCycle, AreLoads}

-- one more cycle, after the words listed before it
pub record AddsTo (listed weights : List ℕ) (count : ℕ) (loads : List ℕ) (new : Cycles) (c : Cycle) : Type 0 where
  pub same_weights : new.weights.by_f_code ≡ weights
  pub few : length c.words ≤ 256
  pub adds_count : new.count ≡ count + length c.words
  pub marks : SeenIs new.seen.marks (listed ++ c.words)
  pub adds_loads : AddsCycle weights c loads new.loads

-- these cycles
pub record AreCycles (weights : List ℕ) (cycles : Cycles) (cs : List Cycle) : Type 0 where
  pub same_weights : cycles.weights.by_f_code ≡ weights
  pub count : cycles.count ≡ length (words_of cs)
  pub marks : SeenIs cycles.seen.marks (words_of cs)
  pub loads : AreLoads weights cs cycles.loads
