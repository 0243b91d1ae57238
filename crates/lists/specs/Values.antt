-- A list as a value: what its file says (document 01, "The list file").
-- Assumes nothing.
use Rattle.std.specs.Prelude.{ℕ, List, [], ◌∷◌, ◌++◌, Bool, true, false, eqb}
use Rattle.lists.specs.declared.Header.{Header}

-- a cycle's words, and its split numbers where it has any
pub record Cycle : Type 0 where
  pub words : List ℕ
  pub splits : List ℕ

-- the header (ms, gap, reserve), and the cycles 1, 2, 4, .. in this order
pub record PeriodicList : Type 0 where
  pub head : Header
  pub cycles : List Cycle

-- the first for 1 ms, the second for 2 ms
abbrev pub by_ms : Bool → ℕ → ℕ → ℕ
by_ms true one two = one
by_ms false one two = two

-- "each cycle 2^n, n from 0 to 10 (to 9 for 2 ms)"
abbrev pub cycles_of : ℕ → ℕ
cycles_of ms = by_ms (eqb ms 1) 11 10

-- "A Macro_Cycle has 1,024 Basic Periods for 1 ms, 512 for 2 ms"
abbrev pub periods_of : ℕ → ℕ
periods_of ms = by_ms (eqb ms 1) 1024 512

-- the words of some cycles, in file order
abbrev pub words_of : List Cycle → List ℕ
words_of [] = []
words_of (c ∷ cs) = c.words ++ words_of cs
