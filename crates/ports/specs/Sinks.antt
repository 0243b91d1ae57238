-- The other side of the bus.
-- Assumes nothing.
use Rattle.std.specs.Prelude.{◌≡◌, true, List, ℕ, ◌≤◌, ◌<◌, length}
use Rattle.frames.specs.Words.{f_code_of, address}
use Rattle.port_table.specs.declared.Port.{Port}
use Rattle.port_table.specs.Table.{good, table_bytes, place_of, port_of, is_sink}

-- what the other side has for a word: a good table with a sink of its address and F_code, and store and ages for it
pub record Sink (ps : List Port) (store ages : List ℕ) (word : ℕ) : Type 0 where
  pub table_is_good : good ps ≡ true
  pub stored : table_bytes ps ≤ length store
  pub all_ages : length ps ≤ length ages
  pub there : place_of (address word) ps < length ps
  pub same_code : (port_of (address word) ps).f_code ≡ f_code_of word
  pub port_is_sink : is_sink (port_of (address word) ps) ≡ true
