-- "a frame arrives for a sink (data replaced, age 0)" (document 01, "Ports and ages").
-- Assumes nothing.
use Rattle.std.specs.Prelude.{not, cond, List, [], ◌∷◌, ℕ, eqb, ltb, length, set}
use Rattle.refusals.specs.Told.{Told}
use Rattle.frames.specs.Words.{f_code_of, address}
use Rattle.rows.specs.Rows.{frame_bytes, blocks, block_bytes}
use Rattle.frames.specs.Blocks.{all_right}
use Rattle.frames.specs.Slave.{slave_data}
use Rattle.port_table.specs.declared.Port.{Port}
use Rattle.port_table.specs.Table.{good, table_bytes, place_of, offset_of, listed, port_of, is_sink}
use Rattle.ports.specs.Lent.{answered, unless_refused, replaced}

-- "Order: 13; 4 for store, then ages; 14; 15; 16; 17; 1; 2"
unfoldable pub arrive_refusal : List Port → List ℕ → List ℕ → ℕ → List ℕ → ℕ
arrive_refusal ps store ages word frame =
    cond (not (good ps)) 13
    (cond (ltb (length store) (table_bytes ps)) 4
    (cond (ltb (length ages) (length ps)) 4
    (cond (ltb 4 (f_code_of word)) 14
    (cond (not (listed (address word) ps)) 15
    (cond (not (eqb (port_of (address word) ps).f_code (f_code_of word))) 16
    (cond (not (is_sink (port_of (address word) ps))) 17
    (cond (not (eqb (length frame) (frame_bytes (f_code_of word)))) 1
    (cond (not (all_right (blocks (f_code_of word)) (block_bytes (f_code_of word)) frame)) 2
    0))))))))

-- what it answers
unfoldable pub arrive : List Port → List ℕ → List ℕ → ℕ → List ℕ → Told
arrive ps store ages word frame = answered (arrive_refusal ps store ages word frame) (0 ∷ [])

-- the store afterwards: "data replaced"
unfoldable pub arrive_store : List Port → List ℕ → List ℕ → ℕ → List ℕ → List ℕ
arrive_store ps store ages word frame =
    unless_refused (arrive_refusal ps store ages word frame) (replaced (offset_of (address word) ps) (slave_data (f_code_of word) frame) store) store

-- the ages afterwards: "age 0"
unfoldable pub arrive_ages : List Port → List ℕ → List ℕ → ℕ → List ℕ → List ℕ
arrive_ages ps store ages word frame =
    unless_refused (arrive_refusal ps store ages word frame) (set ages (place_of (address word) ps) 0) ages
