-- "a source answers a request (frame written)" (document 01, "Ports and ages").
-- Assumes nothing.
use Rattle.std.specs.Prelude.{not, cond, List, [], ◌∷◌, ◌++◌, ℕ, eqb, ltb, length, drop}
use Rattle.refusals.specs.Told.{Told}
use Rattle.frames.specs.Words.{f_code_of, address}
use Rattle.rows.specs.Rows.{frame_bytes}
use Rattle.frames.specs.Slave.{slave_frame}
use Rattle.port_table.specs.declared.Port.{Port}
use Rattle.port_table.specs.Table.{good, table_bytes, listed, port_of, is_sink}
use Rattle.ports.specs.Lent.{answered, unless_refused, port_data}

-- "Order: 13; 4 for store; 14; 15; 16; 17; 4 for the output"
unfoldable pub answer_refusal : List Port → List ℕ → ℕ → List ℕ → ℕ
answer_refusal ps store word out =
    cond (not (good ps)) 13
    (cond (ltb (length store) (table_bytes ps)) 4
    (cond (ltb 4 (f_code_of word)) 14
    (cond (not (listed (address word) ps)) 15
    (cond (not (eqb (port_of (address word) ps).f_code (f_code_of word))) 16
    (cond (is_sink (port_of (address word) ps)) 17
    (cond (ltb (length out) (frame_bytes (f_code_of word))) 4
    0))))))

-- what it answers: the frame's bytes
unfoldable pub answer : List Port → List ℕ → ℕ → List ℕ → Told
answer ps store word out = answered (answer_refusal ps store word out) (frame_bytes (f_code_of word) ∷ [])

-- the output afterwards: the Slave Frame of the port's data, the rest as it was
unfoldable pub answer_out : List Port → List ℕ → ℕ → List ℕ → List ℕ
answer_out ps store word out =
    unless_refused (answer_refusal ps store word out) (slave_frame (f_code_of word) (port_data ps (address word) store) ++ drop (frame_bytes (f_code_of word)) out) out
