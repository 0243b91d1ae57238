-- "the application reads a sink (data and age)" (document 01, "Ports and ages").
-- Assumes nothing.
use Rattle.std.specs.Prelude.{not, cond, List, [], ◌∷◌, ◌++◌, ℕ, ltb, length, get_or, drop}
use Rattle.refusals.specs.Told.{Told}
use Rattle.port_table.specs.declared.Port.{Port}
use Rattle.port_table.specs.Table.{good, port_bytes, table_bytes, place_of, listed, port_of, is_sink}
use Rattle.ports.specs.Lent.{answered, unless_refused, port_data}

-- "Order: 13; 4 for store, then ages; 15; 17; 4 for the output"
unfoldable pub read_refusal : List Port → List ℕ → List ℕ → ℕ → List ℕ → ℕ
read_refusal ps store ages a out =
    cond (not (good ps)) 13
    (cond (ltb (length store) (table_bytes ps)) 4
    (cond (ltb (length ages) (length ps)) 4
    (cond (not (listed a ps)) 15
    (cond (not (is_sink (port_of a ps))) 17
    (cond (ltb (length out) (port_bytes (port_of a ps))) 4
    0)))))

-- what it answers: the data's bytes
unfoldable pub read : List Port → List ℕ → List ℕ → ℕ → List ℕ → Told
read ps store ages a out = answered (read_refusal ps store ages a out) (port_bytes (port_of a ps) ∷ [])

-- the output afterwards: the port's data, the rest as it was
unfoldable pub read_out : List Port → List ℕ → List ℕ → ℕ → List ℕ → List ℕ
read_out ps store ages a out =
    unless_refused (read_refusal ps store ages a out) (port_data ps a store ++ drop (port_bytes (port_of a ps)) out) out

-- the lent age afterwards: the port's
unfoldable pub read_age : List Port → List ℕ → List ℕ → ℕ → List ℕ → ℕ → ℕ
read_age ps store ages a out age = unless_refused (read_refusal ps store ages a out) (get_or ages (place_of a ps) 0) age
