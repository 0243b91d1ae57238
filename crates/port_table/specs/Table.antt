-- The port table (document 01, "Ports and ages", first paragraph), over the list of its records.
-- Assumes nothing.
use Rattle.std.specs.Prelude.{Bool, true, not, cond, ◌&&◌, List, [], ◌∷◌, ℕ, ◌+◌, eqb, ltb, leb, length, get_or}
use Rattle.rows.specs.Rows.{data_bytes}
use Rattle.port_table.specs.declared.Port.{Port}

-- "addresses below 4,096 strictly rising, F_codes 0 to 4": each address at least `low`, the next one higher
unfoldable pub rising : ℕ → List Port → Bool
rising low [] = true
rising low (p ∷ ps) = leb low p.address && (ltb p.address 4096 && (ltb p.f_code 5 && rising (p.address + 1) ps))

-- "Good means at most 256 records", and these
unfoldable pub good : List Port → Bool
good ps = leb (length ps) 256 && rising 0 ps

-- a port's data in bytes, by its F_code
abbrev pub port_bytes : Port → ℕ
port_bytes p = data_bytes p.f_code

-- the bytes of ports that lie "packed"
unfoldable pub table_bytes : List Port → ℕ
table_bytes [] = 0
table_bytes (p ∷ ps) = port_bytes p + table_bytes ps

-- the records before the one with the address: all of them where none has it
unfoldable pub before : ℕ → List Port → List Port
before a [] = []
before a (p ∷ ps) = cond (eqb p.address a) [] (p ∷ before a ps)

-- the place of that record in the table, and of its age
abbrev pub place_of : ℕ → List Port → ℕ
place_of a ps = length (before a ps)

-- "Ports lie packed in the lent store in table order": where the port begins
abbrev pub offset_of : ℕ → List Port → ℕ
offset_of a ps = table_bytes (before a ps)

-- whether a record has the address
abbrev pub listed : ℕ → List Port → Bool
listed a ps = ltb (place_of a ps) (length ps)

-- a record of zeros, where there is none
abbrev pub no_port : Port
no_port = record { address = 0; f_code = 0; sink = 0 }

-- the record with the address
abbrev pub port_of : ℕ → List Port → Port
port_of a ps = get_or ps (place_of a ps) no_port

-- "sink or source": 0 is a source, anything else a sink
abbrev pub is_sink : Port → Bool
is_sink p = not (eqb p.sink 0)
