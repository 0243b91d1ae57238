-- What the functions inside the crate promise each other.
-- Assumes nothing.
use Rattle.std.specs.Prelude.{◌≡◌, not, cond, List, [], ◌∷◌, ℕ, ◌+◌, ◌≤◌, min, eqb, ltb, length, take, drop}
use Rattle.rows.specs.Rows.{blocks, block_bytes, frame_bytes}
use Rattle.frames.specs.Blocks.{all_right}
use Rattle.port_table.specs.declared.Port.{Port}
use Rattle.port_table.specs.Tested.{sink_bits}
use Rattle.ports.specs.Ticking.{older, aged}

-- the values of an answer that only says that the call was done
abbrev pub done : Unit {0} → List ℕ
done _ = 0 ∷ []

-- "1; 2" of a frame
abbrev pub frame_check : ℕ → List ℕ → ℕ
frame_check f frame = cond (not (eqb (length frame) (frame_bytes f))) 1 (cond (not (all_right (blocks f) (block_bytes f) frame)) 2 0)

-- "4 for the output" of a frame
abbrev pub out_check : ℕ → List ℕ → ℕ
out_check f out = cond (ltb (length out) (frame_bytes f)) 4 0

-- an age after a tick, by the bit of its record
abbrev pub older_by : ℕ → ℕ → ℕ
older_by bit age = cond (eqb bit 0) age (older age)

-- the end of the part that begins with a record: 64 records on, or behind the last
abbrev pub part_end : ℕ → ℕ → ℕ
part_end from count = min (from + 64) count

-- whatever table the bits are of: ages that are done up to the first record of the bits are done up to the end
abbrev pub AgedRun : ℕ → ℕ → ℕ → List ℕ → List ℕ → Type 0
AgedRun bits from to ages ages' =
    (ps : List Port) (first : List ℕ) (m : ℕ) → bits ≡ sink_bits (take m (drop from ps)) → to ≤ from + m → to ≤ length ps → ages ≡ aged (take from ps) first → ages' ≡ aged (take to ps) first
