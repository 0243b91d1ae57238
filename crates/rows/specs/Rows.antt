-- The table of rows (document 01, "Frames"): the data bits are listed, the rest follows.
-- Assumes nothing.
use Rattle.std.specs.Prelude.{Bool, cond, List, [], ◌∷◌, ℕ, ◌+◌, ◌*◌, ◌/◌, min, eqb, get_or}

-- the column "data", by F_code from 0: none where the F_code is reserved or above 15
unfoldable pub data_bits : ℕ → ℕ
data_bits f = get_or (16 ∷ 32 ∷ 64 ∷ 128 ∷ 256 ∷ 0 ∷ 0 ∷ 0 ∷ 16 ∷ 16 ∷ 0 ∷ 0 ∷ 256 ∷ 16 ∷ 16 ∷ 16 ∷ []) f 0

-- "F_codes 5, 6, 7, 10, 11 are reserved", and above 15 there is none
unfoldable pub reserved : ℕ → Bool
reserved f = eqb (data_bits f) 0

-- the data in bytes
unfoldable pub data_bytes : ℕ → ℕ
data_bytes f = data_bits f / 8

-- "blocks of at most 64 bits"
unfoldable pub blocks : ℕ → ℕ
blocks f = (data_bits f + 63) / 64

-- the bytes of a block
unfoldable pub block_bytes : ℕ → ℕ
block_bytes f = min 8 (data_bytes f)

-- the column "bytes": "each followed by its check sequence", a byte
unfoldable pub frame_bytes : ℕ → ℕ
frame_bytes f = data_bytes f + blocks f

-- the column "line": "with 9 bits of start delimiter"
unfoldable pub line_bits : ℕ → ℕ
line_bits f = 9 + 8 * frame_bytes f

-- a row: data bits, frame bytes, bits on the line, allowed; of zeros where there is none
unfoldable pub row_of : ℕ → List ℕ
row_of f = cond (reserved f) (0 ∷ 0 ∷ 0 ∷ 0 ∷ []) (data_bits f ∷ frame_bytes f ∷ line_bits f ∷ 1 ∷ [])
