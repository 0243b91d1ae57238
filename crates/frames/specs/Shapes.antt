-- What the row of an F_code says of its Slave Frames: so many blocks of a size, each with its check sequence.
-- Assumes nothing.
use Rattle.std.specs.Prelude.{◌≡◌, false, ℕ, ◌+◌, ◌*◌, ◌≤◌}
use Rattle.rows.specs.Rows.{reserved, data_bytes, blocks, block_bytes, frame_bytes}
use Rattle.frames.specs.declared.shapes.Shape.{Shape}

-- an F_code that is not reserved, and its shape
pub record IsShape (f : ℕ) (s : Shape) : Type 0 where
  pub allowed : reserved f ≡ false
  pub data_is : s.«data» ≡ data_bytes f
  pub whole_is : s.whole ≡ frame_bytes f
  pub count_is : s.count ≡ blocks f
  pub size_is : s.size ≡ block_bytes f
  pub few : s.size ≤ 8
  pub in_data : s.count * s.size ≡ s.«data»
  pub in_frame : s.count * (s.size + 1) ≡ s.whole
