-- Accepted frames, and their blocks (document 01, "Frames", after the check sequence).
-- Assumes nothing.
use Rattle.std.specs.Prelude.{◌≡◌, List, [], ◌∷◌, ℕ, ◌+◌, ◌*◌, take, drop}
use Rattle.refusals.specs.Told.{gives}
use Rattle.rows.specs.Rows.{blocks, block_bytes}
use Rattle.frames.specs.Master.{master_read}
use Rattle.frames.specs.Slave.{slave_read}

-- a frame that is "accepted", as a Master Frame or as a Slave Frame of some F_code
pub data Accepted : List ℕ → Type 0 where
  master : {w : List ℕ} (word : ℕ) → master_read w ≡ gives (word ∷ []) → Accepted w
  slave : {w : List ℕ} (f room n : ℕ) → slave_read f w room ≡ gives (n ∷ []) → Accepted w

-- how many blocks it has
abbrev pub block_count : {w : List ℕ} → Accepted w → ℕ
block_count (master word h) = 1
block_count (slave f room n h) = blocks f

-- and of how many bytes each
abbrev pub block_size : {w : List ℕ} → Accepted w → ℕ
block_size (master word h) = 2
block_size (slave f room n h) = block_bytes f

-- "some block and its check sequence": block i of n bytes, with the byte that follows it
abbrev pub block_at : ℕ → ℕ → List ℕ → List ℕ
block_at n i w = take (n + 1) (drop (i * (n + 1)) w)
