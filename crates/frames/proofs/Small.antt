-- What a frame call answers is small: no frame has more than 36 bytes.
-- Assumes nothing.
use mathlib.Core.Path.{◌≡◌}
use mathlib.Core.List.{List, [], ◌∷◌}
use Prim.Native.Nat.{ℕ, ◌/◌, ◌≤◌}
use native.Mathlib.Omega.{arith}
use Rattle.refusals.specs.Told.{gives}
use Rattle.rows.specs.Rows.{data_bits, data_bytes, frame_bytes}
use Rattle.frames.specs.Master.{master_write}
use Rattle.frames.specs.Slave.{slave_read, slave_write}
use Rattle.rows.proofs.Rows.{bits_most, whole_most}
use Rattle.frames.proofs.RoundTrip.{slave_accepted, slave_written, master_written}

pub slave_read_most : (f : ℕ) (w : List ℕ) (room n : ℕ) → slave_read f w room ≡ gives (n ∷ []) → n ≤ 32
unfolding data_bytes
slave_read_most f w room n h = let e : data_bits f / 8 ≡ n = (slave_accepted f w room n h).4 in omega (arith, bits_most f)

pub slave_write_most : (f : ℕ) (d : List ℕ) (room n : ℕ) → slave_write f d room ≡ gives (n ∷ []) → n ≤ 36
slave_write_most f d room n h = let e : frame_bytes f ≡ n = (slave_written f d room n h).3 in omega (arith, whole_most f)

pub master_write_most : (word room n : ℕ) → master_write word room ≡ gives (n ∷ []) → n ≤ 3
master_write_most word room n h = let e : 3 ≡ n = (master_written word room n h).2 in omega arith
