-- Slave Frames (document 01, "Frames").
-- Assumes nothing.
use Rattle.std.specs.Prelude.{not, cond, List, [], ◌∷◌, ◌++◌, ℕ, eqb, ltb, length, drop}
use Rattle.refusals.specs.Told.{Told, gives, refusal}
use Rattle.rows.specs.Rows.{reserved, data_bytes, blocks, block_bytes, frame_bytes}
use Rattle.frames.specs.Blocks.{framed, data_in, all_right}

-- "A Slave Frame carries data sent in blocks of at most 64 bits, each followed by its check sequence"
unfoldable pub slave_frame : ℕ → List ℕ → List ℕ
slave_frame f d = framed (blocks f) (block_bytes f) d

-- the data that a Slave Frame carries
unfoldable pub slave_data : ℕ → List ℕ → List ℕ
slave_data f w = data_in (blocks f) (block_bytes f) w

-- "Slave read: 3 (of the expected F_code; above 15 also 3), 1, 2, 4"
abbrev pub slave_read_by {ℓ} : {A : Type ℓ} → ℕ → List ℕ → ℕ → (ℕ → A) → A → A
slave_read_by f w room refused done =
    cond (reserved f) (refused 3)
    (cond (not (eqb (length w) (frame_bytes f))) (refused 1)
    (cond (not (all_right (blocks f) (block_bytes f) w)) (refused 2)
    (cond (ltb room (data_bytes f)) (refused 4)
    done)))

-- what it answers: the data's bytes
unfoldable pub slave_read : ℕ → List ℕ → ℕ → Told
slave_read f w room = slave_read_by f w room refusal (gives (data_bytes f ∷ []))

-- the output afterwards: "Bytes of a lent output beyond the answer stay unchanged"
unfoldable pub slave_read_out : ℕ → List ℕ → List ℕ → List ℕ
slave_read_out f w out = slave_read_by f w (length out) (λ n. out) (slave_data f w ++ drop (data_bytes f) out)

-- "Slave write: 3, 1, 4"
abbrev pub slave_write_by {ℓ} : {A : Type ℓ} → ℕ → List ℕ → ℕ → (ℕ → A) → A → A
slave_write_by f d room refused done =
    cond (reserved f) (refused 3)
    (cond (not (eqb (length d) (data_bytes f))) (refused 1)
    (cond (ltb room (frame_bytes f)) (refused 4)
    done))

-- what it answers: the frame's bytes
unfoldable pub slave_write : ℕ → List ℕ → ℕ → Told
slave_write f d room = slave_write_by f d room refusal (gives (frame_bytes f ∷ []))

-- the output afterwards
unfoldable pub slave_write_out : ℕ → List ℕ → List ℕ → List ℕ
slave_write_out f d out = slave_write_by f d (length out) (λ n. out) (slave_frame f d ++ drop (frame_bytes f) out)
