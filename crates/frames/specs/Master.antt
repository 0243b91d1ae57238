-- Master Frames (document 01, "Frames").
-- Assumes nothing.
use Rattle.std.specs.Prelude.{not, cond, List, [], ◌∷◌, ◌++◌, ℕ, eqb, ltb, length, drop}
use Rattle.refusals.specs.Told.{Told, gives, refusal}
use Rattle.frames.specs.Words.{f_code_of, word_bytes, word_in}
use Rattle.rows.specs.Rows.{reserved}
use Rattle.frames.specs.Blocks.{framed, all_right}

-- "A Master Frame is one word and its check sequence, 3 bytes"
unfoldable pub master_frame : ℕ → List ℕ
master_frame word = framed 1 2 (word_bytes word)

-- "Master read: 1, 2, 3"
unfoldable pub master_read : List ℕ → Told
master_read w =
    cond (not (eqb (length w) 3)) (refusal 1)
    (cond (not (all_right 1 2 w)) (refusal 2)
    (cond (reserved (f_code_of (word_in w))) (refusal 3)
    (gives (word_in w ∷ []))))

-- "Master write, of a word: 3, 4"
abbrev pub master_write_by {ℓ} : {A : Type ℓ} → ℕ → ℕ → (ℕ → A) → A → A
master_write_by word room refused done = cond (reserved (f_code_of word)) (refused 3) (cond (ltb room 3) (refused 4) done)

-- what it answers: the frame's bytes
unfoldable pub master_write : ℕ → ℕ → Told
master_write word room = master_write_by word room refusal (gives (3 ∷ []))

-- the output afterwards: "Bytes of a lent output beyond the answer stay unchanged"
unfoldable pub master_write_out : ℕ → List ℕ → List ℕ
master_write_out word out = master_write_by word (length out) (λ n. out) (master_frame word ++ drop 3 out)
