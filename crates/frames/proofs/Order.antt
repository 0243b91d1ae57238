-- A word and its check sequence as written, and that a Slave Frame that passes every check is read or written.
-- Assumes nothing.
use mathlib.Core.Path.{◌≡◌, sym, ap, ◌∙◌}
use mathlib.Core.Bool.{false}
use mathlib.Core.List.{List, [], ◌∷◌, ◌++◌}
use Prim.Native.Nat.{ℕ, ◌/◌, ◌%◌, ◌≤◌}
use native.Mathlib.Omega.{arith}
use borrow.Author.Tests.{eq-eqb, le-ltb}
use lib.ListN.{length, set, drop}
use Rattle.checks.specs.Check.{check_of}
use Rattle.frames.specs.Words.{word_bytes}
use Rattle.rows.specs.Rows.{reserved, data_bytes, blocks, block_bytes, frame_bytes}
use Rattle.rows.proofs.Rows.{lone_word}
use Rattle.frames.specs.Blocks.{right_blocks, framed}
use Rattle.frames.specs.Slave.{slave_read_by, slave_write_by}

-- a word and its check sequence, as written
pub word_written : (out : List ℕ) (word check : ℕ) → 3 ≤ length out → check ≡ check_of (word / 256 ∷ word % 256 ∷ [])
    → set (set (set out 0 (word / 256)) 1 (word % 256)) 2 check ≡ framed 1 2 (word_bytes word) ++ drop 3 out
word_written [] word check h e = absurd (omega arith)
word_written (x ∷ []) word check h e = absurd (omega arith)
word_written (x ∷ y ∷ []) word check h e = absurd (omega arith)
word_written (x ∷ y ∷ z ∷ out) word check h e = ap (λ (k : ℕ). word / 256 ∷ word % 256 ∷ k ∷ out) e

-- of an F_code's count and size: a block of two bytes is the only one
pub one_word : (f : ℕ) {count size : ℕ} → count ≡ blocks f → size ≡ block_bytes f → size ≡ 2 → count ≡ 1
one_word f c s e = c ∙ lone_word f (sym s ∙ e)

-- ---- Slave Frames: all done

module _ {ℓ} {A : Type ℓ} (f : ℕ) (w : List ℕ) (room : ℕ) (refused : ℕ → A) (done : A) where
  pub read_done : reserved f ≡ false → length w ≡ frame_bytes f → right_blocks (blocks f) (block_bytes f) w ≡ blocks f → data_bytes f ≤ room → done ≡ slave_read_by f w room refused done
  read_done a b c d = simp (a, eq-eqb (length w) (frame_bytes f) b, eq-eqb (right_blocks (blocks f) (block_bytes f) w) (blocks f) c, le-ltb room (data_bytes f) d)

  pub write_done : reserved f ≡ false → length w ≡ data_bytes f → frame_bytes f ≤ room → done ≡ slave_write_by f w room refused done
  write_done a b c = simp (a, eq-eqb (length w) (data_bytes f) b, le-ltb room (frame_bytes f) c)
