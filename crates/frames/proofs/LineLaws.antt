-- What the line answers, by the bytes that came: none, the written frame of a word, anything else.
-- Assumes nothing.
use mathlib.Core.Path.{◌≡◌, refl, ap₂}
use mathlib.Core.Bool.{true, false, ◌&&◌}
use mathlib.Core.List.{List, []}
use Prim.Native.Nat.{ℕ}
use native.Mathlib.Omega.{arith}
use borrow.Author.Tests.{eq-eqb, ne_eqb}
use lib.ListN.{length}
use Rattle.frames.specs.Blocks.{right_blocks}
use Rattle.frames.specs.Master.{master_frame}
use Rattle.frames.specs.Line.{right_frame, answer_of}
use Rattle.frames.specs.declared.LineAnswer.TheVariants.{Silence, Reply, Collision}
use Rattle.frames.proofs.RoundTrip.{master_frame_length, master_frame_right, master_frame_word}

pub none_is_silence : answer_of [] ≡ Silence
unfolding answer_of
none_is_silence = refl

frame_is_right : (word : ℕ) → right_frame (master_frame word) ≡ true
frame_is_right word = ap₂ ◌&&◌ (eq-eqb (length (master_frame word)) 3 (master_frame_length word)) (eq-eqb (right_blocks 1 2 (master_frame word)) 1 (master_frame_right word))

pub frame_is_reply : (word : ℕ) → answer_of (master_frame word) ≡ Reply word
unfolding answer_of
frame_is_reply word =
    simp (ne_eqb (length (master_frame word)) 0 (λ e. omega (arith, master_frame_length word)), frame_is_right word, master_frame_word word)

pub other_is_collision : (bytes : List ℕ) → (length bytes ≡ 0 → ⊥) → right_frame bytes ≡ false → answer_of bytes ≡ Collision
unfolding answer_of
other_is_collision bytes some wrong = simp (ne_eqb (length bytes) 0 some, wrong)
