-- The line's answer (document 01, "The event round", second paragraph).
-- Assumes nothing.
use Rattle.std.specs.Prelude.{Bool, cond, ◌&&◌, List, ℕ, eqb, length}
use Rattle.refusals.specs.Told.{Told}
use Rattle.frames.specs.Words.{word_in}
use Rattle.frames.specs.Blocks.{all_right}
use Rattle.frames.specs.Answers.{told_line}
use Rattle.frames.specs.declared.LineAnswer.{LineAnswer}
use Rattle.frames.specs.declared.LineAnswer.TheVariants.{Silence, Reply, Collision}

-- "a right 3-byte frame": its length and its check sequence, whatever the word
abbrev pub right_frame : List ℕ → Bool
right_frame bytes = eqb (length bytes) 3 && all_right 1 2 bytes

-- "Made from bytes: none is silence; a right 3-byte frame is a reply; all else is a collision"
unfoldable pub answer_of : List ℕ → LineAnswer
answer_of bytes = cond (eqb (length bytes) 0) Silence (cond (right_frame bytes) (Reply (word_in bytes)) Collision)

-- what that tells
abbrev pub line_answer : List ℕ → Told
line_answer bytes = told_line (answer_of bytes)
