-- Blocks of data, each followed by its check sequence (document 01, "Frames").
-- Assumes nothing.
use Rattle.std.specs.Prelude.{Bool, cond, List, [], ◌∷◌, ◌++◌, ℕ, zero, suc, ◌+◌, eqb, get_or, take, drop}
use Rattle.checks.specs.Check.{check_of}

-- "data sent in blocks", k of n bytes, "each followed by its check sequence"
abbrev pub framed : ℕ → ℕ → List ℕ → List ℕ
framed zero n d = []
framed (suc k) n d = take n d ++ check_of (take n d) ∷ framed k n (drop n d)

-- the data of such a frame
abbrev pub data_in : ℕ → ℕ → List ℕ → List ℕ
data_in zero n w = []
data_in (suc k) n w = take n w ++ data_in k n (drop (n + 1) w)

-- how many blocks come before the first whose "check sequence is wrong": all k where none is
abbrev pub right_blocks : ℕ → ℕ → List ℕ → ℕ
right_blocks zero n w = zero
right_blocks (suc k) n w = cond (eqb (check_of (take n w)) (get_or w n 0)) (suc (right_blocks k n (drop (n + 1) w))) zero

-- no check sequence is wrong
abbrev pub all_right : ℕ → ℕ → List ℕ → Bool
all_right k n w = eqb (right_blocks k n w) k
