-- What words weigh, by the weights of their F_codes.
-- Assumes nothing.
use Rattle.std.specs.Prelude.{◌≡◌, ℕ, ◌+◌, List, [], ◌∷◌, true, ◌||◌, get_or, ltb, eqb}
use Rattle.timing.specs.Timing.{telegram_bits}
use Rattle.frames.specs.Words.{f_code_of}

-- the weights of some words added up
abbrev pub weigh : List ℕ → List ℕ → ℕ
weigh weights [] = 0
weigh weights (w ∷ ws) = get_or weights (f_code_of w) 0 + weigh weights ws

-- the F_codes of listed words
abbrev pub Listable : ℕ → Type 0
Listable f = (ltb f 5 || eqb f 15) ≡ true

-- the weights that a gap makes
pub record WeightsOf (gap : ℕ) (weights : List ℕ) : Type 0 where
  pub at : (f : ℕ) → Listable f → get_or weights f 0 ≡ telegram_bits f gap
