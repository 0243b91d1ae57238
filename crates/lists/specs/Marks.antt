-- The marks of the words that are listed already.
-- Assumes nothing.
use Rattle.std.specs.Prelude.{◌≡◌, ℕ, ◌+◌, ◌^◌, ◌/◌, ◌%◌, ◌<◌, List, [], ◌∷◌, Bool, true, false, ◌||◌, length, get_or, eqb}
use Rattle.lists.specs.Rules.{process_data, listable}

-- the mark of a word: Process Data by address, Device Status after them
abbrev pub mark_by : Bool → ℕ → ℕ
mark_by true a = a
mark_by false a = 4096 + a

-- the place of a word in the seen-set: Process Data by address, F_code 15 behind them
unfoldable pub mark_of : ℕ → ℕ
mark_of w = mark_by (process_data w) (w % 4096)

-- some word has this place
abbrev pub marked : ℕ → List ℕ → Bool
marked m [] = false
marked m (w ∷ ws) = eqb (mark_of w) m || marked m ws

-- bit k of a number
abbrev pub bit : ℕ → ℕ → ℕ
bit k x = x / 2 ^ k % 2

-- a test as a bit
abbrev pub flag : Bool → ℕ
flag true = 1
flag false = 0

-- every word may be listed
abbrev pub AllListable : List ℕ → Type 0
AllListable [] = Unit {0}
AllListable (w ∷ ws) = (listable w ≡ true) × AllListable ws

-- the marks seen are those of the words: 32 to a number
pub record SeenIs (seen ws : List ℕ) : Type 0 where
  pub long : length seen ≡ 256
  pub all : AllListable ws
  pub at : (m : ℕ) → m < 8192 → bit (m % 32) (get_or seen (m / 32) 0) ≡ flag (marked m ws)
