-- The rules at a listed word and after a cycle's split numbers (document 01, "The list file").
-- Assumes nothing.
use Rattle.std.specs.Prelude.{ℕ, List, [], ◌∷◌, Bool, true, false, not, ◌&&◌, ◌||◌, ltb, eqb}
use Rattle.frames.specs.Words.{f_code_of, address}
use Rattle.numbers.specs.Number.{sum}

-- what a check says: nothing, or a refusal
pub data Check : Type 0 where
  right : Check
  wrong : ℕ → Check

-- refused n unless the test holds
abbrev pub unless : ℕ → Bool → Check
unless n true = right
unless n false = wrong n

-- one check, then another
abbrev pub also : Check → Check → Check
also right b = b
also (wrong n) b = wrong n

-- a Process Data word has F_code 0 to 4
abbrev pub process_data : ℕ → Bool
process_data w = ltb (f_code_of w) 5

-- "A listed word has F_code 0 to 4 or 15."
abbrev pub listable : ℕ → Bool
listable w = process_data w || eqb (f_code_of w) 15

-- "No two listed Process Data words share an address, whatever their F_codes; no word with F_code 15 is listed twice."
unfoldable pub clash : ℕ → ℕ → Bool
clash v w = (process_data v && (process_data w && eqb (address v) (address w))) || (eqb (f_code_of w) 15 && eqb v w)

-- does a word clash with one of those before it
abbrev pub clashes : ℕ → List ℕ → Bool
clashes w [] = false
clashes w (v ∷ before) = clash v w || clashes w before

-- a rule for a word after the words before it, and a rule for the split numbers of so many words
pub record Rules : Type 0 where
  pub word : List ℕ → ℕ → Check
  pub splits : ℕ → List ℕ → Check

-- 7, then 8
abbrev pub word_rule : List ℕ → ℕ → Check
word_rule before w = also (unless 7 (listable w)) (unless 8 (not (clashes w before)))

-- "Split numbers of a cycle add up to its count.": 9
abbrev pub split_rule : ℕ → List ℕ → Check
split_rule count zs = unless 9 (eqb (sum zs) count)

-- the rules of document 01
abbrev pub rules : Rules
rules = record { word = word_rule; splits = split_rule }
