-- Words (document 01, "Frames", first paragraph).
-- Assumes nothing.
use Rattle.std.specs.Prelude.{List, [], ◌∷◌, ℕ, ◌+◌, ◌*◌, ◌/◌, ◌%◌, get_or}

-- "the top four bits are the F_code"
abbrev pub f_code_of : ℕ → ℕ
f_code_of word = word / 4096

-- "the low twelve an address"
abbrev pub address : ℕ → ℕ
address word = word % 4096

-- the word of an F_code and an address
abbrev pub word_of : ℕ → ℕ → ℕ
word_of f a = f * 4096 + a

-- "Words are 16 bits, high byte first"
abbrev pub word_bytes : ℕ → List ℕ
word_bytes word = word / 256 ∷ word % 256 ∷ []

-- the word in the first two bytes
abbrev pub word_in : List ℕ → ℕ
word_in bytes = get_or bytes 0 0 * 256 + get_or bytes 1 0
