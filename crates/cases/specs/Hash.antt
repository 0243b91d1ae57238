-- FNV-1a of 32 bits.
-- Assumes nothing.
use Rattle.std.specs.Prelude.{ℕ, List, [], ◌∷◌, ◌*◌, ◌/◌, ◌%◌, ◌^◌, fold, bit_xor}

-- "for each byte `hash ^= byte; hash *= 16,777,619` mod 2^32"
abbrev pub hashed : ℕ → List ℕ → ℕ
hashed = fold (λ hash byte. (bit_xor hash byte * 16777619) % 2 ^ 32)

-- the hash of bytes, "from 2,166,136,261"
abbrev pub hash_of : List ℕ → ℕ
hash_of bytes = hashed 2166136261 bytes

-- the hash of numbers of 16 bits, each "high byte first"
abbrev pub hash_of_numbers : List ℕ → ℕ
hash_of_numbers numbers = fold (λ hash number. hashed hash (number / 256 ∷ number % 256 ∷ [])) 2166136261 numbers
