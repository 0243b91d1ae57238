-- The check sequence of a block (document 01, "Frames"; 001, 6.1.3): long division on paper.
-- A run of bits is also a polynomial over two elements, its highest coefficient first.
-- Assumes nothing.
use Rattle.std.specs.Prelude.{Bool, true, false, not, List, [], ◌∷◌, ◌++◌, map, ℕ, zero, suc, length, replicate}
use Rattle.checks.specs.Bits.{bits_of, number}

-- the sum "over two elements", which is the difference too
abbrev pub plus : Bool → Bool → Bool
plus true b = not b
plus false b = b

-- the sum of two polynomials, laid one under the other at the front; what reaches beyond the second is cut
abbrev pub add : List Bool → List Bool → List Bool
add [] q = q
add (a ∷ p) [] = []
add (a ∷ p) (b ∷ q) = plus a b ∷ add p q

-- "x^7+x^6+x^5+x^2+1", after its first coefficient
abbrev pub divisor : List Bool
divisor = true ∷ true ∷ false ∷ false ∷ true ∷ false ∷ true ∷ []

-- a line of the division: the first coefficient goes, and with it, where it is 1, the divisor
abbrev pub less : Bool → List Bool → List Bool
less true p = add divisor p
less false p = p

-- so many lines of it: "divided over two elements"
abbrev pub divided : ℕ → List Bool → List Bool
divided zero p = p
divided (suc n) [] = []
divided (suc n) (b ∷ p) = divided n (less b p)

-- "the block's bits, high bit first, times x^7, divided": "seven remainder bits, high first"
unfoldable pub remainder : List Bool → List Bool
remainder block = divided (length block) (block ++ replicate 7 false)

-- whether the number of ones is odd
abbrev pub odd : List Bool → Bool
odd [] = false
odd (b ∷ bs) = plus b (odd bs)

-- "then one bit that makes the number of ones in block, remainder and itself even"
unfoldable pub plain : List Bool → List Bool
plain block = remainder block ++ (odd (block ++ remainder block) ∷ [])

-- "all eight inverted"
unfoldable pub check_bits : List Bool → List Bool
check_bits block = map not (plain block)

-- the check sequence of a block of bytes, as a byte
unfoldable pub check_of : List ℕ → ℕ
check_of block = number (check_bits (bits_of block))
