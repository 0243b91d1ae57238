-- The table of what each byte leaves of check bits, against the definition, and sums of its entries.
-- Assumes nothing.
use Rattle.std.proofs.Common.{◌≡◌, ℕ, zero, suc, ◌+◌, ◌-◌, ◌*◌, ◌/◌, ◌<◌, ◌≤◌, Bool, false, List, [], ◌∷◌, ◌++◌, map, refl, sym, ap, ap₂, ◌∙◌, arith, length, get_or, take, replicate, bit_xor, bit_and, count_ones, zero-add, append_assoc, ◌%◌}
use Rattle.std.proofs.lemmas.Nat.{xor_lt}
use Rattle.std.proofs.Math.Seq.{take-suc}
use Rattle.std.proofs.lemmas.List.{ext_get_or, take_all}
use Rattle.std.proofs.lemmas.List.FromFn.{get_or-map-range_with_len, length-map-range_with_len}
use Rattle.std.specs.List.{range_with_len}
use Rattle.checks.specs.declared.TheConstants.{LEFT}
use Rattle.checks.specs.Bits.{bits, bits_of, number}
use Rattle.checks.specs.Check.{plus, add, plain, remainder, odd}
use Rattle.checks.proofs.Polynomials.{same, plus_comm, plus_false, add_assoc, add_append, add_zeros, length_remainder}
use Rattle.checks.proofs.Numbers.{length_bits, length_bits_of, bits_xor, bits_of_snoc, number_byte, number_byte_lt}
use Rattle.checks.proofs.Parity.{odd_append, odd_add, length_plain}
use Rattle.checks.proofs.Runs.{remainder_more, plain_append, plain_bytes}

-- what is computed at each number below n
pub below : {X : Type 0} (f g : ℕ → X) (n : ℕ) → map f (range_with_len 0 n) ≡ map g (range_with_len 0 n) → (i : ℕ) → i < n → f i ≡ g i
below f g n e i h =
    sym (get_or-map-range_with_len f 0 n i i (f 0) h (zero-add i)) ∙ ap (λ l. get_or l i (f 0)) e ∙ get_or-map-range_with_len g 0 n i i (f 0) h (zero-add i)

-- the bits of one byte more
bits_next : (bytes : List ℕ) (i n : ℕ) → i < length bytes → n ≡ i + 1 → bits_of (take n bytes) ≡ bits_of (take i bytes) ++ bits 8 (get_or bytes i 0)
bits_next bytes i n h e =
    let s : n ≡ suc i = omega arith in
    ap (λ k. bits_of (take k bytes)) s ∙ ap bits_of (take-suc bytes i 0 h) ∙ bits_of_snoc (take i bytes) (get_or bytes i 0)

-- the entry of a byte with k bytes behind it
abbrev pub entry : ℕ → ℕ → ℕ
entry k byte = get_or (get_or LEFT k []) byte 0

-- a byte's bits with k bytes of zeros behind them
abbrev pub followed : ℕ → ℕ → List Bool
followed k byte = bits 8 byte ++ replicate (8 * k) false

entries : (k : ℕ) → k < 8 → (byte : ℕ) → byte < 256 → bits 8 (entry k byte) ≡ plain (followed k byte)
unfolding bits plain remainder
entries k h =
    below (λ b. bits 8 (entry k b)) (λ b. plain (followed k b)) 256
    (below (λ k. map (λ b. bits 8 (entry k b)) (range_with_len 0 256)) (λ k. map (λ b. plain (followed k b)) (range_with_len 0 256)) 8 refl k h)

entry_lt : (k : ℕ) → k < 8 → (byte : ℕ) → byte < 256 → entry k byte < 256
entry_lt k h byte g = let e : entry k byte / 256 ≡ 0 = quotients k h byte g in omega arith
  where
    quotients : (k : ℕ) → k < 8 → (byte : ℕ) → byte < 256 → entry k byte / 256 ≡ 0
    quotients k h =
        below (λ b. entry k b / 256) (λ b. 0) 256
        (below (λ k. map (λ b. entry k b / 256) (range_with_len 0 256)) (λ k. map (λ b. 0) (range_with_len 0 256)) 8 refl k h)

pub number_is : (n : ℕ) (l : List Bool) → n < 256 → bits 8 n ≡ l → n ≡ number l
number_is n l h e = sym (number_byte n h) ∙ ap number e

-- ---- all bytes at once

-- the sum of what bytes leave, and of s
abbrev pub summed : ℕ → List ℕ → ℕ
summed s [] = s
summed s (byte ∷ bytes) = summed (bit_xor s (entry (length bytes) byte)) bytes

-- a byte in front of others
front_byte : (byte : ℕ) (bytes : List ℕ) → plain (bits_of (byte ∷ bytes)) ≡ add (plain (followed (length bytes) byte)) (plain (bits_of bytes))
front_byte byte bytes =
    plain_append (bits 8 byte) (bits_of bytes)
    ∙ ap (λ (k : ℕ). add (plain (bits 8 byte ++ replicate k false)) (plain (bits_of bytes))) (length_bits_of bytes)

no_bytes : (s : ℕ) → bits 8 s ≡ add (bits 8 s) (plain [])
unfolding plain remainder bits
no_bytes s = sym (add_zeros (bits 8 s))

summed_bits : (s : ℕ) (bytes : List ℕ) → length bytes ≤ 8 → ((i : ℕ) → get_or bytes i 0 < 256) → bits 8 (summed s bytes) ≡ add (bits 8 s) (plain (bits_of bytes))
summed_bits s [] h small = no_bytes s
summed_bits s (byte ∷ bytes) h small =
    let k : ℕ = length bytes in
    let p : List Bool = plain (followed k byte) in
    let q : List Bool = plain (bits_of bytes) in
    summed_bits (bit_xor s (entry k byte)) bytes (omega arith) (λ i. small (suc i))
    ∙ ap (λ l. add l q) (bits_xor 8 s (entry k byte) ∙ ap (add (bits 8 s)) (entries k (omega arith) byte (small 0)))
    ∙ sym (add_assoc (bits 8 s) (same p q (length_plain (followed k byte) ∙ sym (length_plain (bits_of bytes)))))
    ∙ ap (add (bits 8 s)) (sym (front_byte byte bytes))

-- the sum of what the bytes of a block leave
abbrev pub sum_of : List ℕ → ℕ
sum_of [] = 0
sum_of (byte ∷ bytes) = summed (entry (length bytes) byte) bytes

sum_bits : (block : List ℕ) → length block ≤ 8 → ((i : ℕ) → get_or block i 0 < 256) → bits 8 (sum_of block) ≡ plain (bits_of block)
unfolding plain remainder bits
sum_bits [] h small = refl
sum_bits (byte ∷ bytes) h small =
    summed_bits (entry (length bytes) byte) bytes (omega arith) (λ i. small (suc i))
    ∙ ap (λ l. add l (plain (bits_of bytes))) (entries (length bytes) (omega arith) byte (small 0))
    ∙ sym (front_byte byte bytes)

summed_lt : (s : ℕ) (bytes : List ℕ) → length bytes ≤ 8 → ((i : ℕ) → get_or bytes i 0 < 256) → s < 256 → summed s bytes < 256
summed_lt s [] h small g = g
summed_lt s (byte ∷ bytes) h small g =
    summed_lt (bit_xor s (entry (length bytes) byte)) bytes (omega arith) (λ i. small (suc i)) (xor_lt 8 s _ g (entry_lt (length bytes) (omega arith) byte (small 0)))

sum_lt : (block : List ℕ) → length block ≤ 8 → ((i : ℕ) → get_or block i 0 < 256) → sum_of block < 256
sum_lt [] h small = omega arith
sum_lt (byte ∷ bytes) h small = summed_lt (entry (length bytes) byte) bytes (omega arith) (λ i. small (suc i)) (entry_lt (length bytes) (omega arith) byte (small 0))

-- the bytes at the first n places
abbrev pub first_bytes : ℕ → List ℕ → List ℕ
first_bytes n block = map (λ i. get_or block i 0) (range_with_len 0 n)

all_bytes : (n : ℕ) (block : List ℕ) → length block ≡ n → first_bytes n block ≡ block
all_bytes n block h =
    ext_get_or 0 (first_bytes n block) block (length-map-range_with_len (λ i. get_or block i 0) 0 n ∙ sym h)
    (λ i g. get_or-map-range_with_len (λ i. get_or block i 0) 0 n i i 0 (omega (arith, length-map-range_with_len (λ i. get_or block i 0) 0 n)) (zero-add i))

-- of at most eight bytes it is the check bits
pub sum_left : (n : ℕ) (block : List ℕ) → length block ≡ n → n ≤ 8 → ((i : ℕ) → get_or block i 0 < 256)
    → sum_of (first_bytes n block) ≡ number (plain (bits_of block))
sum_left n block h g small = ap sum_of (all_bytes n block h) ∙ number_is (sum_of block) (plain (bits_of block)) (sum_lt block (omega arith) small) (sum_bits block (omega arith) small)

-- ---- byte after byte

rests : (byte : ℕ) → byte < 256 → bits 8 (bit_and (entry 0 byte) 254) ≡ remainder (bits 8 byte) ++ (false ∷ [])
unfolding bits plain remainder
rests = below (λ b. bits 8 (bit_and (entry 0 b) 254)) (λ b. remainder (bits 8 b) ++ (false ∷ [])) 256 refl

-- the remainder so far, with a zero behind it
abbrev pub Rest : ℕ → List ℕ → Type 0
Rest rest bytes = bits 8 rest ≡ remainder (bits_of bytes) ++ (false ∷ [])

pub rest_next : (bytes : List ℕ) (i n rest : ℕ) → i < length bytes → n ≡ i + 1 → rest < 256 → get_or bytes i 0 < 256 → Rest rest (take i bytes)
    → Rest (bit_and (entry 0 (bit_xor rest (get_or bytes i 0))) 254) (take n bytes)
rest_next bytes i n rest h e r b inv =
    let byte : ℕ = get_or bytes i 0 in
    let m : List Bool = bits_of (take i bytes) in
    rests (bit_xor rest byte) (xor_lt 8 rest byte r b)
    ∙ ap (λ (l : List Bool). remainder l ++ (false ∷ [])) (bits_xor 8 rest byte ∙ ap (λ l. add l (bits 8 byte)) inv)
    ∙ ap (λ (l : List Bool). l ++ (false ∷ [])) (sym (remainder_more m (bits 8 byte) 1 (length_bits 8 byte)))
    ∙ ap (λ (l : List Bool). remainder l ++ (false ∷ [])) (sym (bits_next bytes i n h e))

pub ones_next : (bytes : List ℕ) (i n ones : ℕ) → i < length bytes → n ≡ i + 1 → odd (bits 8 ones) ≡ odd (bits_of (take i bytes))
    → odd (bits 8 (bit_xor ones (get_or bytes i 0))) ≡ odd (bits_of (take n bytes))
ones_next bytes i n ones h e inv =
    let byte : ℕ = get_or bytes i 0 in
    ap odd (bits_xor 8 ones byte) ∙ odd_add (same (bits 8 ones) (bits 8 byte) (length_bits 8 ones ∙ sym (length_bits 8 byte)))
    ∙ ap (λ o. plus o (odd (bits 8 byte))) inv
    ∙ sym (odd_append (bits_of (take i bytes)) (bits 8 byte)) ∙ ap odd (sym (bits_next bytes i n h e))

parity : (i : ℕ) → i < 256 → bits 8 (count_ones i % 2) ≡ replicate 7 false ++ (odd (bits 8 i) ∷ [])
unfolding bits lib.Count.ones
parity = below (λ i. bits 8 (count_ones i % 2)) (λ i. replicate 7 false ++ (odd (bits 8 i) ∷ [])) 256 refl

-- the remainder of all bytes and the parity make the check bits
parity_bits : (bytes : List ℕ) (rest ones : ℕ) → rest < 256 → ones < 256 → Rest rest bytes → odd (bits 8 ones) ≡ odd (bits_of bytes)
    → bits 8 (bit_xor rest (count_ones (bit_xor rest ones) % 2)) ≡ plain (bits_of bytes)
unfolding plain
parity_bits bytes rest ones hr ho er eo =
    let m : List Bool = bits_of bytes in
    let r : List Bool = remainder m in
    let both : odd (bits 8 (bit_xor rest ones)) ≡ odd (m ++ r) =
    ap odd (bits_xor 8 rest ones) ∙ odd_add (same (bits 8 rest) (bits 8 ones) (length_bits 8 rest ∙ sym (length_bits 8 ones)))
    ∙ ap₂ plus (ap odd er ∙ odd_append r (false ∷ []) ∙ plus_false (odd r)) eo
    ∙ plus_comm (odd r) (odd m) ∙ sym (odd_append m r) in
    bits_xor 8 rest (count_ones (bit_xor rest ones) % 2)
    ∙ ap₂ add er (parity (bit_xor rest ones) (xor_lt 8 rest ones hr ho) ∙ ap (λ (o : Bool). replicate 7 false ++ (o ∷ [])) both)
    ∙ add_append (false ∷ []) (odd (m ++ r) ∷ []) (same r (replicate 7 false) (length_remainder m))
    ∙ ap (λ (l : List Bool). l ++ (odd (m ++ r) ∷ [])) (ap (λ (k : ℕ). add r (replicate k false)) (sym (length_remainder m)) ∙ add_zeros r)

pub with_parity : (block : List ℕ) (n rest ones : ℕ) → length block ≤ n → rest < 256 → ones < 256 → Rest rest (take n block) → odd (bits 8 ones) ≡ odd (bits_of (take n block))
    → bit_xor rest (count_ones (bit_xor rest ones) % 2) ≡ number (plain (bits_of block))
with_parity block n rest ones h hr ho er eo =
    number_is _ _ (xor_lt 8 rest _ hr (omega arith)) (parity_bits (take n block) rest ones hr ho er eo) ∙ ap (λ l. number (plain (bits_of l))) (take_all n block h)

-- ---- bytes more, by the check bits so far

more : (before : List ℕ) (p byte : ℕ) (bytes : List ℕ) → length bytes ≤ 7 → byte < 256 → ((i : ℕ) → get_or bytes i 0 < 256) → p ≡ number (plain (bits_of before))
    → bit_xor (sum_of (bit_xor (p - p % 2) byte ∷ bytes)) (p % 2) ≡ number (plain (bits_of (before ++ (byte ∷ bytes))))
more before p byte bytes h b small e =
    let l : List ℕ = bit_xor (p - p % 2) byte ∷ bytes in
    let s : p < 256 = rw e (number_byte_lt (plain (bits_of before)) (length_plain (bits_of before))) in
    plain_bytes before p byte (sum_of l) bytes e (number_is (sum_of l) (plain (bits_of l)) (sum_lt l (omega arith) (all_small s)) (sum_bits l (omega arith) (all_small s)))
  where
    all_small : p < 256 → (i : ℕ) → get_or (bit_xor (p - p % 2) byte ∷ bytes) i 0 < 256
    all_small s zero = xor_lt 8 (p - p % 2) byte (omega arith) b
    all_small s (suc i) = small i

take_one : (bytes : List ℕ) (i n : ℕ) → i < length bytes → n ≡ i + 1 → take n bytes ≡ take i bytes ++ (get_or bytes i 0 ∷ [])
take_one bytes i n h e = let s : n ≡ suc i = omega arith in ap (λ k. take k bytes) s ∙ take-suc bytes i 0 h

pub more_one : (bytes : List ℕ) (i n p : ℕ) → i < length bytes → n ≡ i + 1 → get_or bytes i 0 < 256 → p ≡ number (plain (bits_of (take i bytes)))
    → bit_xor (entry 0 (bit_xor (p - p % 2) (get_or bytes i 0))) (p % 2) ≡ number (plain (bits_of (take n bytes)))
more_one bytes i n p h e b inv =
    more (take i bytes) p (get_or bytes i 0) [] (omega arith) b (λ k. omega arith) inv
    ∙ ap (λ (l : List ℕ). number (plain (bits_of l))) (sym (take_one bytes i n h e))

pub more_two : (bytes : List ℕ) (i n p : ℕ) → i + 1 < length bytes → n ≡ i + 2 → ((k : ℕ) → get_or bytes k 0 < 256) → p ≡ number (plain (bits_of (take i bytes)))
    → bit_xor (bit_xor (entry 1 (bit_xor (p - p % 2) (get_or bytes i 0))) (entry 0 (get_or bytes (i + 1) 0))) (p % 2) ≡ number (plain (bits_of (take n bytes)))
more_two bytes i n p h e small inv =
    more (take i bytes) p (get_or bytes i 0) (get_or bytes (i + 1) 0 ∷ []) (omega arith) (small i) alone inv
    ∙ ap (λ (l : List ℕ). number (plain (bits_of l))) (sym two)
  where
    alone : (k : ℕ) → get_or (get_or bytes (i + 1) 0 ∷ []) k 0 < 256
    alone zero = small (i + 1)
    alone (suc k) = omega arith

    two : take n bytes ≡ take i bytes ++ (get_or bytes i 0 ∷ get_or bytes (i + 1) 0 ∷ [])
    two =
        take_one bytes (i + 1) n h (omega arith)
        ∙ ap (λ (l : List ℕ). l ++ (get_or bytes (i + 1) 0 ∷ [])) (take_one bytes i (i + 1) (omega arith) refl)
        ∙ append_assoc (take i bytes) (get_or bytes i 0 ∷ []) (get_or bytes (i + 1) 0 ∷ [])

-- the last byte
pub more_last : (bytes : List ℕ) (i p : ℕ) → i + 1 ≡ length bytes → ((k : ℕ) → get_or bytes k 0 < 256) → p ≡ number (plain (bits_of (take i bytes)))
    → bit_xor (entry 0 (bit_xor (p - p % 2) (get_or bytes (length bytes - 1) 0))) (p % 2) ≡ number (plain (bits_of bytes))
more_last bytes i p e small inv =
    let at : length bytes - 1 ≡ i = omega arith in
    ap (λ (k : ℕ). bit_xor (entry 0 (bit_xor (p - p % 2) (get_or bytes k 0))) (p % 2)) at
    ∙ more_one bytes i (i + 1) p (omega arith) refl (small i) inv
    ∙ ap (λ (l : List ℕ). number (plain (bits_of l))) (take_all (i + 1) bytes (omega arith))
