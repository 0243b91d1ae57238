-- Numbers and their bits.
-- Assumes nothing.
use mathlib.Core.Path.{◌≡◌, refl, sym, ap, ap₂, ◌∙◌, subst}
use mathlib.Core.Bool.{Bool, true, false}
use mathlib.Core.List.{List, [], ◌∷◌, ◌++◌, append_assoc, append-nil}
use Prim.Native.Nat.{ℕ, zero, suc, ◌+◌, ◌-◌, ◌*◌, ◌/◌, ◌%◌, ◌^◌, ◌≤◌, ◌<◌}
use native.Mathlib.Nat.{add-suc, zero-add, suc-add, zero-mul, add_assoc, mul_assoc, add-mul, pow-succ'}
use native.Mathlib.Numerals.{add-one}
use native.Mathlib.Omega.{arith}
use lib.Arith.{mod-mul, digits_lt}
use lib.Pow.{pow_pos, pow-add, high, low, field, mod-mod-pow}
use lib.Bits.{bit_xor, xor_shr, xor_mod}
use lib.Dec.{eqb}
use lib.ListN.{length, get_or, take, drop, length-append, length-drop, take-append-drop}
use lib.Seq.{take-suc, take_all}
use Rattle.checks.specs.Bits.{bits, bits_of, one, number}
use Rattle.checks.specs.Check.{plus, add}

pub length_bits : (k n : ℕ) → length (bits k n) ≡ k
unfolding bits
length_bits zero n = refl
length_bits (suc k) n = ap suc (length_bits k n)

bit_xor_lem : (x y : ℕ) → x < 2 → y < 2 → eqb (bit_xor x y) 1 ≡ plus (eqb x 1) (eqb y 1)
bit_xor_lem zero zero h g = refl
bit_xor_lem zero (suc zero) h g = refl
bit_xor_lem zero (suc (suc y)) h g = absurd (omega arith)
bit_xor_lem (suc zero) zero h g = refl
bit_xor_lem (suc zero) (suc zero) h g = refl
bit_xor_lem (suc zero) (suc (suc y)) h g = absurd (omega arith)
bit_xor_lem (suc (suc x)) y h g = absurd (omega arith)

-- a sum of bits is an xor of numbers
pub bits_xor : (k a b : ℕ) → bits k (bit_xor a b) ≡ add (bits k a) (bits k b)
unfolding bits
bits_xor zero a b = refl
bits_xor (suc k) a b =
    ap₂ ◌∷◌
    (ap (λ (x : ℕ). eqb (x % 2) 1) (xor_shr a b k)
    ∙ ap (λ (x : ℕ). eqb x 1) (xor_mod (a / 2 ^ k) (b / 2 ^ k) 1)
    ∙ bit_xor_lem (a / 2 ^ k % 2) (b / 2 ^ k % 2) (omega arith) (omega arith))
    (bits_xor k a b)

one_bit : (x : ℕ) → x < 2 → one (eqb x 1) ≡ x
one_bit zero h = refl
one_bit (suc zero) h = refl
one_bit (suc (suc x)) h = absurd (omega arith)

bit_one : (b : Bool) → eqb (one b % 2) 1 ≡ b
bit_one true = refl
bit_one false = refl

pub number_bits : (k n : ℕ) → number (bits k n) ≡ n % 2 ^ k
unfolding bits
number_bits zero n = omega arith
number_bits (suc k) n =
    ap₂ (λ (x y : ℕ). x + y)
    (ap₂ (λ (x y : ℕ). x * 2 ^ y) (one_bit (n / 2 ^ k % 2) (omega arith)) (length_bits k n))
    (number_bits k n)
    ∙ sym (ap (λ (x : ℕ). n % x) (pow-succ' 2 k) ∙ mod-mul n {m = 2} {c = 2 ^ k} (omega arith) (pow_pos k))

pub bits_mod : (j i n : ℕ) → bits j (n % 2 ^ (i + j)) ≡ bits j n
unfolding bits
bits_mod zero i n = refl
bits_mod (suc j) i n =
    ap₂ ◌∷◌
    (ap (λ (x : ℕ). eqb (n % 2 ^ x / 2 ^ j % 2) 1) (add-suc i j ∙ sym (suc-add i j))
    ∙ ap (λ (x : ℕ). eqb (x % 2) 1) (field n (suc i) j)
    ∙ ap (λ (x : ℕ). eqb (n / 2 ^ j % 2 ^ x % 2) 1) (sym (add-one i))
    ∙ ap (λ (x : ℕ). eqb x 1) (mod-mod-pow (n / 2 ^ j) i 1))
    (ap (λ (x : ℕ). bits j (n % 2 ^ x)) (add-suc i j ∙ sym (suc-add i j)) ∙ bits_mod j (suc i) n)

pub one-lt : (b : Bool) → one b < 2
one-lt true = omega arith
one-lt false = omega arith

pub number_lt : (l : List Bool) → number l < 2 ^ length l
number_lt [] = omega arith
number_lt (b ∷ l) = subst (λ (x : ℕ). number (b ∷ l) < x) (sym (pow-succ' 2 (length l))) (digits_lt (one-lt b) (number_lt l))

pub bits_number : (l : List Bool) → bits (length l) (number l) ≡ l
unfolding bits
bits_number [] = refl
bits_number (b ∷ l) =
    ap₂ ◌∷◌
    (ap (λ (x : ℕ). eqb (x % 2) 1) (high (one b) (length l) (number_lt l)) ∙ bit_one b)
    (sym (bits_mod (length l) zero (number (b ∷ l)))
    ∙ ap (λ (x : ℕ). bits (length l) (number (b ∷ l) % 2 ^ x)) (zero-add (length l))
    ∙ ap (bits (length l)) (low (one b) (length l) (number_lt l))
    ∙ bits_number l)

pub number_byte : (n : ℕ) → n < 256 → number (bits 8 n) ≡ n
number_byte n h = number_bits 8 n ∙ omega arith

-- of eight bits
pub byte_number : (l : List Bool) → length l ≡ 8 → bits 8 (number l) ≡ l
byte_number l e = ap (λ (k : ℕ). bits k (number l)) (sym e) ∙ bits_number l

pub number_byte_lt : (l : List Bool) → length l ≡ 8 → number l < 256
number_byte_lt l e = subst (λ (k : ℕ). number l < 2 ^ k) e (number_lt l)

pub bits_of_append : (a b : List ℕ) → bits_of (a ++ b) ≡ bits_of a ++ bits_of b
bits_of_append [] b = refl
bits_of_append (x ∷ a) b = ap (λ (l : List Bool). bits 8 x ++ l) (bits_of_append a b) ∙ sym (append_assoc (bits 8 x) (bits_of a) (bits_of b))

pub bits_of_snoc : (a : List ℕ) (b : ℕ) → bits_of (a ++ (b ∷ [])) ≡ bits_of a ++ bits 8 b
bits_of_snoc a b = bits_of_append a (b ∷ []) ∙ ap (λ (l : List Bool). bits_of a ++ l) (append-nil (bits 8 b))

-- ---- bytes as one number

-- one run of bits behind another
pub number_append : (l m : List Bool) → number (l ++ m) ≡ number l * 2 ^ length m + number m
number_append [] m = omega (arith, zero-mul (2 ^ length m))
number_append (b ∷ l) m =
    ap₂ (λ (x y : ℕ). x + y)
    (ap (λ (k : ℕ). one b * 2 ^ k) (length-append l m) ∙ ap (λ (x : ℕ). one b * x) (pow-add 2 (length l) (length m)) ∙ sym (mul_assoc (one b) (2 ^ length l) (2 ^ length m)))
    (number_append l m)
    ∙ sym (add_assoc (one b * 2 ^ length l * 2 ^ length m) (number l * 2 ^ length m) (number m))
    ∙ ap (λ (x : ℕ). x + number m) (sym (add-mul (one b * 2 ^ length l) (number l) (2 ^ length m)))

pub length_bits_of : (d : List ℕ) → length (bits_of d) ≡ 8 * length d
length_bits_of [] = refl
length_bits_of (x ∷ d) =
    let ih : length (bits_of d) ≡ 8 * length d = length_bits_of d in
    let a : length (bits 8 x ++ bits_of d) ≡ length (bits 8 x) + length (bits_of d) = length-append (bits 8 x) (bits_of d) in
    let b : length (bits 8 x) ≡ 8 = length_bits 8 x in
    omega arith

-- one byte more
pub number_next : (bytes : List ℕ) (i : ℕ) → i < length bytes → get_or bytes i 0 < 256
    → number (bits_of (take i bytes)) * 256 + get_or bytes i 0 ≡ number (bits_of (take (i + 1) bytes))
number_next bytes i h g =
    sym (ap (λ (k : ℕ). number (bits_of (take k bytes))) (add-one i)
    ∙ ap (λ (l : List ℕ). number (bits_of l)) (take-suc bytes i 0 h)
    ∙ ap number (bits_of_snoc (take i bytes) (get_or bytes i 0))
    ∙ number_append (bits_of (take i bytes)) (bits 8 (get_or bytes i 0))
    ∙ ap₂ (λ (k x : ℕ). number (bits_of (take i bytes)) * 2 ^ k + x) (length_bits 8 (get_or bytes i 0)) (number_byte (get_or bytes i 0) g))

-- the number of a byte of a run, and that it is one
abbrev pub IsByte : ℕ → List ℕ → ℕ → Type 0
IsByte n bytes i = (n ≡ get_or bytes i 0) × (n < 256)

number_more : (bytes : List ℕ) (i n b : ℕ) → i < length bytes → n ≡ number (bits_of (take i bytes)) → IsByte b bytes i → n * 256 + b ≡ number (bits_of (take (i + 1) bytes))
number_more bytes i n b h e w = rw (e, w.0) (number_next bytes i h (rw (sym w.0) w.1))

-- two bytes
pub number_pair : (bytes : List ℕ) (a b : ℕ) → 2 ≤ length bytes → IsByte a bytes 0 → IsByte b bytes 1 → a * 256 + b ≡ number (bits_of (take 2 bytes))
number_pair bytes a b h wa wb =
    number_more bytes 1 a b (omega arith) (sym (zero-add a) ∙ number_more bytes 0 0 a (omega arith) refl wa) wb

-- a word, by its two bytes
pub number_word : (word : ℕ) → word < 65536 → word ≡ number (bits_of (word / 256 ∷ word % 256 ∷ []))
number_word word h =
    let e : word ≡ word / 256 * 256 + word % 256 = omega arith in
    e ∙ number_pair (word / 256 ∷ word % 256 ∷ []) (word / 256) (word % 256) (omega arith) (refl, omega arith) (refl, omega arith)

-- four bytes
pub number_four : (bytes : List ℕ) (a b c d : ℕ) → length bytes ≡ 4 → IsByte a bytes 0 → IsByte b bytes 1 → IsByte c bytes 2 → IsByte d bytes 3
    → ((a * 256 + b) * 256 + c) * 256 + d ≡ number (bits_of bytes)
number_four bytes a b c d h wa wb wc wd =
    number_more bytes 3 ((a * 256 + b) * 256 + c) d (omega arith) (number_more bytes 2 (a * 256 + b) c (omega arith) (number_pair bytes a b (omega arith) wa wb) wc) wd
    ∙ ap (λ (l : List ℕ). number (bits_of l)) (take_all 4 bytes (omega arith))

-- ---- bytes in two halves

second_half : (k : ℕ) (bytes : List ℕ) → take (length bytes - k) (drop k bytes) ≡ drop k bytes
second_half k bytes = take_all (length bytes - k) (drop k bytes) (let e : length (drop k bytes) ≡ length bytes - k = length-drop k bytes in omega arith)

length_second : (k : ℕ) (bytes : List ℕ) → length bytes ≡ 2 * k → length (drop k bytes) ≡ k
length_second k bytes h = length-drop k bytes ∙ omega arith

-- one half behind the other
pub number_halves : (k high low : ℕ) (bytes : List ℕ) → length bytes ≡ 2 * k → high ≡ number (bits_of (take k bytes)) → low ≡ number (bits_of (take (length bytes - k) (drop k bytes)))
    → high * 2 ^ (8 * k) + low ≡ number (bits_of bytes)
number_halves k high low bytes h eh el =
    rw (eh, el, second_half k bytes)
    (ap (λ (n : ℕ). number (bits_of (take k bytes)) * 2 ^ n + number (bits_of (drop k bytes)))
    (sym (length_bits_of (drop k bytes) ∙ ap (λ (n : ℕ). 8 * n) (length_second k bytes h)))
    ∙ sym (number_append (bits_of (take k bytes)) (bits_of (drop k bytes)))
    ∙ ap number (sym (bits_of_append (take k bytes) (drop k bytes)) ∙ ap bits_of (take-append-drop k bytes)))
