-- The check bits of longer runs of bits, and the check sequence made of them.
-- Assumes nothing.
use mathlib.Core.Path.{◌≡◌, refl, sym, ap, ap₂, ◌∙◌, subst}
use mathlib.Core.Bool.{Bool, true, false, not}
use mathlib.Core.List.{List, [], ◌∷◌, ◌++◌, map, append_assoc, append-nil}
use Prim.Native.Nat.{ℕ, zero, suc, ◌+◌, ◌-◌, ◌*◌, ◌/◌, ◌%◌, ◌^◌, ◌≤◌, ◌<◌}
use native.Mathlib.Nat.{pow-succ'}
use native.Mathlib.Omega.{arith}
use lib.Bits.{bit_xor, xor_lt, xor_block, xor_zero_r, xor_assoc}
use lib.ListN.{length, replicate, length-append, length-replicate}
use Rattle.checks.specs.Bits.{bits, bits_of, one, number}
use Rattle.checks.specs.Check.{plus, add, divided, remainder, odd, plain, check_bits, check_of}
use Rattle.checks.proofs.Polynomials.{same, plus_false, add_comm, add_append, add_zeros, zeros_add, length_add, divided_zeros, divided_more, mix, length_remainder}
use Rattle.checks.proofs.Numbers.{length_bits, length_bits_of, bits_number, bits_xor, one-lt, number_lt, number_append, number_byte, number_pair, byte_number, number_byte_lt, bits_of_append, bits_of_snoc}
use Rattle.checks.proofs.Parity.{odd_append, odd_add, odd_zeros, length_plain}
use Rattle.checks.proofs.Shifts.{bits_small}
use Rattle.checks.proofs.Distance.{plain_add}

-- ---- the remainder of a longer block

remainder_zeros : (k : ℕ) (m : List Bool) → remainder (replicate k false ++ m) ≡ remainder m
unfolding remainder
remainder_zeros k m =
    ap₂ divided (length-append (replicate k false) m ∙ ap (λ (n : ℕ). n + length m) (length-replicate k false)) (append_assoc (replicate k false) m (replicate 7 false))
    ∙ divided_more k (length m) (replicate k false ++ (m ++ replicate 7 false)) long
    ∙ ap (divided (length m)) (divided_zeros k (m ++ replicate 7 false))
  where
    long : k + length m ≤ length (replicate k false ++ (m ++ replicate 7 false))
    long = simp (length-append, length-replicate) (omega arith)

-- the remainder so far joins the next bits at their front
pub remainder_more : (m b : List Bool) (k : ℕ) → length b ≡ 7 + k → remainder (m ++ b) ≡ remainder (add (remainder m ++ replicate k false) b)
unfolding remainder
remainder_more m b k e =
    ap₂ divided (length-append m b) (append_assoc m b (replicate 7 false))
    ∙ divided_more (length m) (length b) (m ++ (b ++ replicate 7 false)) long
    ∙ ap (divided (length b))
    (mix m (b ++ replicate 7 false) (k + 7) (length-append b (replicate 7 false) ∙ (let z : length b + 7 ≡ 7 + (k + 7) = omega arith in z))
    ∙ ap (λ (l : List Bool). add (remainder m ++ l) (b ++ replicate 7 false)) (sym (lib.ListN.replicate-append-replicate k 7 false))
    ∙ ap (λ (l : List Bool). add l (b ++ replicate 7 false)) (sym (append_assoc (remainder m) (replicate k false) (replicate 7 false)))
    ∙ add_append (replicate 7 false) (replicate 7 false) (same front b (long_front ∙ sym e)))
    ∙ ap (λ (n : ℕ). divided n (add front b ++ replicate 7 false)) (sym (length_add front b))
  where
    front : List Bool
    front = remainder m ++ replicate k false

    long_front : length front ≡ 7 + k
    long_front = length-append (remainder m) (replicate k false) ∙ ap₂ (λ (x y : ℕ). x + y) (length_remainder m) (length-replicate k false)

    long : length m + length b ≤ length (m ++ (b ++ replicate 7 false))
    long = simp (length-append) (omega arith)

-- ---- the check bits of two runs, one after the other

-- zeros in front change nothing
pub plain_zeros : (k : ℕ) (m : List Bool) → plain (replicate k false ++ m) ≡ plain m
unfolding plain
plain_zeros k m =
    ap₂ (λ (l : List Bool) (b : Bool). l ++ (b ∷ [])) (remainder_zeros k m)
    (ap (λ (l : List Bool). odd ((replicate k false ++ m) ++ l)) (remainder_zeros k m) ∙ ap odd (append_assoc (replicate k false) m (remainder m)) ∙ odd_zeros k (m ++ remainder m))

-- what the first run leaves with as many bits behind it, and what the second leaves
pub plain_append : (p q : List Bool) → plain (p ++ q) ≡ add (plain (p ++ replicate (length q) false)) (plain q)
plain_append p q =
    let front : List Bool = replicate (length p) false in
    let behind : List Bool = replicate (length q) false in
    let sp : length p ≡ length front = sym (length-replicate (length p) false) in
    let sq : length behind ≡ length q = length-replicate (length q) false in
    let sum : add (p ++ behind) (front ++ q) ≡ p ++ q = add_append behind q (same p front sp) ∙ ap₂ ◌++◌ (add_zeros p) (zeros_add (length q) q refl) in
    sym (ap (add (plain (p ++ behind))) (sym (plain_zeros (length p) q))
    ∙ plain_add (same (p ++ behind) (front ++ q) (simp length-append (omega arith)))
    ∙ ap plain sum)

pub number_add : (a b : List Bool) → length a ≡ 8 → length b ≡ 8 → bit_xor (number a) (number b) ≡ number (add a b)
number_add a b ha hb =
    sym (number_byte (bit_xor (number a) (number b)) (xor_lt 8 (number a) (number b) (number_byte_lt a ha) (number_byte_lt b hb)))
    ∙ ap number (bits_xor 8 (number a) (number b) ∙ ap₂ add (byte_number a ha) (byte_number b hb))

-- ---- the check bits, byte by byte

bits_64 : (i : ℕ) (l : List Bool) → i + length l ≡ 64 → bits 64 (number l) ≡ replicate i false ++ l
bits_64 i l e = ap (λ (k : ℕ). bits k (number l)) (sym e) ∙ bits_small i (length l) (number l) (number_lt l) ∙ ap (λ (x : List Bool). replicate i false ++ x) (bits_number l)

-- of at most eight bytes, as a number of 64 bits
pub plain_first : (bytes : List ℕ) (n p : ℕ) → length bytes ≤ 8 → n ≡ number (bits_of bytes) → p ≡ number (plain (bits 64 n)) → p ≡ number (plain (bits_of bytes))
plain_first bytes n p h e r =
    let l : length (bits_of bytes) ≡ 8 * length bytes = length_bits_of bytes in
    r
    ∙ ap (λ (x : ℕ). number (plain (bits 64 x))) e
    ∙ ap (λ (x : List Bool). number (plain x)) (bits_64 (64 - length (bits_of bytes)) (bits_of bytes) (omega arith))
    ∙ ap number (plain_zeros (64 - length (bits_of bytes)) (bits_of bytes))

-- the check bits of a longer block: the remainder so far joins the next bits at their front, the parity so far joins theirs
plain_more : (m b : List Bool) (k : ℕ) → length b ≡ 7 + k
    → plain (m ++ b) ≡ add (plain (add (remainder m ++ replicate k false) b)) (replicate 7 false ++ (odd (m ++ remainder m) ∷ []))
unfolding plain
plain_more m b k e =
    let front : List Bool = remainder m ++ replicate k false in
    let x : List Bool = add front b in
    let long : length front ≡ 7 + k = length-append (remainder m) (replicate k false) ∙ ap₂ (λ (i j : ℕ). i + j) (length_remainder m) (length-replicate k false) in
    let r : remainder (m ++ b) ≡ remainder x = remainder_more m b k e in
    let o : odd ((m ++ b) ++ remainder (m ++ b)) ≡ plus (odd (x ++ remainder x)) (odd (m ++ remainder m)) =
    odd_append (m ++ b) (remainder (m ++ b)) ∙ ap₂ plus (odd_append m b) (ap odd r)
    ∙ parities (odd m) (odd b) (odd (remainder x)) (odd (remainder m))
    ∙ sym (ap₂ plus
    (odd_append x (remainder x)
    ∙ ap (λ (c : Bool). plus c (odd (remainder x)))
    (odd_add (same front b (long ∙ sym e)) ∙ ap (λ (c : Bool). plus c (odd b)) (odd_append (remainder m) (replicate k false) ∙ ap (plus (odd (remainder m))) (no_ones k) ∙ plus_false (odd (remainder m)))))
    (odd_append m (remainder m))) in
    ap₂ (λ (l : List Bool) (c : Bool). l ++ (c ∷ [])) (r ∙ sym (add_comm (same (remainder x) (replicate 7 false) (length_remainder x)) ∙ zeros_add 7 (remainder x) (sym (length_remainder x)))) o
    ∙ sym (add_append (odd (x ++ remainder x) ∷ []) (odd (m ++ remainder m) ∷ []) (same (remainder x) (replicate 7 false) (length_remainder x)))
  where
    parities : (a b c d : Bool) → plus (plus a b) c ≡ plus (plus (plus d b) c) (plus a d)
    parities true b c true = sym (plus_false (plus (not b) c))
    parities false b c false = sym (plus_false (plus b c))
    parities true true true false = refl
    parities true true false false = refl
    parities true false true false = refl
    parities true false false false = refl
    parities false true true true = refl
    parities false true false true = refl
    parities false false true true = refl
    parities false false false true = refl

    no_ones : (k : ℕ) → odd (replicate k false) ≡ false
    no_ones zero = refl
    no_ones (suc k) = no_ones k

rest_lt : (m : List Bool) → number (remainder m) < 128
rest_lt m = subst (λ (k : ℕ). number (remainder m) < 2 ^ k) (length_remainder m) (number_lt (remainder m))

last_bit : (b : Bool) → number (b ∷ []) ≡ one b
last_bit true = refl
last_bit false = refl

-- the check bits are the remainder and the parity
parts : (m : List Bool) → number (plain m) ≡ number (remainder m) * 2 + one (odd (m ++ remainder m))
unfolding plain
parts m =
    number_append (remainder m) (odd (m ++ remainder m) ∷ [])
    ∙ ap (λ (x : ℕ). number (remainder m) * 2 + x) (last_bit (odd (m ++ remainder m)))

lone : (b : Bool) → one b ≡ number (replicate 7 false ++ (b ∷ []))
lone true = refl
lone false = refl

-- the remainder in the place of the check bits, the parity cut off
rest_byte : (m : List Bool) → bits 8 (number (remainder m) * 2) ≡ remainder m ++ (false ∷ [])
rest_byte m =
    ap (bits 8) (sym (number_append (remainder m) (false ∷ []) ∙ native.Mathlib.Nat.add-zero (number (remainder m) * 2)))
    ∙ byte_number (remainder m ++ (false ∷ [])) (length-append (remainder m) (false ∷ []) ∙ ap (λ (k : ℕ). k + 1) (length_remainder m))

-- one byte more, by the check bits so far
pub plain_next : (bytes : List ℕ) (byte p r : ℕ) → byte < 256 → p ≡ number (plain (bits_of bytes)) → r ≡ number (plain (bits 64 (bit_xor (p - p % 2) byte)))
    → bit_xor r (p % 2) ≡ number (plain (bits_of (bytes ++ (byte ∷ []))))
plain_next bytes byte p r h e g =
    let m : List Bool = bits_of bytes in
    let b : List Bool = bits 8 byte in
    let o : Bool = odd (m ++ remainder m) in
    let split : p ≡ number (remainder m) * 2 + one o = e ∙ parts m in
    let bit : one o < 2 = one-lt o in
    let rest : p - p % 2 ≡ number (remainder m) * 2 = omega arith in
    let last : p % 2 ≡ one o = omega arith in
    let low : number (remainder m) < 128 = rest_lt m in
    let x : List Bool = add (remainder m ++ (false ∷ [])) b in
    let joined : bits 64 (bit_xor (p - p % 2) byte) ≡ replicate 56 false ++ x =
    bits_small 56 8 (bit_xor (p - p % 2) byte) (xor_lt 8 (p - p % 2) byte (omega arith) h)
    ∙ ap (λ (l : List Bool). replicate 56 false ++ l) (bits_xor 8 (p - p % 2) byte ∙ ap (λ (l : List Bool). add l b) (ap (bits 8) rest ∙ rest_byte m)) in
    ap₂ bit_xor (g ∙ ap number (ap plain joined ∙ plain_zeros 56 x)) (last ∙ lone o)
    ∙ number_add (plain x) (replicate 7 false ++ (o ∷ [])) (length_plain x) refl
    ∙ ap number (sym (plain_more m b 1 (length_bits 8 byte)))
    ∙ ap (λ (l : List Bool). number (plain l)) (sym (bits_of_snoc bytes byte))

-- bytes more, by the check bits so far: what is left of them joins the first
pub plain_bytes : (before : List ℕ) (p byte r : ℕ) (bytes : List ℕ) → p ≡ number (plain (bits_of before)) → r ≡ number (plain (bits_of (bit_xor (p - p % 2) byte ∷ bytes)))
    → bit_xor r (p % 2) ≡ number (plain (bits_of (before ++ (byte ∷ bytes))))
plain_bytes before p byte r bytes e g =
    let m : List Bool = bits_of before in
    let b : List Bool = bits_of bytes in
    let k : ℕ = length b in
    let o : Bool = odd (m ++ remainder m) in
    let split : p ≡ number (remainder m) * 2 + one o = e ∙ parts m in
    let bit : one o < 2 = one-lt o in
    let rest : p - p % 2 ≡ number (remainder m) * 2 = omega arith in
    let last : p % 2 ≡ one o = omega arith in
    let eight : length (bits 8 byte) ≡ 8 = length_bits 8 byte in
    let x : List Bool = add (remainder m ++ replicate (suc k) false) (bits 8 byte ++ b) in
    let joined : bits_of (bit_xor (p - p % 2) byte ∷ bytes) ≡ x =
    ap (λ (l : List Bool). l ++ b) (bits_xor 8 (p - p % 2) byte)
    ∙ ap (λ (l : List Bool). add (bits 8 (p - p % 2)) (bits 8 byte) ++ l) (sym (zeros_add k b refl))
    ∙ sym (add_append (replicate k false) b (same (bits 8 (p - p % 2)) (bits 8 byte) (length_bits 8 (p - p % 2) ∙ sym eight)))
    ∙ ap (λ (l : List Bool). add (l ++ replicate k false) (bits 8 byte ++ b)) (ap (bits 8) rest ∙ rest_byte m)
    ∙ ap (λ (l : List Bool). add l (bits 8 byte ++ b)) (append_assoc (remainder m) (false ∷ []) (replicate k false)) in
    ap₂ bit_xor (g ∙ ap (λ (l : List Bool). number (plain l)) joined) (last ∙ lone o)
    ∙ number_add (plain x) (replicate 7 false ++ (o ∷ [])) (length_plain x) refl
    ∙ ap number (sym (plain_more m (bits 8 byte ++ b) (suc k) (omega (arith, length-append (bits 8 byte) b))))
    ∙ ap (λ (l : List Bool). number (plain l)) (sym (bits_of_append before (byte ∷ bytes)))

-- a bit more changes the last bit alone
pub last_bit_xor : (r b : ℕ) → b < 2 → bit_xor r b ≡ r / 2 * 2 + bit_xor (r % 2) b
last_bit_xor r b h =
    ap₂ bit_xor (let s : r ≡ r / 2 * 2 ^ 1 + r % 2 = omega arith in s) (let s : b ≡ 0 * 2 ^ 1 + b = omega arith in s)
    ∙ xor_block 1 (r / 2) 0 (r % 2) b (omega arith) h
    ∙ ap (λ (x : ℕ). x * 2 + bit_xor (r % 2) b) (xor_zero_r (r / 2))

one_byte : (byte : ℕ) → byte < 256 → byte ≡ number (bits_of (byte ∷ []))
one_byte byte h = sym (ap number (append-nil (bits 8 byte)) ∙ number_byte byte h)

-- two bytes at once: as one after the other
pub plain_two : (bytes : List ℕ) (x y rest parity r : ℕ) → x < 256 → y < 256 → rest % 2 ≡ 0 → parity < 2 → rest + parity ≡ number (plain (bits_of bytes))
    → r ≡ number (plain (bits 64 (bit_xor rest x * 256 + y))) → bit_xor r parity ≡ number (plain (bits_of (bytes ++ (x ∷ y ∷ []))))
plain_two bytes x y rest parity r hx hy even hp e g =
    let small : rest + parity < 256 = rw e (number_byte_lt (plain (bits_of bytes)) (length_plain (bits_of bytes))) in
    let j : ℕ = bit_xor rest x in
    let hj : j < 256 = xor_lt 8 rest x (omega arith) hx in
    let r₁ : ℕ = number (plain (bits 64 j)) in
    let r₂ : ℕ = number (plain (bits 64 (bit_xor (r₁ - r₁ % 2) y))) in
    let b : bit_xor (r₁ % 2) parity < 2 = xor_lt 1 (r₁ % 2) parity (omega arith) hp in
    let p₁ : bit_xor r₁ parity ≡ r₁ / 2 * 2 + bit_xor (r₁ % 2) parity = last_bit_xor r₁ parity hp in
    let rest-is : (rest + parity) - (rest + parity) % 2 ≡ rest = omega arith in
    let parity-is : (rest + parity) % 2 ≡ parity = omega arith in
    let first : bit_xor r₁ parity ≡ number (plain (bits_of (bytes ++ (x ∷ [])))) =
    ap (bit_xor r₁) (sym parity-is)
    ∙ plain_next bytes x (rest + parity) r₁ hx e (ap (λ (n : ℕ). number (plain (bits 64 (bit_xor n x)))) (sym rest-is)) in
    let second : bit_xor r₂ (bit_xor (r₁ % 2) parity) ≡ number (plain (bits_of ((bytes ++ (x ∷ [])) ++ (y ∷ [])))) =
    ap (bit_xor r₂) (let s : bit_xor (r₁ % 2) parity ≡ bit_xor r₁ parity % 2 = omega (arith, p₁, b) in s)
    ∙ plain_next (bytes ++ (x ∷ [])) y (bit_xor r₁ parity) r₂ hy first
    (ap (λ (n : ℕ). number (plain (bits 64 (bit_xor n y)))) (let s : r₁ - r₁ % 2 ≡ bit_xor r₁ parity - bit_xor r₁ parity % 2 = omega (arith, p₁, b) in s)) in
    let both : r ≡ bit_xor r₂ (r₁ % 2) =
    plain_first (j ∷ y ∷ []) (j * 256 + y) r (omega arith) (number_pair (j ∷ y ∷ []) j y (omega arith) (refl, hj) (refl, hy)) g
    ∙ sym (plain_next (j ∷ []) y r₁ r₂ hy (plain_first (j ∷ []) j r₁ (omega arith) (one_byte j hj) refl) refl) in
    ap (λ (n : ℕ). bit_xor n parity) both
    ∙ xor_assoc r₂ (r₁ % 2) parity
    ∙ second
    ∙ ap (λ (l : List ℕ). number (plain (bits_of l))) (append_assoc bytes (x ∷ []) (y ∷ []))

-- ---- the check sequence

number_not : (l : List Bool) → number (map not l) + number l + 1 ≡ 2 ^ length l
number_not [] = refl
number_not (b ∷ l) =
    let ih : number (map not l) + number l + 1 ≡ 2 ^ length l = number_not l in
    let p : 2 ^ suc (length l) ≡ 2 * 2 ^ length l = pow-succ' 2 (length l) in
    let k : length (map not l) ≡ length l = lib.ListN.length-map l not in
    first b ih p k
  where
    first : (b : Bool) → number (map not l) + number l + 1 ≡ 2 ^ length l → 2 ^ suc (length l) ≡ 2 * 2 ^ length l → length (map not l) ≡ length l
        → number (map not (b ∷ l)) + number (b ∷ l) + 1 ≡ 2 ^ suc (length l)
    first true ih p k = omega arith
    first false ih p k = let q : 2 ^ length (map not l) ≡ 2 ^ length l = ap (λ (x : ℕ). 2 ^ x) k in omega arith

-- "all eight inverted"
pub check_inverted : (bytes : List ℕ) (p : ℕ) → p ≡ number (plain (bits_of bytes)) → 255 - p ≡ check_of bytes
unfolding check_of check_bits
check_inverted bytes p e =
    let n : number (map not (plain (bits_of bytes))) + number (plain (bits_of bytes)) + 1 ≡ 2 ^ length (plain (bits_of bytes)) = number_not (plain (bits_of bytes)) in
    let k : 2 ^ length (plain (bits_of bytes)) ≡ 256 = ap (λ (x : ℕ). 2 ^ x) (length_plain (bits_of bytes)) in
    omega arith
