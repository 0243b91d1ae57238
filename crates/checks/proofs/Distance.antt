-- Two different blocks of one length, of at most 64 bits, differ with their check sequences in at least four bits.
-- Assumes nothing.
use mathlib.Core.Path.{◌≡◌, refl, sym, ap, ap₂, ◌∙◌, subst}
use mathlib.Core.Bool.{Bool, true, false, not}
use mathlib.Core.List.{List, [], ◌∷◌, ◌++◌, map, append_assoc, append-nil}
use mathlib.Core.Logic.{◌⊎◌, inl, inr, ⊎_elim}
use Prim.Native.Nat.{ℕ, zero, suc, ◌+◌, ◌≤◌}
use native.Mathlib.Nat.{suc_inj}
use native.Mathlib.Omega.{arith}
use native.Mathlib.Decide.{dec_le}
use lib.Dec.{T}
use lib.ListN.{length, replicate, length-append, length-map}
use Rattle.checks.specs.Bits.{bits, bits_of, one}
use Rattle.checks.specs.Check.{plus, add, divided, remainder, odd, plain, check_bits, check_of}
use Rattle.checks.specs.Distance.{differing}
use Rattle.checks.proofs.Tests.{both, both_left, both_right, upto, at_upto}
use Rattle.checks.proofs.Polynomials.{Same, nils, conss, same, same_length, same_append, add_append, add_self, length_add, divided_add, mix, length_remainder}
use Rattle.checks.proofs.Numbers.{byte_number}
use Rattle.checks.proofs.Parity.{odd_add, length_plain}

-- ---- the check bits are linear

pub remainder_add : {m n : List Bool} → Same m n → add (remainder m) (remainder n) ≡ remainder (add m n)
unfolding remainder
remainder_add {m} {n} s =
    ap (λ (k : ℕ). add (divided (length m) (m ++ replicate 7 false)) (divided k (n ++ replicate 7 false))) (sym (same_length s))
    ∙ sym (divided_add (length m) (same_append s (same (replicate 7 false) (replicate 7 false) refl)))
    ∙ ap₂ divided (same_length s ∙ sym (length_add m n)) (add_append (replicate 7 false) (replicate 7 false) s)

pub plain_add : {m n : List Bool} → Same m n → add (plain m) (plain n) ≡ plain (add m n)
unfolding plain
plain_add {m} {n} s =
    let rs : Same (remainder m) (remainder n) = same (remainder m) (remainder n) (length_remainder m ∙ sym (length_remainder n)) in
    add_append (odd (m ++ remainder m) ∷ []) (odd (n ++ remainder n) ∷ []) rs
    ∙ ap₂ (λ (l : List Bool) (x : Bool). l ++ (x ∷ [])) (remainder_add s)
    (sym (odd_add (same_append s rs)) ∙ ap odd (add_append (remainder m) (remainder n) s ∙ ap (λ (l : List Bool). add m n ++ l) (remainder_add s)))

not_plus : (a b : Bool) → plus (not a) (not b) ≡ plus a b
not_plus true true = refl
not_plus true false = refl
not_plus false true = refl
not_plus false false = refl

add_not : {p q : List Bool} → Same p q → add (map not p) (map not q) ≡ add p q
add_not nils = refl
add_not (conss {a} {b} s) = ap₂ ◌∷◌ (not_plus a b) (add_not s)

-- ---- weights

abbrev pub ones : List Bool → ℕ
ones [] = 0
ones (b ∷ l) = one b + ones l

differing_ones : {p q : List Bool} → Same p q → differing p q ≡ ones (add p q)
differing_ones nils = refl
differing_ones (conss {a} {b} s) = ap (λ (k : ℕ). one (plus a b) + k) (differing_ones s)

ones_append : (p q : List Bool) → ones (p ++ q) ≡ ones p + ones q
ones_append [] q = omega arith
ones_append (b ∷ p) q = let ih : ones (p ++ q) ≡ ones p + ones q = ones_append p q in omega arith

-- with the parity bit the number of ones is even
even_step : (b o : Bool) (n : ℕ) → (k : ℕ) × (n + one o ≡ k + k) → (k : ℕ) × (one b + n + one (plus b o) ≡ k + k)
even_step true true n r = (r.0, omega (arith, r.1))
even_step true false n r = (r.0 + 1, omega (arith, r.1))
even_step false o n r = (r.0, omega (arith, r.1))

even : (l : List Bool) → (k : ℕ) × (ones l + one (odd l) ≡ k + k)
even [] = (0, refl)
even (b ∷ l) = even_step b (odd l) (ones l) (even l)

none : (l : List Bool) → ones l ≡ 0 → l ≡ replicate (length l) false
none [] e = refl
none (true ∷ l) e = absurd (omega arith)
none (false ∷ l) e = ap (λ (t : List Bool). false ∷ t) (none l (omega arith))

ones_zeros : (k : ℕ) → ones (replicate k false) ≡ 0
ones_zeros zero = refl
ones_zeros (suc k) = let ih : ones (replicate k false) ≡ 0 = ones_zeros k in omega arith

-- ---- the computed test: a one, and at most one more, never divides without a remainder

-- the test f at each run of k bits with at most a single one
abbrev units : ℕ → (List Bool → Bool) → Bool
units zero f = f []
units (suc k) f = both (f (true ∷ replicate k false)) (units k (λ l. f (false ∷ l)))

at_unit : (f : List Bool → Bool) (w : List Bool) → ones w ≤ 1 → T (units (length w) f) → T (f w)
at_unit f [] h t = t
at_unit f (true ∷ w) h t = subst (λ (l : List Bool). T (f (true ∷ l))) (sym (none w (omega arith))) (both_left (f (true ∷ replicate (length w) false)) (units (length w) (λ l. f (false ∷ l))) t)
at_unit f (false ∷ w) h t = at_unit (λ l. f (false ∷ l)) w (omega arith) (both_right (f (true ∷ replicate (length w) false)) (units (length w) (λ l. f (false ∷ l))) t)

abbrev some : List Bool → Bool
some [] = false
some (true ∷ l) = true
some (false ∷ l) = some l

stays : ℕ → Bool
stays n = units (n + 7) (λ w. some (divided (suc n) (true ∷ w)))

all_stay : T (upto 64 stays)
unfolding stays
all_stay = tt

not_some : (k : ℕ) → T (some (replicate k false)) → ⊥
not_some zero t = t
not_some (suc k) t = not_some k t

-- a run that divides without a remainder has no one, or at least three
pub heavy : (n : ℕ) (w : List Bool) → length w ≡ n + 7 → n ≤ 64 → divided n w ≡ replicate 7 false → (ones w ≡ 0) ⊎ (3 ≤ ones w)
unfolding stays
heavy zero w e h z = inl (ap ones z)
heavy (suc n) [] e h z = absurd (omega arith)
heavy (suc n) (false ∷ w) e h z =
    ⊎_elim (λ (o : ones w ≡ 0). inl (omega arith)) (λ (o : 3 ≤ ones w). inr (omega arith)) (heavy n w (omega arith) (omega arith) z)
heavy (suc n) (true ∷ w) e h z = inr (go (dec_le 2 (ones w)))
  where
    go : Dec (2 ≤ ones w) → 3 ≤ 1 + ones w
    go (yes g) = omega arith
    go (no g) =
        absurd
        (not_some 7
        (subst (λ (l : List Bool). T (some l)) z
        (at_unit (λ l. some (divided (suc n) (true ∷ l))) w (omega arith)
        (subst (λ (k : ℕ). T (units k (λ l. some (divided (suc n) (true ∷ l))))) (sym (suc_inj (e ∙ native.Mathlib.Nat.suc-add n 7)))
        (at_upto 64 stays all_stay n h)))))

-- a difference of two blocks, with its check bits
pub weight : (e : List Bool) → length e ≤ 64 → (ones e ≡ 0 → ⊥) → 4 ≤ ones (e ++ plain e)
unfolding plain
weight e h ne =
    let w = e ++ remainder e in
    let lw : length w ≡ length e + 7 = length-append e (remainder e) ∙ ap (λ (k : ℕ). length e + k) (length_remainder e) in
    let z : divided (length e) w ≡ replicate 7 false =
    mix e (remainder e) 0 (length_remainder e)
    ∙ ap (λ (l : List Bool). add l (remainder e)) (append-nil (remainder e))
    ∙ add_self (remainder e)
    ∙ ap (λ (k : ℕ). replicate k false) (length_remainder e) in
    let a : ones (e ++ (remainder e ++ (odd w ∷ []))) ≡ ones w + (one (odd w) + 0) =
    ap ones (sym (append_assoc e (remainder e) (odd w ∷ []))) ∙ ones_append w (odd w ∷ []) in
    let b : ones w ≡ ones e + ones (remainder e) = ones_append e (remainder e) in
    let k : (k : ℕ) × (ones w + one (odd w) ≡ k + k) = even w in
    ⊎_elim (λ (o : ones w ≡ 0). absurd (ne (omega arith))) (λ (o : 3 ≤ ones w). omega arith) (heavy (length e) w lw h z)

no_plus : (a b : Bool) (k : ℕ) → one (plus a b) + k ≡ 0 → a ≡ b
no_plus true true k e = refl
no_plus true false k e = absurd (omega arith)
no_plus false true k e = absurd (omega arith)
no_plus false false k e = refl

no_ones : {m n : List Bool} → Same m n → ones (add m n) ≡ 0 → m ≡ n
no_ones nils e = refl
no_ones (conss {a} {b} {p} {q} s) e = ap₂ ◌∷◌ (no_plus a b (ones (add p q)) e) (no_ones s (omega arith))

pub apart : (m n : List Bool) → length m ≡ length n → length m ≤ 64 → (m ≡ n → ⊥)
    → 4 ≤ differing (m ++ check_bits m) (n ++ check_bits n)
unfolding check_bits
apart m n e h ne =
    let s : Same m n = same m n e in
    let ps : Same (plain m) (plain n) = same (plain m) (plain n) (length_plain m ∙ sym (length_plain n)) in
    let cs : Same (map not (plain m)) (map not (plain n)) =
    same (map not (plain m)) (map not (plain n)) (length-map (plain m) not ∙ length_plain m ∙ sym (length-map (plain n) not ∙ length_plain n)) in
    let d : differing (m ++ map not (plain m)) (n ++ map not (plain n)) ≡ ones (add m n ++ plain (add m n)) =
    differing_ones (same_append s cs)
    ∙ ap ones (add_append (map not (plain m)) (map not (plain n)) s ∙ ap (λ (l : List Bool). add m n ++ l) (add_not ps ∙ plain_add s)) in
    let l : length (add m n) ≡ length n = length_add m n in
    let g : 4 ≤ ones (add m n ++ plain (add m n)) = weight (add m n) (omega arith) (λ z. ne (no_ones s z)) in
    subst (λ (k : ℕ). 4 ≤ k) (sym d) g

-- the bits of a block's check sequence
pub check_bits_lem : (block : List ℕ) → bits 8 (check_of block) ≡ check_bits (bits_of block)
unfolding check_of check_bits
check_bits_lem block = byte_number (map not (plain (bits_of block))) (length-map (plain (bits_of block)) not ∙ length_plain (bits_of block))
