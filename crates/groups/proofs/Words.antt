-- The request words: their F_codes, and that each names its group.
-- Assumes nothing.
use mathlib.Core.Path.{◌≡◌, refl, ap, ◌∙◌, subst}
use mathlib.Core.Bool.{Bool, true, false, cond}
use Prim.Native.Nat.{ℕ, zero, suc, ◌+◌, ◌-◌, ◌*◌, ◌^◌, ◌≤◌, ◌<◌}
use native.Mathlib.Omega.{arith}
use native.Mathlib.Nat.{zero-add, suc-add}
use lib.Dec.{eqb, ltb}
use lib.Pow.{pow-add, pow_pos, pow_mono, high_ones}
use borrow.Author.Tests.{lt-ltb, le-ltb, ne_eqb, eqb-true, eqb-false}
use Rattle.frames.specs.Words.{f_code_of, address, word_of}
use Rattle.groups.specs.Groups.{group_word, request_word, Place, over, at}
use Rattle.groups.proofs.Powers.{at_most}
use Rattle.groups.proofs.Follow.{Group}

-- m ones over 12 - m places
ones : (m : ℕ) → m ≤ 12 → 4096 - 2 ^ (12 - m) ≡ (2 ^ m - 1) * 2 ^ (12 - m)
ones m h =
    let e : m + (12 - m) ≡ 12 = omega arith in
    subst (λ (n : ℕ). 2 ^ n - 2 ^ (12 - m) ≡ (2 ^ m - 1) * 2 ^ (12 - m)) e (high_ones m (12 - m))

-- F_code 13 over M - 1 ones, a zero and C, as one sum
pub group_pos : (m c : ℕ) → ((m ≡ 0) → ⊥) → m ≤ 11 → group_word m c ≡ 57344 - 2 ^ (13 - m) + c
unfolding group_word
group_pos zero c f h = absurd (f refl)
group_pos (suc m) c f h =
    let e₂ : 13 - suc m ≡ 12 - m = omega arith in
    let p = ones m (omega arith) in
    let l : 2 ^ (12 - m) ≤ 4096 = at_most (12 - m) (omega arith) in
    rw (e₂, ← p) (omega arith)

pub group_zero : (c : ℕ) → group_word 0 c ≡ 57344 + c
unfolding group_word
group_zero c = refl

-- the two bounds that keep the sum below the next F_code
room : (m c : ℕ) → ((m ≡ 0) → ⊥) → m ≤ 11 → c < 2 ^ (12 - m) → (c < 2 ^ (13 - m)) × (2 ^ (13 - m) ≤ 4096)
room m c f h l =
    let k : 2 ^ (12 - m) ≤ 2 ^ (13 - m) = pow_mono (omega arith) in
    (omega arith, at_most (13 - m) (omega arith))

pub group_code : (m c : ℕ) → ((m ≡ 0) → ⊥) → m ≤ 11 → c < 2 ^ (12 - m) → f_code_of (group_word m c) ≡ 13
group_code m c f h l = let r = room m c f h l in rw (group_pos m c f h) (omega arith)

pub single_code : (c : ℕ) → c < 4096 → f_code_of (group_word 0 c) ≡ 14
single_code c h = rw (group_zero c) (omega arith)

pub single_address : (c : ℕ) → c < 4096 → address (group_word 0 c) ≡ c
single_address c h = rw (group_zero c) (omega arith)

pub general_code : (p : ℕ) → p ≤ 4095 → f_code_of (word_of 9 p) ≡ 9
general_code p h = omega arith

pub request_part : (p m c : ℕ) → m ≤ 11 → request_word p m c ≡ group_word m c
request_part p m c h = let f : m ≡ 12 → ⊥ = λ (e : m ≡ 12). omega arith in simp (ne_eqb m 12 f)

-- ---- the group that a request word names
-- of a group address of k bits: the ones in front are taken off, one by one
unmask : ℕ → ℕ → Place
unmask zero x = over
unmask (suc k) x = cond (ltb x (2 ^ k)) (at (12 - k) x) (unmask k (x - 2 ^ k))

one_more : (a q : ℕ) → (a + 1) * q ≡ a * q + q
one_more a q = omega arith

twice_more : (a q : ℕ) → (a + a + 1) * q ≡ a * q + a * q + q
twice_more a q = omega arith

module _ (a p r q x c : ℕ) (e₁ : p ≡ a + 1) (e₂ : r ≡ a + a + 1) (e₃ : x ≡ p * q) where
  off : (x ≤ r * q + c) × (r * q + c - x ≡ a * q + c)
  off =
      let k : r * q ≡ a * q + a * q + q = ap (λ (n : ℕ). n * q) e₂ ∙ twice_more a q in
      let j : x ≡ a * q + q = e₃ ∙ ap (λ (n : ℕ). n * q) e₁ ∙ one_more a q in
      (omega arith, omega arith)

strip : (m j c : ℕ) → c < 2 ^ j → unmask (m + suc j) ((2 ^ m - 1) * 2 ^ suc j + c) ≡ at (12 - j) c
unfolding unmask
strip zero j c h =
    let e : 0 * 2 ^ suc j + c ≡ c = omega arith in
    rw (zero-add (suc j), e) (simp (lt-ltb _ _ h))
strip (suc m) j c h =
    let e₁ : 2 ^ m ≡ 2 ^ m - 1 + 1 = omega (arith, pow_pos m) in
    let e₂ : 2 ^ suc m - 1 ≡ 2 ^ m - 1 + (2 ^ m - 1) + 1 = omega (arith, pow_pos m) in
    let o = off (2 ^ m - 1) (2 ^ m) (2 ^ suc m - 1) (2 ^ suc j) (2 ^ (m + suc j)) c e₁ e₂ (pow-add 2 m (suc j)) in
    rw (suc-add m (suc j)) (simp (le-ltb _ _ o.0) (rw o.1 (strip m j c h)))

pub group_of : ℕ → Place
group_of w = cond (eqb (f_code_of w) 9) (at 12 0) (cond (eqb (f_code_of w) 14) (at 0 (address w)) (unmask 12 (address w)))

named_single : (c : ℕ) → c < 4096 → group_of (group_word 0 c) ≡ at 0 c
unfolding group_of
named_single c h = rw (single_code c h, single_address c h) refl

named_more : (m c : ℕ) → suc m ≤ 11 → c < 2 ^ (12 - suc m) → group_of (group_word (suc m) c) ≡ at (suc m) c
unfolding group_of
named_more m c l b =
    let f : suc m ≡ 0 → ⊥ = λ (z : suc m ≡ 0). omega arith in
    let r = room (suc m) c f l b in
    let s₁ : suc (11 - m) ≡ 12 - m = omega arith in
    let s₂ : m + (12 - m) ≡ 12 = omega arith in
    let s₃ : 12 - (11 - m) ≡ suc m = omega arith in
    let s₄ : 12 - suc m ≡ 11 - m = omega arith in
    let s₅ : 13 - suc m ≡ 12 - m = omega arith in
    let q = ones m (omega arith) in
    let e : address (group_word (suc m) c) ≡ (2 ^ m - 1) * 2 ^ (12 - m) + c = rw (group_pos (suc m) c f l, s₅, ← q) (omega (arith, r, ap (λ (n : ℕ). 2 ^ n) s₅)) in
    let k = rw (s₁, s₂, s₃) at (strip m (11 - m) c (rw s₄ at b)) in
    rw (group_code (suc m) c f l b, e) k

named_part : (m c : ℕ) → m ≤ 11 → c < 2 ^ (12 - m) → group_of (group_word m c) ≡ at m c
named_part zero c l b = named_single c b
named_part (suc m) c l b = named_more m c l b

named_whole : (p : ℕ) → p ≤ 4095 → group_of (word_of 9 p) ≡ at 12 0
unfolding group_of
named_whole p h = rw (general_code p h) refl

pub named_by : (p m c : ℕ) → p ≤ 4095 → Group m c → group_of (request_word p m c) ≡ at m c
named_by p m c h t = go (eqb m 12) refl
  where
    go : (b : Bool) → eqb m 12 ≡ b → group_of (cond b (word_of 9 p) (group_word m c)) ≡ at m c
    go true e =
        let z : m ≡ 12 = eqb-true _ _ e in
        let b : c < 2 ^ (12 - 12) = rw z at t.1 in
        let y : c ≡ 0 = omega arith in
        rw (z, y) (named_whole p h)
    go false e = let b = t.0 in let f : (m ≡ 12) → ⊥ = eqb-false m 12 e in named_part m c (omega arith) t.1
