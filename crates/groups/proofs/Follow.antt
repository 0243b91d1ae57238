-- The halves of a group, and what follows a group: from the lower half to the upper, from there to what follows both.
-- Assumes nothing.
use mathlib.Core.Path.{◌≡◌, refl, sym, ap, ◌∙◌, subst}
use mathlib.Core.Bool.{Bool, true, false, cond, ◌&&◌}
use Prim.Native.Nat.{ℕ, zero, suc, ◌+◌, ◌-◌, ◌*◌, ◌%◌, ◌^◌, ◌≤◌, ◌<◌}
use native.Mathlib.Omega.{arith}
use native.Mathlib.Nat.{lt_of_lt_of_le, lt_of_not-le, mod-eq_of_lt, add-mul-mod_self_right}
use lib.Dec.{ltb, leb}
use lib.Pow.{pow_pos, pow_mono, pow-add}
use borrow.Author.Tests.{lt-ltb, le-ltb, le-leb, leb-true, ltb-true, ltb-false}
use Rattle.groups.specs.Groups.{is_group, over, at, after, follows}
use Rattle.groups.proofs.Powers.{at_most, doubled}

-- {M, C} is a group
abbrev pub Group : ℕ → ℕ → Type 0
Group m c = (m ≤ 12) × (c < 2 ^ (12 - m))

pub is_group_lem : (m c : ℕ) → Group m c → is_group m c ≡ true
is_group_lem m c t = simp (le-leb _ _ t.0, lt-ltb _ _ t.1)

pub group_is : (m c : ℕ) → is_group m c ≡ true → Group m c
group_is m c e = go (leb m 12) refl e
  where
    go : (b : Bool) → leb m 12 ≡ b → (b && ltb c (2 ^ (12 - m))) ≡ true → Group m c
    go true h k = (leb-true _ _ h, ltb-true _ _ k)
    go false h k = absurd (let z : ◌≡◌ {A = ℕ} 0 1 = cc in omega arith)

pub c_small : (m c : ℕ) → c < 2 ^ (12 - m) → c < 4096
c_small m c h = lt_of_lt_of_le h (at_most (12 - m) (omega arith))

-- ---- the halves {M-1, C} and {M-1, C + 2^(12-M)}
pub depth : (m : ℕ) → suc m ≤ 12 → 12 - m ≡ suc (12 - suc m)
depth m h = omega arith

pub in_lower : (m c : ℕ) → Group (suc m) c → Group m c
in_lower m c t = let k = t.1 in (omega (arith, t.0), rw (depth m t.0) (omega (arith, doubled (12 - suc m))))

pub in_upper : (m c : ℕ) → Group (suc m) c → Group m (c + 2 ^ (12 - suc m))
in_upper m c t = let k = t.1 in (omega (arith, t.0), rw (depth m t.0) (omega (arith, doubled (12 - suc m))))

-- ---- what follows
-- d ones: nothing follows
after_ones : (d c : ℕ) → c + 1 ≡ 2 ^ d → after d c ≡ over
unfolding after
after_ones zero c e = refl
after_ones (suc d) c e =
    let l : 2 ^ d ≤ c = omega (arith, doubled d, pow_pos d) in
    simp (le-ltb _ _ l) (after_ones d (c - 2 ^ d) (omega (arith, doubled d)))

-- the bits below bit p do not change where a higher one is taken away
below_bit : (c p d : ℕ) → p ≤ d → 2 ^ d ≤ c → (c - 2 ^ d) % 2 ^ p ≡ c % 2 ^ p
below_bit c p d h l =
    let e : d - p + p ≡ d = omega arith in
    let q : 2 ^ d ≡ 2 ^ (d - p) * 2 ^ p = subst (λ (n : ℕ). 2 ^ n ≡ 2 ^ (d - p) * 2 ^ p) e (pow-add 2 (d - p) p) in
    let s : c - 2 ^ d + 2 ^ (d - p) * 2 ^ p ≡ c = omega arith in
    sym (add-mul-mod_self_right (c - 2 ^ d) (2 ^ (d - p)) (2 ^ p)) ∙ ap (λ (n : ℕ). n % 2 ^ p) s

one_place : (p d x : ℕ) → 2 ^ p ≤ x → x < 2 ^ suc p → 2 ^ d ≤ x → x < 2 ^ suc d → p ≡ d
one_place p d x a b e f =
    let u : p < suc d = lt_of_not-le (λ (l : suc d ≤ p). let z : 2 ^ suc d ≤ 2 ^ p = pow_mono l in omega arith) in
    let v : d < suc p = lt_of_not-le (λ (l : suc p ≤ d). let z : 2 ^ suc p ≤ 2 ^ d = pow_mono l in omega arith) in
    omega arith

-- what follows where bit p is the highest zero of the d common bits: there the group is in a lower half, and the upper one follows
abbrev FromZero : ℕ → ℕ → ℕ → Type 0
FromZero d c p = (p < d) × (after d c ≡ at (11 - p) (c % 2 ^ p + 2 ^ p))

from_zero : (d c p : ℕ) → c < 2 ^ d → 2 ^ p ≤ 2 ^ d - 1 - c → 2 ^ d - 1 - c < 2 ^ suc p → FromZero d c p
unfolding after
from_zero zero c p l a b = absurd (omega (arith, pow_pos p))
from_zero (suc d) c p l a b =
    go (λ k. from_zero d (c - 2 ^ d) p (omega (arith, doubled d)) (omega (arith, doubled d)) (omega (arith, doubled d))) (ltb c (2 ^ d)) refl
  where
    go : (2 ^ d ≤ c → FromZero d (c - 2 ^ d) p) → (t : Bool) → ltb c (2 ^ d) ≡ t →
        (p < suc d) × (cond t (at (11 - d) (c + 2 ^ d)) (after d (c - 2 ^ d)) ≡ at (11 - p) (c % 2 ^ p + 2 ^ p))
    go i true x =
        let k : c < 2 ^ d = ltb-true _ _ x in
        let e : p ≡ d = one_place p d (2 ^ suc d - 1 - c) a b (omega (arith, doubled d)) (omega (arith, pow_pos d)) in
        (omega arith, rw (e, mod-eq_of_lt k))
    go i false x =
        let k : 2 ^ d ≤ c = ltb-false _ _ x in
        let n = i k in
        let n₀ = n.0 in
        (omega arith, n.1 ∙ ap (λ (y : ℕ). at (11 - p) (y + 2 ^ p)) (below_bit c p d (omega arith) k))

pub ones_last : (m c : ℕ) → Group m c → 2 ^ (12 - m) - 1 - c ≡ 0 → follows m c ≡ over
ones_last m c t e = let l = t.1 in after_ones (12 - m) c (omega arith)

pub highest_zero : (m c p : ℕ) → Group m c → 2 ^ p ≤ 2 ^ (12 - m) - 1 - c → 2 ^ (12 - m) - 1 - c < 2 ^ suc p → (p ≤ 11) × (follows m c ≡ at (11 - p) (c % 2 ^ p + 2 ^ p))
highest_zero m c p t a b = let n = from_zero (12 - m) c p t.1 a b in let n₀ = n.0 in (omega arith, n.1)

pub lower : (m c : ℕ) → Group (suc m) c → follows m c ≡ at m (c + 2 ^ (12 - suc m))
unfolding after
lower m c t =
    let e : 11 - (12 - suc m) ≡ m = omega (arith, t.0) in
    rw (depth m t.0) (simp (lt-ltb _ _ t.1, e))

pub upper : (m c : ℕ) → Group (suc m) c → follows m (c + 2 ^ (12 - suc m)) ≡ follows (suc m) c
unfolding after
upper m c t =
    let k : 2 ^ (12 - suc m) ≤ c + 2 ^ (12 - suc m) = omega arith in
    let z : c + 2 ^ (12 - suc m) - 2 ^ (12 - suc m) ≡ c = omega arith in
    rw (depth m t.0) (simp (le-ltb _ _ k, z))

-- what follows {M, C} is a group below the whole, and it is no smaller than {M, C}; where it is as large, its C is larger
pub record Next (m c m₁ c₁ : ℕ) : Type 0 where
  pub group : c₁ < 2 ^ (12 - m₁)
  pub below : m₁ ≤ 11
  pub no_smaller : m ≤ m₁
  pub further : m₁ ≡ m → c < c₁

after_next : (d c m₁ c₁ : ℕ) → d ≤ 12 → c < 2 ^ d → after d c ≡ at m₁ c₁ → Next (12 - d) c m₁ c₁
unfolding after
after_next zero c m₁ c₁ h l e = absurd (let z : ◌≡◌ {A = ℕ} 0 1 = cc in omega arith)
after_next (suc d) c m₁ c₁ h l e = go (λ x y. after_next d (c - 2 ^ d) m₁ c₁ (omega arith) (omega (arith, doubled d)) y) (ltb c (2 ^ d)) refl e
  where
    go : (2 ^ d ≤ c → after d (c - 2 ^ d) ≡ at m₁ c₁ → Next (12 - d) (c - 2 ^ d) m₁ c₁) → (b : Bool) → ltb c (2 ^ d) ≡ b → cond b (at (11 - d) (c + 2 ^ d)) (after d (c - 2 ^ d)) ≡ at m₁ c₁ → Next (12 - suc d) c m₁ c₁
    go i true x y =
        let p : 11 - d ≡ m₁ = cc in
        let q : c + 2 ^ d ≡ c₁ = cc in
        let r : 12 - m₁ ≡ suc d = omega arith in
        let s : c < 2 ^ d = ltb-true _ _ x in
        record { group = rw r (omega (arith, doubled d)); below = omega arith; no_smaller = omega arith; further = λ z. omega arith }
    go i false x y =
        let s : 2 ^ d ≤ c = ltb-false _ _ x in
        let n = i s y in
        let k = n.no_smaller in
        record { group = n.group; below = n.below; no_smaller = omega arith; further = λ z. absurd (omega arith) }

pub next_group : (m c m₁ c₁ : ℕ) → Group m c → follows m c ≡ at m₁ c₁ → Next m c m₁ c₁
next_group m c m₁ c₁ t e =
    let z : 12 - (12 - m) ≡ m = omega arith in
    subst (λ (n : ℕ). Next n c m₁ c₁) z (after_next (12 - m) c m₁ c₁ (omega arith) t.1 e)

-- no group follows itself
pub never_itself : (m c : ℕ) → Group m c → follows m c ≡ at m c → ⊥
never_itself m c t e = let h = (next_group m c m c t e).further refl in omega arith
