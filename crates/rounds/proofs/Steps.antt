-- What follows a group, as a round finds it by the highest zero of C; and its request word, as one sum.
-- Assumes nothing.
use mathlib.Core.Path.{◌≡◌, refl, sym, ◌∙◌, subst}
use mathlib.Core.Bool.{true}
use Prim.Native.Nat.{ℕ, zero, suc, ◌+◌, ◌-◌, ◌*◌, ◌/◌, ◌%◌, ◌^◌, ◌≤◌, ◌<◌}
use native.Mathlib.Omega.{arith}
use native.Mathlib.Nat.{one-mul, mod-lt}
use lib.Dec.{lit<}
use lib.Pow.{pow_pos, shl_exact}
use lib.Count.{count_leading_zeros, leading_top}
use Rattle.groups.specs.Groups.{is_group, group_word, over, at, follows}
use Rattle.groups.proofs.Follow.{Group, is_group_lem, group_is, c_small, in_lower, ones_last, highest_zero}
use Rattle.groups.proofs.Powers.{at_most, doubled, cut}
use Rattle.groups.proofs.Words.{group_zero, group_pos}

-- ---- what follows
-- 2^place, as a word shifted left has it
abbrev half_at : ℕ → ℕ
half_at place = (1 * 2 ^ place) % 65536

-- c has its highest zero at this place; what would be asked is a group whatever stands below that place
record Zero (m c place : ℕ) : Type 0 where
  low : place ≤ 11
  next : follows m c ≡ at (11 - place) (c % half_at place + half_at place)
  group : (n : ℕ) → Group (11 - place) (n % half_at place + half_at place)

zero_at : (m c j : ℕ) → Group m c → 2 ^ j ≤ 2 ^ (12 - m) - 1 - c → 2 ^ (12 - m) - 1 - c < 2 ^ suc j → Zero m c j
zero_at m c j g l h =
    let z = highest_zero m c j g l h in
    let e : 2 ^ j ≡ half_at j = sym (shl_exact 1 j 16 (lit< tt) (omega (arith, z.0)) ∙ one-mul (2 ^ j)) in
    let d : 12 - (11 - j) ≡ suc j = omega (arith, z.0) in
    record {
      low = z.0;
      next = rw (← e) z.1;
      group = λ n. (omega arith, rw (← e, d) (omega (arith, mod-lt n (pow_pos j), doubled j)));
    }

module _ (m c bound : ℕ) (g : is_group m c ≡ true) (b : bound ≡ 2 ^ (12 - m)) where
  -- the place of the highest zero of c, where above has a one for each of them
  abbrev above : ℕ
  above = bound - 1 - c

  abbrev place : ℕ
  place = 15 - count_leading_zeros 16 above

  pub all_ones : above ≡ 0 → follows m c ≡ over
  all_ones e = ones_last m c (group_is m c g) (rw b at e)

  module _ (f : (above ≡ 0) → ⊥) where
    found : Zero m c place
    found =
        let t = leading_top 16 above (omega arith) (omega (arith, at_most (12 - m) (omega arith))) in
        by (count_leading_zeros 16 above) t.0 t.1 t.2 t.3
      where
        by : (z j : ℕ) → z + suc j ≡ 16 → 2 ^ j ≤ above → above < 2 ^ suc j → Zero m c (15 - z)
        by z j s l h =
            let e : j ≡ 15 - z = omega arith in
            subst (λ (i : ℕ). Zero m c i) e (zero_at m c j (group_is m c g) (omega arith) (omega arith))

    pub place_low : place ≤ 11
    place_low = found.low

    pub upper_follows : follows m c ≡ at (11 - place) (c % half_at place + half_at place)
    upper_follows = found.next

    pub upper_is_group : (n : ℕ) → is_group (11 - place) (n % half_at place + half_at place) ≡ true
    upper_is_group n = is_group_lem _ _ (found.group n)

-- ---- a group that is split
pub lower_is_group : (m c : ℕ) → is_group m c ≡ true → ((m ≡ 0) → ⊥) → is_group (m - 1) c ≡ true
lower_is_group zero c g f = absurd (f refl)
lower_is_group (suc m) c g f = let z : suc m - 1 ≡ m = omega arith in rw z (is_group_lem m c (in_lower m c (group_is (suc m) c g)))

pub m_low : (m c : ℕ) → is_group m c ≡ true → m ≤ 12
m_low m c g = (group_is m c g).0

-- ---- the request word: m - 1 ones, a zero and c make 2^12 - 2^(13-m) + c; for m = 0 nothing is taken away
pub c_low : (m c : ℕ) → is_group m c ≡ true → c < 4096
c_low m c g = c_small m c (group_is m c g).1

pub word_sum : (m c : ℕ) → m ≤ 11 → 57344 - 8192 / 2 ^ m % 8192 + c ≡ group_word m c
word_sum zero c h = sym (group_zero c)
word_sum (suc m) c h =
    let e : 8192 / 2 ^ suc m ≡ 2 ^ (13 - suc m) = cut 13 (suc m) (omega arith) in
    let l : 2 ^ (13 - suc m) ≤ 4096 = at_most (13 - suc m) (omega arith) in
    rw e (omega (arith, l, group_pos (suc m) c (λ (z : suc m ≡ 0). omega arith) h))
