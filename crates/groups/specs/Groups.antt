-- Groups {M, C} of devices, their request words and what follows them (document 01, "The event round"; 001, 8.3.1 and 8.3.4).
-- Assumes nothing.
use Rattle.std.specs.Prelude.{ℕ, zero, suc, ◌+◌, ◌-◌, ◌*◌, ◌%◌, ◌^◌, Bool, cond, ◌&&◌, ltb, leb, eqb}
use Rattle.frames.specs.Words.{word_of}

-- {M, C} is a group: M is at most 12, and C below 2^(12-M)
abbrev pub is_group : ℕ → ℕ → Bool
is_group m c = leb m 12 && ltb c (2 ^ (12 - m))

-- "the devices whose low 12 - M address bits are C"
abbrev pub in_group : ℕ → ℕ → ℕ → Bool
in_group m c a = eqb (a % 2 ^ (12 - m)) c

-- "for M 1 to 11, F_code 13 over the group address as 8.3.1 encodes it": M - 1 ones, a zero and the 12 - M bits of C;
-- "for M = 0, F_code 14 over the device address"
unfoldable pub group_word : ℕ → ℕ → ℕ
group_word zero c = word_of 14 c
group_word (suc m) c = word_of 13 ((2 ^ m - 1) * 2 ^ (12 - m) + c)

-- "The request for M = 12 is F_code 9 over twelve parameter bits given at the start"
abbrev pub request_word : ℕ → ℕ → ℕ → ℕ
request_word params m c = cond (eqb m 12) (word_of 9 params) (group_word m c)

-- where a round stands: at a group, or it is over
pub data Place : Type 0 where
  over : Place
  at : ℕ → ℕ → Place

-- what follows a group with d common bits: after a lower half {M, C}, which has a zero for its highest common bit, the upper half
-- {M, C + 2^(11-M)}; after an upper half, what follows the group of both
unfoldable pub after : ℕ → ℕ → Place
after zero c = over
after (suc d) c = cond (ltb c (2 ^ d)) (at (11 - d) (c + 2 ^ d)) (after d (c - 2 ^ d))

-- "go on": what follows {M, C}, which has 12 - M common bits
abbrev pub follows : ℕ → ℕ → Place
follows m c = after (12 - m) c
