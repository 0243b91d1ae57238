-- A number of the list file (document 01, "The list file").
-- Assumes nothing.
use Rattle.std.specs.Prelude.{ℕ, zero, suc, ◌+◌, ◌-◌, ◌*◌, List, [], ◌∷◌, Bool, true, false, drop, ltb}
use Rattle.refusals.specs.Told.{Told, gives, refusal}

-- what the groups at the front of some bytes say: cut off before a last byte; or the value, how many bytes, and the last byte
pub data Groups : Type 0 where
  cut : Groups
  whole : ℕ → ℕ → ℕ → Groups

-- a byte with its top bit set stands under the groups after it: "lowest group first"
abbrev pub under : ℕ → Groups → Groups
under b cut = cut
under b (whole v n z) = whole (b - 128 + 128 * v) (n + 1) z

-- "top bit set on every byte but its last"
abbrev pub by_top : Bool → ℕ → Groups → Groups
by_top true b g = whole b 1 b
by_top false b g = under b g

-- "in groups of seven bits, lowest group first, top bit set on every byte but its last"
abbrev pub groups : List ℕ → Groups
groups [] = cut
groups (b ∷ l) = by_top (ltb b 128) b (groups l)

-- a number and how many bytes it has; or none
pub data Taken : Type 0 where
  bad : Taken
  taken : ℕ → ℕ → Taken

-- none where the test holds
abbrev pub bad_if : Bool → Taken → Taken
bad_if true t = bad
bad_if false t = t

-- "shortest form only, at most 65,535": a last byte 0 stands alone
abbrev pub judged : Groups → Taken
judged cut = bad
judged (whole v n zero) = bad_if (ltb 1 n) (taken v n)
judged (whole v n (suc z)) = bad_if (ltb 65535 v) (taken v n)

-- the number at the front of some bytes
unfoldable pub number : List ℕ → Taken
number bytes = judged (groups bytes)

-- the number and the place after it, or "5: number cut off, not shortest, or above 65,535"
abbrev pub from : ℕ → Taken → Told
from at bad = refusal 5
from at (taken v n) = gives (v ∷ (at + n) ∷ [])

-- the number at a place; "a place at or past the end gives 5", since no bytes are left there
unfoldable pub number_at : List ℕ → ℕ → Told
number_at s at = from at (number (drop at s))

-- numbers one after another, and how many bytes they have
pub record Numbers : Type 0 where
  pub values : List ℕ
  pub used : ℕ

-- a number, and those after it
abbrev pub first : Taken → (ℕ → Numbers) → Numbers
first bad more = record { values = []; used = 0 }
first (taken v n) more = record { values = v ∷ (more n).values; used = n + (more n).used }

-- the numbers at the front of some bytes, as far as they go, at most k
abbrev pub run : ℕ → List ℕ → Numbers
run zero bytes = record { values = []; used = 0 }
run (suc k) bytes = first (number bytes) (λ n. run k (drop n bytes))

-- what numbers "add up to"
abbrev pub sum : List ℕ → ℕ
sum [] = 0
sum (x ∷ l) = x + sum l
