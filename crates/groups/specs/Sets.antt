-- A set of devices that have an event, device by device; which of them a group has, in which order, and how many there are.
-- Assumes nothing.
use Rattle.std.specs.Prelude.{ℕ, zero, suc, ◌+◌, ◌-◌, ◌*◌, ◌/◌, ◌%◌, ◌^◌, ◌≤◌, ◌<◌, ◌≡◌, Bool, true, cond, List, [], ◌∷◌, ◌++◌}
use Rattle.groups.specs.Groups.{in_group}

-- device a has an event and is in the group {M, C}
pub record Member (S : ℕ → Bool) (m c a : ℕ) : Type 0 where
  pub small : a < 4096
  pub event : S a ≡ true
  pub group : in_group m c a ≡ true

-- the devices of {M, C} that have an event: those of {M-1, C}, then those of {M-1, C + 2^(12-M)}
unfoldable pub devices : (ℕ → Bool) → ℕ → ℕ → List ℕ
devices S zero c = cond (S c) (c ∷ []) []
devices S (suc m) c = devices S m c ++ devices S m (c + 2 ^ (12 - suc m))

-- how many devices with an address below n have an event
unfoldable pub how_many : (ℕ → Bool) → ℕ → ℕ
how_many S zero = 0
how_many S (suc n) = how_many S n + cond (S n) 1 0

-- the number that the low k bits of an address make, "taken lowest first": the lowest stands highest
unfoldable pub reversed : ℕ → ℕ → ℕ
reversed zero a = 0
reversed (suc k) a = a % 2 * 2 ^ k + reversed k (a / 2)

-- "in rising order of their bits taken lowest first", strictly, from lo on
abbrev pub Rising : ℕ → List ℕ → Type 0
Rising lo [] = Unit {0}
Rising lo (a ∷ l) = (lo ≤ reversed 12 a) × Rising (reversed 12 a + 1) l
