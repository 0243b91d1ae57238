-- The weights of a gap, and a test that some Basic Period passes.
-- Assumes nothing.
use Prim.Native.Nat.{ℕ, zero, suc, ◌+◌, ◌≤◌, ◌<◌}
use mathlib.Core.Path.{◌≡◌, refl, subst}
use mathlib.Core.List.{List, [], ◌∷◌}
use mathlib.Core.Bool.{Bool, true, false, ◌||◌}
use mathlib.Core.Logic.{⊎_elim}
use native.Mathlib.Nat.{eq-or-lt_of_le, le_of_suc-le-suc}
use native.Mathlib.Omega.{arith}
use lib.ListN.{get_or}
use Rattle.timing.specs.Timing.{telegram_bits}
use Rattle.lists.specs.Sends.{some}
use Rattle.lists.specs.Weights.{WeightsOf}
use Rattle.lists.proofs.TelegramLaws.{by_fcode}

or-none : (a b : Bool) → a ≡ false → b ≡ false → (a || b) ≡ false
or-none true b e f = e
or-none false b e f = f

or_left : (a b : Bool) → a ≡ true → (a || b) ≡ true
or_left true b e = refl
or_left false b e = cc

or_right : (a b : Bool) → b ≡ true → (a || b) ≡ true
or_right true b e = refl
or_right false b e = e

pub some_none : (k : ℕ) (f : ℕ → Bool) → ((j : ℕ) → j < k → f j ≡ false) → some k f ≡ false
some_none zero f h = refl
some_none (suc k) f h = or-none (f k) (some k f) (h k (omega arith)) (some_none k f (λ j l. h j (omega arith)))

pub some_one : (k : ℕ) (f : ℕ → Bool) (j : ℕ) → j < k → f j ≡ true → some k f ≡ true
some_one zero f j l e = absurd (omega arith)
some_one (suc k) f j l e =
    ⊎_elim
    (λ q. or_left (f k) (some k f) (subst (λ (n : ℕ). f n ≡ true) q e))
    (λ q. or_right (f k) (some k f) (some_one k f j q e))
    (eq-or-lt_of_le (le_of_suc-le-suc l))

pub some_false : (k : ℕ) (f : ℕ → Bool) → some k f ≡ false → (j : ℕ) → j < k → f j ≡ false
some_false k f e j h = go (f j) refl
  where
    go : (t : Bool) → f j ≡ t → f j ≡ false
    go true q = let s : some k f ≡ true = some_one k f j h q in let z : ◌≡◌ {A = ℕ} 0 1 = cc in absurd (omega arith)
    go false q = q

pub some_here : (k : ℕ) (f : ℕ → Bool) → f k ≡ true → some (k + 1) f ≡ true
some_here k f e = some_one (k + 1) f k (omega arith) e

-- what was found before k is what was found before k + 1, where k itself fails the test
pub some_next : (k : ℕ) (f : ℕ → Bool) (found : Bool) → f k ≡ false → found ≡ some k f → found ≡ some (k + 1) f
some_next k f found e q = let n : k + 1 ≡ suc k = omega arith in rw (n, e) q

abbrev pub sixteen : (a b c d e z : ℕ) → List ℕ
sixteen a b c d e z = a ∷ b ∷ c ∷ d ∷ e ∷ 0 ∷ 0 ∷ 0 ∷ 0 ∷ 0 ∷ 0 ∷ 0 ∷ 0 ∷ 0 ∷ 0 ∷ z ∷ []

module _ (gap a b c d e z : ℕ) where
  pub weights_of : (a ≡ telegram_bits 0 gap) × (a ≤ 458) → (b ≡ telegram_bits 1 gap) × (b ≤ 458) → (c ≡ telegram_bits 2 gap) × (c ≤ 458)
      → (d ≡ telegram_bits 3 gap) × (d ≤ 458) → (e ≡ telegram_bits 4 gap) × (e ≤ 458) → (z ≡ telegram_bits 15 gap) × (z ≤ 458)
      → WeightsOf gap (sixteen a b c d e z)
  weights_of ha hb hc hd he hz = record { at = by_fcode (λ (f : ℕ). get_or (sixteen a b c d e z) f 0 ≡ telegram_bits f gap) ha.0 hb.0 hc.0 hd.0 he.0 hz.0 }
