-- A number in its range.
-- Assumes nothing.
use Prim.Native.Nat.{ℕ, ◌≤◌}
use mathlib.Core.Path.{◌≡◌, refl, ◌∙◌}
use mathlib.Core.List.{List}
use mathlib.Core.Bool.{Bool, true, false, ◌&&◌, and-eq-true_iff}
use native.Mathlib.Omega.{arith}
use borrow.Author.Tests.{leb-true}
use lib.Dec.{leb}
use Rattle.lists.specs.Rules.{unless}
use Rattle.lists.specs.Reading.{Read, denied, took, then, when, number_in, within}

-- a number that is read is in its range
pub in_range : (lo hi : ℕ) (bytes : List ℕ) (v : ℕ) (rest : List ℕ) → within lo hi bytes ≡ took v rest → (number_in bytes ≡ took v rest) × (lo ≤ v) × (v ≤ hi)
unfolding within
in_range lo hi bytes v rest e = go (number_in bytes) refl e
  where
    test : (b : Bool) (w : ℕ) (r : List ℕ) → when (unless 6 b) (took w r) ≡ took v rest → (b ≡ true) × (took w r ≡ took v rest)
    test true w r e = (refl, e)
    test false w r e = let z : ◌≡◌ {A = ℕ} 0 1 = cc in absurd (omega arith)

    go : (n : Read ℕ) → number_in bytes ≡ n → then n (λ w r. when (unless 6 (leb lo w && leb w hi)) (took w r)) ≡ took v rest → (number_in bytes ≡ took v rest) × (lo ≤ v) × (v ≤ hi)
    go (denied n) q e = let z : ◌≡◌ {A = ℕ} 0 1 = cc in absurd (omega arith)
    go (took w r) q e =
        let t = test (leb lo w && leb w hi) w r e in
        let b = (and-eq-true_iff (leb lo w) (leb w hi)).0 t.0 in
        let i : w ≡ v = cc t.1 in
        (q ∙ t.1, omega (arith, leb-true lo w b.0), omega (arith, leb-true w hi b.1))
