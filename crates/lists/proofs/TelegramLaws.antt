-- The time of a listed word's telegram: given, and at most 330 + gap.
-- Assumes nothing.
use Prim.Native.Nat.{ℕ, zero, suc, ◌+◌, ◌≤◌, ◌<◌}
use mathlib.Core.Path.{◌≡◌, refl, ap, sym, ◌∙◌, subst}
use mathlib.Core.List.{[], ◌∷◌}
use mathlib.Core.Bool.{Bool, true, false, ◌||◌}
use native.Mathlib.Omega.{arith}
use borrow.Author.Tests.{ltb-true, eqb-true, le-leb}
use lib.Dec.{ltb, eqb}
use Rattle.refusals.specs.declared.Refusal.{Refusal}
use Rattle.refusals.specs.Told.{gives, refusing}
use Rattle.refusals.proofs.Apart.{never_both}
use Rattle.rows.specs.Rows.{reserved, data_bits, data_bytes, blocks, frame_bytes, line_bits}
use Rattle.timing.specs.Timing.{telegram_bits, telegram_answer}
use Rattle.lists.specs.Weights.{Listable}

-- what holds of F_codes 0 to 4 and 15 holds of every listed word's
pub by_fcode : (P : ℕ → Type 0) → P 0 → P 1 → P 2 → P 3 → P 4 → P 15 → (f : ℕ) → Listable f → P f
by_fcode P a b c d e z f h = go (ltb f 5) refl
  where
    small : (f : ℕ) → f < 5 → P f
    small zero l = a
    small (suc zero) l = b
    small (suc (suc zero)) l = c
    small (suc (suc (suc zero))) l = d
    small (suc (suc (suc (suc zero)))) l = e
    small (suc (suc (suc (suc (suc f))))) l = absurd (omega arith)

    go : (t : Bool) → ltb f 5 ≡ t → P f
    go true q = small f (ltb-true f 5 q)
    go false q = subst P (sym (eqb-true f 15 (sym (ap (λ (t : Bool). t || eqb f 15) q) ∙ h))) z

pub telegram_range : (gap f : ℕ) → Listable f → (66 + gap ≤ telegram_bits f gap) × (telegram_bits f gap ≤ 330 + gap)
unfolding telegram_bits line_bits frame_bytes data_bytes blocks data_bits
telegram_range gap =
    by_fcode (λ (f : ℕ). (66 + gap ≤ telegram_bits f gap) × (telegram_bits f gap ≤ 330 + gap))
    (omega arith, omega arith) (omega arith, omega arith) (omega arith, omega arith) (omega arith, omega arith) (omega arith, omega arith) (omega arith, omega arith)

telegram_given : (gap : ℕ) → 4 ≤ gap → gap ≤ 128 → (f : ℕ) → Listable f → telegram_answer f gap ≡ gives (telegram_bits f gap ∷ [])
unfolding telegram_answer reserved data_bits
telegram_given gap l h =
    by_fcode (λ (f : ℕ). telegram_answer f gap ≡ gives (telegram_bits f gap ∷ []))
    (simp (le-leb 4 gap l, le-leb gap 128 h)) (simp (le-leb 4 gap l, le-leb gap 128 h)) (simp (le-leb 4 gap l, le-leb gap 128 h))
    (simp (le-leb 4 gap l, le-leb gap 128 h)) (simp (le-leb 4 gap l, le-leb gap 128 h)) (simp (le-leb 4 gap l, le-leb gap 128 h))

module _ (f gap : ℕ) (o : Listable f) (l : 4 ≤ gap) (h : gap ≤ 128) where
  pub telegram_bits_lem : (n : ℕ) → gives (n ∷ []) ≡ telegram_answer f gap → n ≡ telegram_bits f gap
  telegram_bits_lem n e = let q : gives (n ∷ []) ≡ gives (telegram_bits f gap ∷ []) = e ∙ telegram_given gap l h f o in cc

  pub never_refused : (m : Refusal) → refusing m ≡ telegram_answer f gap → ⊥
  never_refused m e = never_both (telegram_bits f gap ∷ []) m (sym (e ∙ telegram_given gap l h f o))
