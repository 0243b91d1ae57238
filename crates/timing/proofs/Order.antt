-- What a row says of a telegram's time.
-- Assumes nothing.
use mathlib.Core.Path.{◌≡◌, refl, sym, ap, ◌∙◌}
use mathlib.Core.Bool.{Bool, true, false, cond}
use mathlib.Core.List.{List, [], ◌∷◌}
use Prim.Native.Nat.{ℕ, ◌≤◌}
use native.Mathlib.Omega.{arith}
use lib.ListN.{get_or}
use Rattle.rows.specs.Rows.{data_bits, reserved, frame_bytes, line_bits, row_of}
use Rattle.rows.proofs.Rows.{line_is, whole_most}

-- ---- by a row's bits on the line, whether the F_code is reserved

module _ (f : ℕ) (row : List ℕ) (e : row ≡ row_of f) where
  line : get_or row 2 0 ≡ cond (reserved f) 0 (line_bits f)
  unfolding row_of
  line = ap (λ (l : List ℕ). get_or l 2 0) e ∙ by_case (reserved f)
    where
      by_case : (b : Bool) → get_or (cond b (0 ∷ 0 ∷ 0 ∷ 0 ∷ []) (data_bits f ∷ frame_bytes f ∷ line_bits f ∷ 1 ∷ [])) 2 0 ≡ cond b 0 (line_bits f)
      by_case true = refl
      by_case false = refl

  pub no_line : get_or row 2 0 ≡ 0 → reserved f ≡ true
  unfolding line_bits
  no_line h = by_case (reserved f) (sym line ∙ h)
    where
      by_case : (b : Bool) → cond b 0 (line_bits f) ≡ 0 → b ≡ true
      by_case true z = refl
      by_case false z = absurd (omega arith)

  pub with_line : (get_or row 2 0 ≡ 0 → ⊥) → reserved f ≡ false
  with_line h = by_case (reserved f) (λ z. h (line ∙ z))
    where
      by_case : (b : Bool) → (cond b 0 (line_bits f) ≡ 0 → ⊥) → b ≡ false
      by_case true z = absurd (z refl)
      by_case false z = refl

-- ---- the bits on the line of one that is allowed

module _ (f : ℕ) (row : List ℕ) (e : row ≡ row_of f) (h : get_or row 2 0 ≡ 0 → ⊥) where
  pub line_of : get_or row 2 0 ≡ line_bits f
  line_of = ap (λ (l : List ℕ). get_or l 2 0) e ∙ line_is f (with_line f row e h)

  pub line_most : get_or row 2 0 ≤ 297
  unfolding line_bits
  line_most = let b : get_or row 2 0 ≡ line_bits f = line_of in omega (arith, whole_most f)
