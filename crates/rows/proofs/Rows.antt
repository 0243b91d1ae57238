-- The table of rows: what follows of each row.
-- Assumes nothing.
use mathlib.Core.Path.{◌≡◌, refl, sym, ap, ap₂, ◌∙◌, subst}
use mathlib.Core.Bool.{Bool, true, false, not, cond}
use mathlib.Core.List.{List, [], ◌∷◌}
use Prim.Native.Nat.{ℕ, zero, suc, ◌+◌, ◌-◌, ◌*◌, ◌/◌, ◌≤◌, ◌<◌, min}
use native.Mathlib.Nat.{mul-add, mul-one}
use native.Mathlib.Omega.{arith}
use native.Mathlib.Decide.{dec_le}
use borrow.Author.Tests.{ne_eqb}
use lib.Dec.{T, eqb, eqb→eq, leb, leb→le}
use lib.ListN.{get_or, get_or-eq_default}
use Rattle.checks.proofs.Tests.{both, both_left, both_right, at_upto}
use Rattle.checks.proofs.Tables.{below}
use Rattle.rows.specs.declared.TheConstants.{ROWS}
use Rattle.rows.specs.Rows.{data_bits, reserved, data_bytes, blocks, block_bytes, frame_bytes, line_bits, row_of}

-- ---- the table in the code

pub row_in : (f : ℕ) → f < 16 → get_or ROWS f [] ≡ row_of f
unfolding data_bits reserved data_bytes blocks frame_bytes line_bits row_of
row_in = below (λ f. get_or ROWS f []) row_of 16 refl

-- ---- beyond the table

no_bits : (f : ℕ) → 15 < f → data_bits f ≡ 0
unfolding data_bits
no_bits f h = get_or-eq_default (16 ∷ 32 ∷ 64 ∷ 128 ∷ 256 ∷ 0 ∷ 0 ∷ 0 ∷ 16 ∷ 16 ∷ 0 ∷ 0 ∷ 256 ∷ 16 ∷ 16 ∷ 16 ∷ []) 0 h

pub row_out : (f : ℕ) → 15 < f → 0 ∷ 0 ∷ 0 ∷ 0 ∷ [] ≡ row_of f
unfolding row_of reserved
row_out f h = simp (no_bits f h)

-- ---- what the columns are

-- by whether the F_code is reserved
by_reserved : (f : ℕ) (P : ℕ → Bool → Type 0) → P 0 true → ((n : ℕ) → P n false) → P (data_bits f) (reserved f)
unfolding reserved
by_reserved f P z s = go (data_bits f)
  where
    go : (n : ℕ) → P n (eqb n 0)
    go zero = z
    go (suc n) = subst (P (suc n)) (sym (ne_eqb (suc n) 0 (λ e. omega arith))) (s (suc n))

pub allowed_is : (f : ℕ) → eqb (get_or (row_of f) 3 0) 1 ≡ not (reserved f)
unfolding row_of
allowed_is f = by_case (reserved f)
  where
    by_case : (b : Bool) → eqb (get_or (cond b (0 ∷ 0 ∷ 0 ∷ 0 ∷ []) (data_bits f ∷ frame_bytes f ∷ line_bits f ∷ 1 ∷ [])) 3 0) 1 ≡ not b
    by_case true = refl
    by_case false = refl

pub data_is : (f : ℕ) → get_or (row_of f) 0 0 / 8 ≡ data_bytes f
unfolding row_of data_bytes
data_is f = by_reserved f (λ n b. get_or (cond b (0 ∷ 0 ∷ 0 ∷ 0 ∷ []) (n ∷ frame_bytes f ∷ line_bits f ∷ 1 ∷ [])) 0 0 / 8 ≡ n / 8) refl (λ n. refl)

pub whole_is : (f : ℕ) → get_or (row_of f) 1 0 ≡ frame_bytes f
unfolding row_of frame_bytes data_bytes blocks
whole_is f =
    by_reserved f (λ n b. get_or (cond b (0 ∷ 0 ∷ 0 ∷ 0 ∷ []) (n ∷ (n / 8 + (n + 63) / 64) ∷ line_bits f ∷ 1 ∷ [])) 1 0 ≡ n / 8 + (n + 63) / 64) refl (λ n. refl)

pub line_is : (f : ℕ) → reserved f ≡ false → get_or (row_of f) 2 0 ≡ line_bits f
unfolding row_of
line_is f e = ap (λ (b : Bool). get_or (cond b (0 ∷ 0 ∷ 0 ∷ 0 ∷ []) (data_bits f ∷ frame_bytes f ∷ line_bits f ∷ 1 ∷ [])) 2 0) e

-- ---- the rule of the table: every block is full, and the data has at most 256 bits

ruled : ℕ → Bool
ruled f = both (eqb (blocks f * block_bytes f) (data_bytes f)) (leb (data_bits f) 256)

in_table : (f : ℕ) → f < 16 → T (ruled f)
unfolding ruled blocks block_bytes data_bytes data_bits
in_table f h = at_upto 16 ruled tt f h

out_of_table : (f : ℕ) → 15 < f → T (ruled f)
unfolding ruled blocks block_bytes data_bytes
out_of_table f h = subst (λ (n : ℕ). T (both (eqb ((n + 63) / 64 * min 8 (n / 8)) (n / 8)) (leb n 256))) (sym (no_bits f h)) tt

rule : (f : ℕ) → T (ruled f)
rule f = elim (dec_le 16 f) [ yes h ↦ out_of_table f h | no h ↦ in_table f (omega arith) ]

pub full : (f : ℕ) → blocks f * block_bytes f ≡ data_bytes f
unfolding ruled
full f = eqb→eq (blocks f * block_bytes f) (data_bytes f) (both_left (eqb (blocks f * block_bytes f) (data_bytes f)) (leb (data_bits f) 256) (rule f))

pub bits_most : (f : ℕ) → data_bits f ≤ 256
unfolding ruled
bits_most f = leb→le (data_bits f) 256 (both_right (eqb (blocks f * block_bytes f) (data_bytes f)) (leb (data_bits f) 256) (rule f))

pub whole : (f : ℕ) → blocks f * (block_bytes f + 1) ≡ frame_bytes f
unfolding frame_bytes
whole f = mul-add (blocks f) (block_bytes f) 1 ∙ ap₂ (λ (a b : ℕ). a + b) (full f) (mul-one (blocks f))

-- a block of two bytes is the only one
pub lone_word : (f : ℕ) → block_bytes f ≡ 2 → blocks f ≡ 1
unfolding block_bytes blocks data_bytes
lone_word f e = omega arith

pub block_most : (f : ℕ) → block_bytes f ≤ 8
unfolding block_bytes
block_most f = omega arith

pub whole_most : (f : ℕ) → frame_bytes f ≤ 36
unfolding frame_bytes data_bytes blocks
whole_most f = omega (arith, bits_most f)

-- frames of one length carry as much data, in the same blocks
pub same_shape : (f g : ℕ) → frame_bytes f ≡ frame_bytes g → (blocks f ≡ blocks g) × (block_bytes f ≡ block_bytes g)
unfolding frame_bytes blocks block_bytes data_bytes
same_shape f g h =
    let d : data_bits f / 8 ≡ data_bits g / 8 = omega arith in
    ((let b : (data_bits f + 63) / 64 ≡ (data_bits g + 63) / 64 = omega arith in b), ap (min 8) d)

-- ---- what a row that was looked up says of its F_code

module _ (f : ℕ) (row : List ℕ) (e : row ≡ row_of f) where
  flag : get_or row 3 0 ≡ cond (reserved f) 0 1
  unfolding row_of
  flag = ap (λ (l : List ℕ). get_or l 3 0) e ∙ by_case (reserved f)
    where
      by_case : (b : Bool) → get_or (cond b (0 ∷ 0 ∷ 0 ∷ 0 ∷ []) (data_bits f ∷ frame_bytes f ∷ line_bits f ∷ 1 ∷ [])) 3 0 ≡ cond b 0 1
      by_case true = refl
      by_case false = refl

  pub reserved_row : get_or row 3 0 ≡ 0 → reserved f ≡ true
  reserved_row h = by_case (reserved f) (sym flag ∙ h)
    where
      by_case : (b : Bool) → ◌≡◌ {A = ℕ} (cond b 0 1) 0 → b ≡ true
      by_case true z = refl
      by_case false z = absurd (omega arith)

  pub allowed_row : (get_or row 3 0 ≡ 0 → ⊥) → reserved f ≡ false
  allowed_row h = by_case (reserved f) (λ z. h (flag ∙ z))
    where
      by_case : (b : Bool) → (◌≡◌ {A = ℕ} (cond b 0 1) 0 → ⊥) → b ≡ false
      by_case true z = absurd (z refl)
      by_case false z = refl

-- the same as a test
pub reserved_is : (f : ℕ) (row : List ℕ) → row ≡ row_of f → eqb (get_or row 3 0) 0 ≡ reserved f
reserved_is f row e = ap (λ k. eqb k 0) (flag f row e) ∙ by_case (reserved f)
  where
    by_case : (b : Bool) → eqb (cond b 0 1) 0 ≡ b
    by_case true = refl
    by_case false = refl

-- ---- what else it says

module _ (f : ℕ) (row : List ℕ) (e : row ≡ row_of f) where
  pub row_data : get_or row 0 0 / 8 ≡ data_bytes f
  row_data = ap (λ (l : List ℕ). get_or l 0 0 / 8) e ∙ data_is f

  pub row_whole : get_or row 1 0 ≡ frame_bytes f
  row_whole = ap (λ (l : List ℕ). get_or l 1 0) e ∙ whole_is f

  pub row_data_most : get_or row 0 0 / 8 ≤ get_or row 1 0
  unfolding frame_bytes
  row_data_most = let d : get_or row 0 0 / 8 ≡ data_bytes f = row_data in let w : get_or row 1 0 ≡ data_bytes f + blocks f = row_whole in omega arith

  pub row_blocks : get_or row 1 0 - get_or row 0 0 / 8 ≡ blocks f
  unfolding frame_bytes
  row_blocks = let d : get_or row 0 0 / 8 ≡ data_bytes f = row_data in let w : get_or row 1 0 ≡ data_bytes f + blocks f = row_whole in omega arith

  pub row_size_small : get_or row 0 0 / 8 < 8 → get_or row 0 0 / 8 ≡ block_bytes f
  unfolding block_bytes
  row_size_small h = let d : get_or row 0 0 / 8 ≡ data_bytes f = row_data in omega arith

  pub row_size_large : 8 ≤ get_or row 0 0 / 8 → 8 ≡ block_bytes f
  unfolding block_bytes
  row_size_large h = let d : get_or row 0 0 / 8 ≡ data_bytes f = row_data in omega arith
