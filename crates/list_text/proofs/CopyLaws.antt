-- Bytes copied by eights: a line by its first eight and its last.
-- Assumes nothing.
use Prim.Native.Nat.{ℕ, zero, suc, ◌≤◌, ◌<◌}
use mathlib.Core.Path.{◌≡◌, refl, ap, ap₂, ◌∙◌}
use mathlib.Core.List.{List, [], ◌∷◌, ◌++◌, append-nil}
use native.Mathlib.Omega.{arith}
use lib.ListN.{length, get_or, set, take, drop, drop_of_length-le}
use lib.Seq.{take_all}

-- a byte more is copied
copy_step : (xs ys : List ℕ) (i : ℕ) → i < length xs → length xs ≤ length ys → set (take i xs ++ drop i ys) i (get_or xs i 0) ≡ take (suc i) xs ++ drop (suc i) ys
copy_step [] ys i h k = absurd (omega arith)
copy_step (x ∷ xs) [] i h k = absurd (omega arith)
copy_step (x ∷ xs) (y ∷ ys) zero h k = refl
copy_step (x ∷ xs) (y ∷ ys) (suc i) h k = ap (λ (l : List ℕ). x ∷ l) (copy_step xs ys i (omega arith) (omega arith))

-- the bytes at the first n places, one after the other
abbrev pub sets : ℕ → List ℕ → List ℕ → List ℕ
sets zero xs ys = ys
sets (suc n) xs ys = set (sets n xs ys) n (get_or xs n 0)

sets_are : (n : ℕ) (xs ys : List ℕ) → n ≤ length xs → length xs ≤ length ys → sets n xs ys ≡ take n xs ++ drop n ys
sets_are zero xs ys h g = refl
sets_are (suc n) xs ys h g = ap (λ (l : List ℕ). set l n (get_or xs n 0)) (sets_are n xs ys (omega arith) g) ∙ copy_step xs ys n (omega arith) g

pub all_set : (n : ℕ) (xs ys : List ℕ) → length xs ≡ n → length ys ≡ n → sets n xs ys ≡ xs
all_set n xs ys h g =
    sets_are n xs ys (omega arith) (omega arith)
    ∙ ap₂ ◌++◌ (take_all n xs (omega arith)) (drop_of_length-le ys {i = n} (omega arith)) ∙ append-nil xs
