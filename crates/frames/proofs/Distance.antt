-- Two different accepted frames of one length, whatever their F_codes, differ in at least four bits of some block and its check sequence.
-- Assumes nothing.
use mathlib.Core.Path.{◌≡◌, refl, sym, ap, ap₂, ◌∙◌, subst}
use mathlib.Core.Bool.{Bool, true, ◌&&◌}
use mathlib.Core.List.{List, [], ◌∷◌, ◌++◌, List-discrete}
use mathlib.Core.Logic.{◌⊎◌, inl, inr, ⊎_elim}
use Prim.Native.Nat.{ℕ, zero, suc, ◌+◌, ◌-◌, ◌*◌, ◌≤◌, ◌<◌}
use native.Mathlib.Nat.{suc-mul, suc_inj, add_comm}
use native.Mathlib.Numerals.{add-one}
use native.Mathlib.Decide.{ℕ_discrete}
use native.Mathlib.Omega.{arith}
use lib.Pow.{are_bytes}
use lib.ListN.{length, take, drop, length-drop, take-append-drop}
use lib.Seq.{take_at, drop_at, drop-drop, length-take-le, take-suc}
use Rattle.checks.specs.Bits.{bits, bits_of, number}
use Rattle.checks.specs.Check.{check_of}
use Rattle.checks.specs.Distance.{differing}
use Rattle.checks.proofs.Numbers.{length_bits, length_bits_of, number_byte, bits_of_snoc}
use Rattle.checks.proofs.Distance.{apart, check_bits_lem}
use Rattle.rows.specs.Rows.{data_bits, data_bytes, blocks, block_bytes}
use Rattle.frames.specs.Blocks.{right_blocks}
use Rattle.frames.specs.Accepted.{Accepted, master, slave, block_count, block_size, block_at}
use Rattle.rows.proofs.Rows.{whole, block_most, same_shape}
use Rattle.frames.proofs.Turns.{right_split}
use Rattle.frames.proofs.RoundTrip.{empty, bytes_first, slave_accepted, master_accepted}

-- bytes are known by their bits
bits_same : (d e : List ℕ) → length d ≡ length e → are_bytes d ≡ true → are_bytes e ≡ true → bits_of d ≡ bits_of e → d ≡ e
bits_same [] [] l a b h = refl
bits_same [] (y ∷ e) l a b h = absurd (omega arith)
bits_same (x ∷ d) [] l a b h = absurd (omega arith)
bits_same (x ∷ d) (y ∷ e) l a b h =
    let p = bytes_first x d a in
    let q = bytes_first y e b in
    let t : bits 8 x ≡ bits 8 y =
    sym (take_at (bits 8 x) (bits_of d) 8 (length_bits 8 x)) ∙ ap (take 8) h ∙ take_at (bits 8 y) (bits_of e) 8 (length_bits 8 y) in
    let r : bits_of d ≡ bits_of e =
    sym (drop_at (bits 8 x) (bits_of d) 8 (length_bits 8 x)) ∙ ap (drop 8) h ∙ drop_at (bits 8 y) (bits_of e) 8 (length_bits 8 y) in
    ap₂ ◌∷◌
    (sym (number_byte x p.0) ∙ ap number t ∙ number_byte y q.0)
    (bits_same d e (suc_inj l) p.1 q.1 r)

-- two blocks with their check sequences
blocks_apart : (d e : List ℕ) → length d ≡ length e → length d ≤ 8 → are_bytes d ≡ true → are_bytes e ≡ true → (d ≡ e → ⊥)
    → 4 ≤ differing (bits_of (d ++ check_of d ∷ [])) (bits_of (e ++ check_of e ∷ []))
blocks_apart d e l s a b ne =
    let ld : length (bits_of d) ≡ 8 * length d = length_bits_of d in
    let le : length (bits_of e) ≡ 8 * length e = length_bits_of e in
    subst (λ (k : ℕ). 4 ≤ k)
    (sym (ap₂ differing
    (bits_of_snoc d (check_of d) ∙ ap (λ (x : List Bool). bits_of d ++ x) (check_bits_lem d))
    (bits_of_snoc e (check_of e) ∙ ap (λ (x : List Bool). bits_of e ++ x) (check_bits_lem e))))
    (apart (bits_of d) (bits_of e) (omega arith) (omega arith) (λ h. ne (bits_same d e l a b h)))

bytes_take : (n : ℕ) (l : List ℕ) → are_bytes l ≡ true → are_bytes (take n l) ≡ true
bytes_take zero l a = refl
bytes_take (suc n) [] a = refl
bytes_take (suc n) (x ∷ l) a =
    let p = bytes_first x l a in ap₂ ◌&&◌ (borrow.Author.Tests.lt-ltb x 256 p.0) (bytes_take n l p.1)

bytes_drop : (n : ℕ) (l : List ℕ) → are_bytes l ≡ true → are_bytes (drop n l) ≡ true
bytes_drop zero l a = a
bytes_drop (suc n) [] a = refl
bytes_drop (suc n) (x ∷ l) a = bytes_drop n l (bytes_first x l a).1

decide : (u v : List ℕ) → (u ≡ v) ⊎ (u ≡ v → ⊥)
decide u v = elim (List-discrete ℕ_discrete u v) [ yes h ↦ inl h | no h ↦ inr h ]

frames_apart : (k n : ℕ) (v w : List ℕ) → n ≤ 8 → length v ≡ k * (n + 1) → length w ≡ k * (n + 1) → are_bytes v ≡ true → are_bytes w ≡ true
    → right_blocks k n v ≡ k → right_blocks k n w ≡ k → (v ≡ w → ⊥)
    → (i : ℕ) × (i < k) × (4 ≤ differing (bits_of (block_at n i v)) (bits_of (block_at n i w)))
frames_apart zero n v w s lv lw a b r t ne = absurd (ne (sym (empty v (let z : length v ≡ 0 = omega arith in z)) ∙ empty w (let z : length w ≡ 0 = omega arith in z)))
frames_apart (suc k) n v w s lv lw a b r t ne =
    ⊎_elim
    (λ (h : take (n + 1) v ≡ take (n + 1) w). later (frames_apart k n (drop (n + 1) v) (drop (n + 1) w) s (rest v lv) (rest w lw) (bytes_drop (n + 1) v a) (bytes_drop (n + 1) w b)
    (right_split k n v r).1 (right_split k n w t).1
    (λ e. ne (sym (take-append-drop (n + 1) v) ∙ ap₂ ◌++◌ h e ∙ take-append-drop (n + 1) w))))
    (λ (h : take (n + 1) v ≡ take (n + 1) w → ⊥). (0, omega arith, here h))
    (decide (take (n + 1) v) (take (n + 1) w))
  where
    m : suc k * (n + 1) ≡ k * (n + 1) + (n + 1)
    m = suc-mul k (n + 1)

    rest : (l : List ℕ) → length l ≡ suc k * (n + 1) → length (drop (n + 1) l) ≡ k * (n + 1)
    rest l e = let d : length (drop (n + 1) l) ≡ length l - (n + 1) = length-drop (n + 1) l in omega (arith, m)

    shift : (i : ℕ) (l : List ℕ) → block_at n i (drop (n + 1) l) ≡ block_at n (suc i) l
    shift i l = ap (take (n + 1)) (drop-drop (i * (n + 1)) (n + 1) l ∙ ap (λ (j : ℕ). drop j l) (add_comm (n + 1) (i * (n + 1)) ∙ sym (suc-mul i (n + 1))))

    later : (i : ℕ) × (i < k) × (4 ≤ differing (bits_of (block_at n i (drop (n + 1) v))) (bits_of (block_at n i (drop (n + 1) w))))
        → (i : ℕ) × (i < suc k) × (4 ≤ differing (bits_of (block_at n i v)) (bits_of (block_at n i w)))
    later p = (suc p.0, omega (arith, p.1), subst (λ (j : ℕ). 4 ≤ j) (ap₂ (λ (x y : List ℕ). differing (bits_of x) (bits_of y)) (shift p.0 v) (shift p.0 w)) p.2)

    block : (l : List ℕ) → length l ≡ suc k * (n + 1) → right_blocks (suc k) n l ≡ suc k → take (n + 1) l ≡ take n l ++ check_of (take n l) ∷ []
    block l e q = ap (λ (j : ℕ). take j l) (add-one n) ∙ take-suc l n 0 (omega (arith, m)) ∙ ap (λ (x : ℕ). take n l ++ x ∷ []) (sym (right_split k n l q).0)

    long : (l : List ℕ) → length l ≡ suc k * (n + 1) → length (take n l) ≡ n
    long l e = length-take-le n l (omega (arith, m))

    first : (l : List ℕ) → take (n + 1) l ≡ block_at n 0 l
    first l = ap (λ (j : ℕ). take (n + 1) (drop j l)) (let z : 0 ≡ 0 * (n + 1) = omega arith in z)

    here : (take (n + 1) v ≡ take (n + 1) w → ⊥) → 4 ≤ differing (bits_of (block_at n 0 v)) (bits_of (block_at n 0 w))
    here h =
        subst (λ (j : ℕ). 4 ≤ j)
        (ap₂ (λ (x y : List ℕ). differing (bits_of x) (bits_of y)) (sym (block v lv r) ∙ first v) (sym (block w lw t) ∙ first w))
        (blocks_apart (take n v) (take n w) (long v lv ∙ sym (long w lw)) (let z : length (take n v) ≡ n = long v lv in omega arith) (bytes_take n v a) (bytes_take n w b)
        (λ e. h (block v lv r ∙ ap (λ (x : List ℕ). x ++ check_of x ∷ []) e ∙ sym (block w lw t))))

-- ---- accepted frames

-- all blocks of a frame are right, and some F_code has blocks like these
record Laid (w : List ℕ) (k n : ℕ) : Type 0 where
  pub small : n ≤ 8
  pub long : length w ≡ k * (n + 1)
  pub right : right_blocks k n w ≡ k
  pub shaped : (f : ℕ) × (blocks f ≡ k) × (block_bytes f ≡ n)

laid : (w : List ℕ) (a : Accepted w) → Laid w (block_count a) (block_size a)
unfolding blocks block_bytes data_bytes data_bits
laid w (slave f room m h) =
    let p = slave_accepted f w room m h in
    record { small = block_most f; long = p.1 ∙ sym (whole f); right = p.2; shaped = (f, refl, refl) }
laid w (master word h) =
    let p = master_accepted w word h in
    record { small = omega arith; long = p.0; right = p.1; shaped = (0, refl, refl) }

same_blocks : {v w : List ℕ} {k n j m : ℕ} → Laid v k n → Laid w j m → length v ≡ length w → (j ≡ k) × (m ≡ n)
same_blocks a b e =
    let f = a.shaped in
    let g = b.shaped in
    let s =
    same_shape g.0 f.0
    (sym (whole g.0) ∙ ap₂ (λ (x y : ℕ). x * (y + 1)) g.1 g.2 ∙ sym b.long ∙ sym e ∙ a.long ∙ sym (ap₂ (λ (x y : ℕ). x * (y + 1)) f.1 f.2) ∙ whole f.0) in
    (sym g.1 ∙ s.0 ∙ f.1, sym g.2 ∙ s.1 ∙ f.2)

pub accepted_apart : (v w : List ℕ) → are_bytes v ≡ true → are_bytes w ≡ true → (a : Accepted v) → Accepted w → length v ≡ length w → (v ≡ w → ⊥)
    → (i : ℕ) × (i < block_count a) × (4 ≤ differing (bits_of (block_at (block_size a) i v)) (bits_of (block_at (block_size a) i w)))
accepted_apart v w x y a b e ne =
    let p = laid v a in
    let q = laid w b in
    let s = same_blocks p q e in
    frames_apart (block_count a) (block_size a) v w p.small p.long (sym e ∙ p.long) x y p.right (ap₂ (λ (k n : ℕ). right_blocks k n w) (sym s.0) (sym s.1) ∙ q.right ∙ s.0) ne
