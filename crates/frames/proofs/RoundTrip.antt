-- What is written is read back, and what is accepted is what would have been written (demand 2), for Slave and Master Frames.
-- Assumes nothing.
use mathlib.Core.Path.{◌≡◌, refl, sym, ap, ap₂, ◌∙◌}
use mathlib.Core.Bool.{Bool, true, false, cond, and-eq-true_iff}
use mathlib.Core.List.{List, [], ◌∷◌, ◌++◌}
use Prim.Native.Nat.{ℕ, zero, suc, ◌+◌, ◌-◌, ◌*◌, ◌≤◌, ◌<◌}
use native.Mathlib.Nat.{suc-mul}
use native.Mathlib.Numerals.{add-one}
use native.Mathlib.Omega.{arith}
use borrow.Author.Tests.{eq-eqb, eqb-true, not-false, ltb-true, ltb-false, le-ltb}
use lib.Dec.{ltb}
use lib.Pow.{are_bytes}
use lib.ListN.{length, get_or, take, drop, length-drop, take-append-drop}
use lib.Seq.{take_at, drop_at, get_or_at, drop-drop, length-take-le, split_at}
use Rattle.checks.specs.Check.{check_of}
use Rattle.refusals.specs.Told.{Told, gives, refusal}
use Rattle.frames.specs.Words.{f_code_of, word_in, word_bytes}
use Rattle.rows.specs.Rows.{reserved, data_bytes, blocks, block_bytes, frame_bytes}
use Rattle.frames.specs.Blocks.{framed, data_in, right_blocks}
use Rattle.frames.specs.Master.{master_frame, master_read, master_write, master_write_out}
use Rattle.frames.specs.Slave.{slave_frame, slave_data, slave_read, slave_read_out, slave_write, slave_write_out}
use Rattle.rows.proofs.Rows.{full, whole}
use Rattle.frames.proofs.Turns.{right_split, data_length, framed_length}
use Rattle.frames.proofs.Order.{read_done, write_done}

-- ---- blocks

-- a block, its check sequence, and what follows
module _ (b : List ℕ) (c : ℕ) (y : List ℕ) (n : ℕ) (e : length b ≡ n) where
  take_block : take n (b ++ c ∷ y) ≡ b
  take_block = take_at b (c ∷ y) n e

  get_check : get_or (b ++ c ∷ y) n 0 ≡ c
  get_check = get_or_at b c y 0 n e

  drop_block : drop (n + 1) (b ++ c ∷ y) ≡ y
  drop_block = sym (drop-drop 1 n (b ++ c ∷ y)) ∙ ap (drop 1) (drop_at b (c ∷ y) n e)

pub empty : (d : List ℕ) → length d ≡ 0 → [] ≡ d
empty [] e = refl
empty (x ∷ d) e = absurd (omega arith)

-- of a run of `suc k` blocks, one and the rest
one_more : (k n : ℕ) (d : List ℕ) → length d ≡ suc k * n → (length (take n d) ≡ n) × (length (drop n d) ≡ k * n)
one_more k n d e =
    let m : suc k * n ≡ k * n + n = suc-mul k n in
    let l : length (drop n d) ≡ length d - n = length-drop n d in
    (length-take-le n d (omega arith), omega arith)

framed_right : (k n : ℕ) (d : List ℕ) → length d ≡ k * n → right_blocks k n (framed k n d) ≡ k
framed_right zero n d e = refl
framed_right (suc k) n d e =
    let p = one_more k n d e in
    let b = take n d in
    let y = framed k n (drop n d) in
    ap₂ (λ (t : Bool) (r : ℕ). cond t (suc r) zero)
    (eq-eqb (check_of (take n (b ++ check_of b ∷ y))) (get_or (b ++ check_of b ∷ y) n 0) (ap check_of (take_block b (check_of b) y n p.0) ∙ sym (get_check b (check_of b) y n p.0)))
    (ap (right_blocks k n) (drop_block b (check_of b) y n p.0) ∙ framed_right k n (drop n d) p.1)

framed_data : (k n : ℕ) (d : List ℕ) → length d ≡ k * n → data_in k n (framed k n d) ≡ d
framed_data zero n d e = empty d (let z : length d ≡ 0 = omega arith in z)
framed_data (suc k) n d e =
    let p = one_more k n d e in
    let b = take n d in
    let y = framed k n (drop n d) in
    ap₂ ◌++◌ (take_block b (check_of b) y n p.0) (ap (data_in k n) (drop_block b (check_of b) y n p.0) ∙ framed_data k n (drop n d) p.1)
    ∙ take-append-drop n d

right_framed : (k n : ℕ) (w : List ℕ) → length w ≡ k * (n + 1) → right_blocks k n w ≡ k → framed k n (data_in k n w) ≡ w
right_framed zero n w e r = empty w (let z : length w ≡ 0 = omega arith in z)
right_framed (suc k) n w e r =
    let p = right_split k n w r in
    let m : suc k * (n + 1) ≡ k * (n + 1) + (n + 1) = suc-mul k (n + 1) in
    let lt : length (take n w) ≡ n = length-take-le n w (omega arith) in
    let ld : length (drop (n + 1) w) ≡ length w - (n + 1) = length-drop (n + 1) w in
    let t : take n (take n w ++ data_in k n (drop (n + 1) w)) ≡ take n w = take_at (take n w) (data_in k n (drop (n + 1) w)) n lt in
    ap₂ ◌++◌ t
    (ap₂ ◌∷◌ (ap check_of t ∙ p.0)
    (ap (framed k n) (drop_at (take n w) (data_in k n (drop (n + 1) w)) n lt) ∙ right_framed k n (drop (n + 1) w) (omega arith) p.1 ∙ ap (λ (j : ℕ). drop j w) (add-one n)))
    ∙ sym (split_at w n 0 (omega arith))

-- ---- answers that are no refusal came past every check

no_gives : (k : ℕ) (v : List ℕ) → refusal k ≡ gives v → ⊥
no_gives k v h = let z : ◌≡◌ {A = ℕ} 0 1 = cc in omega arith

past : (t : Bool) (k : ℕ) (u : Told) (v : List ℕ) → cond t (refusal k) u ≡ gives v → (t ≡ false) × (u ≡ gives v)
past true k u v h = absurd (no_gives k v h)
past false k u v h = (refl, h)

-- what an accepted Slave Frame is
pub slave_accepted : (f : ℕ) (w : List ℕ) (room n : ℕ) → slave_read f w room ≡ gives (n ∷ [])
    → (reserved f ≡ false) × (length w ≡ frame_bytes f) × (right_blocks (blocks f) (block_bytes f) w ≡ blocks f) × (data_bytes f ≤ room) × (data_bytes f ≡ n)
unfolding slave_read
slave_accepted f w room n h =
    let p3 = past _ 3 _ (n ∷ []) h in
    let p1 = past _ 1 _ (n ∷ []) p3.1 in
    let p2 = past _ 2 _ (n ∷ []) p1.1 in
    let p4 = past _ 4 _ (n ∷ []) p2.1 in
    let e : gives (data_bytes f ∷ []) ≡ gives (n ∷ []) = p4.1 in
    (p3.0, eqb-true (length w) (frame_bytes f) (not-false _ p1.0), eqb-true (right_blocks (blocks f) (block_bytes f) w) (blocks f) (not-false _ p2.0), ltb-false room (data_bytes f) p4.0, (let q : data_bytes f ≡ n = cc in q))

-- what a written Slave Frame is
pub slave_written : (f : ℕ) (d : List ℕ) (room n : ℕ) → slave_write f d room ≡ gives (n ∷ [])
    → (reserved f ≡ false) × (length d ≡ data_bytes f) × (frame_bytes f ≤ room) × (frame_bytes f ≡ n)
unfolding slave_write
slave_written f d room n h =
    let p3 = past _ 3 _ (n ∷ []) h in
    let p1 = past _ 1 _ (n ∷ []) p3.1 in
    let p4 = past _ 4 _ (n ∷ []) p1.1 in
    let e : gives (frame_bytes f ∷ []) ≡ gives (n ∷ []) = p4.1 in
    (p3.0, eqb-true (length d) (data_bytes f) (not-false _ p1.0), ltb-false room (frame_bytes f) p4.0, (let q : frame_bytes f ≡ n = cc in q))

-- ---- Slave Frames

pub slave_frame_length : (f : ℕ) (d : List ℕ) → length d ≡ data_bytes f → length (slave_frame f d) ≡ frame_bytes f
unfolding slave_frame
slave_frame_length f d e = framed_length (blocks f) (block_bytes f) d (let l : blocks f * block_bytes f ≤ length d = omega (arith, e, full f) in l) ∙ whole f

-- what is written
slave_out : (f : ℕ) (d out : List ℕ) → reserved f ≡ false → length d ≡ data_bytes f → frame_bytes f ≤ length out
    → (slave_write f d (length out) ≡ gives (frame_bytes f ∷ [])) × (slave_write_out f d out ≡ slave_frame f d ++ drop (frame_bytes f) out)
unfolding slave_write slave_write_out
slave_out f d out a e r =
    (sym (write_done f d (length out) refusal (gives (frame_bytes f ∷ [])) a e r), sym (write_done f d (length out) (λ k. out) (slave_frame f d ++ drop (frame_bytes f) out) a e r))

-- what is read
slave_in : (f : ℕ) (w out : List ℕ) → reserved f ≡ false → length w ≡ frame_bytes f → right_blocks (blocks f) (block_bytes f) w ≡ blocks f → data_bytes f ≤ length out
    → (slave_read f w (length out) ≡ gives (data_bytes f ∷ [])) × (slave_read_out f w out ≡ slave_data f w ++ drop (data_bytes f) out)
unfolding slave_read slave_read_out
slave_in f w out a e c r =
    (sym (read_done f w (length out) refusal (gives (data_bytes f ∷ [])) a e c r), sym (read_done f w (length out) (λ k. out) (slave_data f w ++ drop (data_bytes f) out) a e c r))

-- "what we write, our reader gives back"
pub slave_written_is_read : (f n : ℕ) (d out back : List ℕ) → slave_write f d (length out) ≡ gives (n ∷ []) → length d ≤ length back
    → (slave_read f (take n (slave_write_out f d out)) (length back) ≡ gives (length d ∷ []))
    × (slave_read_out f (take n (slave_write_out f d out)) back ≡ d ++ drop (length d) back)
unfolding slave_frame slave_data
slave_written_is_read f n d out back h r =
    let p = slave_written f d (length out) n h in
    let l : length d ≡ blocks f * block_bytes f = p.1 ∙ sym (full f) in
    let w : take n (slave_write_out f d out) ≡ slave_frame f d =
    ap₂ take (sym p.3) (slave_out f d out p.0 p.1 p.2).1 ∙ take_at (slave_frame f d) (drop (frame_bytes f) out) (frame_bytes f) (slave_frame_length f d p.1) in
    let q = slave_in f (slave_frame f d) back p.0 (slave_frame_length f d p.1) (framed_right (blocks f) (block_bytes f) d l) (omega (arith, p.1)) in (
      ap (λ (x : List ℕ). slave_read f x (length back)) w ∙ q.0 ∙ ap (λ (k : ℕ). gives (k ∷ [])) (sym p.1),
      ap (λ (x : List ℕ). slave_read_out f x back) w ∙ q.1 ∙ ap₂ ◌++◌ (framed_data (blocks f) (block_bytes f) d l) (ap (λ (k : ℕ). drop k back) (sym p.1)),
    )

-- "what our reader accepts is what we would have written"
pub slave_accepted_is_written : (f n : ℕ) (w out back : List ℕ) → slave_read f w (length out) ≡ gives (n ∷ []) → length w ≤ length back
    → (slave_write f (take n (slave_read_out f w out)) (length back) ≡ gives (length w ∷ []))
    × (slave_write_out f (take n (slave_read_out f w out)) back ≡ w ++ drop (length w) back)
unfolding slave_frame slave_data
slave_accepted_is_written f n w out back h r =
    let p = slave_accepted f w (length out) n h in
    let l : length (slave_data f w) ≡ data_bytes f = data_length (blocks f) (block_bytes f) w (let l : blocks f * (block_bytes f + 1) ≤ length w = omega (arith, p.1, whole f) in l) ∙ full f in
    let d : take n (slave_read_out f w out) ≡ slave_data f w =
    ap₂ take (sym p.4) (slave_in f w out p.0 p.1 p.2 p.3).1 ∙ take_at (slave_data f w) (drop (data_bytes f) out) (data_bytes f) l in
    let q = slave_out f (slave_data f w) back p.0 l (omega (arith, p.1)) in (
      ap (λ (x : List ℕ). slave_write f x (length back)) d ∙ q.0 ∙ ap (λ (k : ℕ). gives (k ∷ [])) (sym p.1),
      ap (λ (x : List ℕ). slave_write_out f x back) d ∙ q.1 ∙ ap₂ ◌++◌ (right_framed (blocks f) (block_bytes f) w (p.1 ∙ sym (whole f)) p.2) (ap (λ (k : ℕ). drop k back) (sym p.1)),
    )

-- ---- Master Frames

-- what an accepted Master Frame is
pub master_accepted : (w : List ℕ) (word : ℕ) → master_read w ≡ gives (word ∷ [])
    → (length w ≡ 3) × (right_blocks 1 2 w ≡ 1) × (reserved (f_code_of (word_in w)) ≡ false) × (word_in w ≡ word)
unfolding master_read
master_accepted w word h =
    let p1 = past _ 1 _ (word ∷ []) h in
    let p2 = past _ 2 _ (word ∷ []) p1.1 in
    let p3 = past _ 3 _ (word ∷ []) p2.1 in
    let e : gives (word_in w ∷ []) ≡ gives (word ∷ []) = p3.1 in
    (eqb-true (length w) 3 (not-false _ p1.0), eqb-true (right_blocks 1 2 w) 1 (not-false _ p2.0), p3.0, (let q : word_in w ≡ word = cc in q))

pub master_frame_length : (word : ℕ) → length (master_frame word) ≡ 3
unfolding master_frame
master_frame_length word = refl

pub master_frame_right : (word : ℕ) → right_blocks 1 2 (master_frame word) ≡ 1
unfolding master_frame
master_frame_right word = framed_right 1 2 (word_bytes word) refl

pub master_frame_word : (word : ℕ) → word_in (master_frame word) ≡ word
unfolding master_frame
master_frame_word word = omega arith

-- what is written, and what a frame that is right reads as
master_out : (word : ℕ) (out : List ℕ) → reserved (f_code_of word) ≡ false → 3 ≤ length out
    → (master_write word (length out) ≡ gives (3 ∷ [])) × (master_write_out word out ≡ master_frame word ++ drop 3 out)
unfolding master_write master_write_out
master_out word out a r = let t : ltb (length out) 3 ≡ false = le-ltb (length out) 3 r in (simp (a, t), simp (a, t))

master_in : (w : List ℕ) → length w ≡ 3 → right_blocks 1 2 w ≡ 1 → reserved (f_code_of (word_in w)) ≡ false → master_read w ≡ gives (word_in w ∷ [])
unfolding master_read
master_in w a b c = simp (eq-eqb (length w) 3 a, eq-eqb (right_blocks 1 2 w) 1 b, c)

-- what was written
pub master_written : (word room n : ℕ) → master_write word room ≡ gives (n ∷ []) → (reserved (f_code_of word) ≡ false) × (3 ≤ room) × (3 ≡ n)
unfolding master_write
master_written word room n h =
    let p3 = past _ 3 _ (n ∷ []) h in
    let p4 = past _ 4 _ (n ∷ []) p3.1 in
    let e : gives (3 ∷ []) ≡ gives (n ∷ []) = p4.1 in
    (p3.0, ltb-false room 3 p4.0, (let q : 3 ≡ n = cc in q))

pub master_written_is_read : (word n : ℕ) (out : List ℕ) → master_write word (length out) ≡ gives (n ∷ []) → master_read (take n (master_write_out word out)) ≡ gives (word ∷ [])
master_written_is_read word n out h =
    let p = master_written word (length out) n h in
    let w : take n (master_write_out word out) ≡ master_frame word =
    ap₂ take (sym p.2) (master_out word out p.0 p.1).1 ∙ take_at (master_frame word) (drop 3 out) 3 (master_frame_length word) in
    ap master_read w
    ∙ master_in (master_frame word) (master_frame_length word) (master_frame_right word) (ap (λ (x : ℕ). reserved (f_code_of x)) (master_frame_word word) ∙ p.0)
    ∙ ap (λ (x : ℕ). gives (x ∷ [])) (master_frame_word word)

pub bytes_first : (x : ℕ) (l : List ℕ) → are_bytes (x ∷ l) ≡ true → (x < 256) × (are_bytes l ≡ true)
bytes_first x l h = let p = (and-eq-true_iff (ltb x 256) (are_bytes l)).0 h in (ltb-true x 256 p.0, p.1)

-- the frame of the word in three bytes is these three bytes
bytes_again : (w : List ℕ) → length w ≡ 3 → are_bytes w ≡ true → right_blocks 1 2 w ≡ 1 → master_frame (word_in w) ≡ w
unfolding master_frame
bytes_again [] e a r = absurd (omega arith)
bytes_again (x ∷ []) e a r = absurd (omega arith)
bytes_again (x ∷ y ∷ []) e a r = absurd (omega arith)
bytes_again (x ∷ y ∷ z ∷ v ∷ t) e a r = absurd (omega arith)
bytes_again (x ∷ y ∷ z ∷ []) e a r =
    ap (framed 1 2) (pair x y (first_two x y z a)) ∙ ap (λ (c : ℕ). x ∷ y ∷ c ∷ []) (right_split 0 2 (x ∷ y ∷ z ∷ []) r).0
  where
    first_two : (x y z : ℕ) → are_bytes (x ∷ y ∷ z ∷ []) ≡ true → y < 256
    first_two x y z h =
        let p = bytes_first x (y ∷ z ∷ []) h in
        (bytes_first y (z ∷ []) p.1).0

    pair : (x y : ℕ) → y < 256 → word_bytes (x * 256 + y) ≡ x ∷ y ∷ []
    pair x y h = ap₂ (λ (p q : ℕ). p ∷ q ∷ []) (omega arith) (omega arith)

pub master_accepted_is_written : (word : ℕ) (w out : List ℕ) → are_bytes w ≡ true → master_read w ≡ gives (word ∷ []) → 3 ≤ length out
    → (master_write word (length out) ≡ gives (3 ∷ [])) × (master_write_out word out ≡ w ++ drop 3 out)
master_accepted_is_written word w out a h r =
    let p = master_accepted w word h in
    let q = master_out word out (ap (λ (x : ℕ). reserved (f_code_of x)) (sym p.3) ∙ p.2) r in
    (q.0, q.1 ∙ ap (λ (x : List ℕ). x ++ drop 3 out) (ap master_frame (sym p.3) ∙ bytes_again w p.0 a p.1))
