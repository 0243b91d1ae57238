-- A frame block by block, from the front: what one block more adds.
-- Assumes nothing.
use Rattle.std.proofs.Common.{◌≡◌, ℕ, zero, suc, ◌+◌, ◌-◌, ◌*◌, ◌<◌, ◌≤◌, Bool, true, false, cond, eqb, List, [], ◌∷◌, ◌++◌, refl, sym, ap, ap₂, ◌∙◌, arith, length, get_or, set, take, drop, append_assoc, append-nil, length-append, length-drop}
use Rattle.std.proofs.lemmas.Bool.{eq-eqb, ne_eqb}
use Rattle.std.proofs.lemmas.List.{length-take-le, take-append-drop, take_at, drop_at}
use Rattle.std.proofs.lemmas.Slice.{take-put_mid, drop-put_mid}
use borrow.Author.Tests.{eqb-true}
use borrow.Rule.Slice.PartMut.{put_mid}
use native.Mathlib.Nat.{suc-mul, suc_inj}
use lib.Seq.{drop-drop, get_or-drop}
use Rattle.checks.specs.Check.{check_of}
use Rattle.frames.specs.Blocks.{framed, data_in, right_blocks, all_right}

-- ---- places

-- the pieces before one of some, and that one, are no more than all
pub within : (i count step len : ℕ) → i < count → count * step ≤ len → i * step + step ≤ len
within i zero step len h g = absurd (omega arith)
within zero (suc count) step len h g = omega (arith, suc-mul count step)
within (suc i) (suc count) step len h g =
    let ih : i * step + step ≤ len - step = within i count step (len - step) (omega arith) (omega (arith, suc-mul count step)) in
    omega (arith, suc-mul count step, suc-mul i step)

-- the first piece gone, one piece less is in front
later : (i step a : ℕ) (w : List ℕ) → a ≡ suc i * step → (a - step ≡ i * step) × (drop (a - step) (drop step w) ≡ drop a w)
later i step a w e =
    let m : suc i * step ≡ i * step + step = suc-mul i step in
    (omega arith, drop-drop (a - step) step w ∙ ap (λ (k : ℕ). drop k w) (let s : step + (a - step) ≡ a = omega arith in s))

next : (i : ℕ) → suc i ≡ i + 1
next i = omega arith

-- ---- are the blocks right?

-- the first of some right blocks is right, and so are the others
first_right : (t : Bool) (r k : ℕ) → cond t (suc r) zero ≡ suc k → (t ≡ true) × (r ≡ k)
first_right true r k e = (refl, suc_inj e)
first_right false r k e = absurd (omega arith)

pub right_split : (k n : ℕ) (w : List ℕ) → right_blocks (suc k) n w ≡ suc k → (check_of (take n w) ≡ get_or w n 0) × (right_blocks k n (drop (n + 1) w) ≡ k)
right_split k n w r =
    let p = first_right (eqb (check_of (take n w)) (get_or w n 0)) (right_blocks k n (drop (n + 1) w)) k r in
    (eqb-true (check_of (take n w)) (get_or w n 0) p.0, p.1)

-- a run of blocks that is right as far as place a
right_next : (i n a : ℕ) (w : List ℕ) → a ≡ i * (n + 1) → right_blocks i n w ≡ i → check_of (take n (drop a w)) ≡ get_or (drop a w) n 0 → right_blocks (suc i) n w ≡ suc i
right_next zero n a w p h e = let z : a ≡ 0 = omega arith in let f = rw z at e in ap (λ (b : Bool). cond b 1 0) (eq-eqb _ _ f)
right_next (suc i) n a w p h e =
    let l = later i (n + 1) a w p in
    let s = right_split i n w h in
    ap₂ (λ (b : Bool) (k : ℕ). cond b (suc k) zero) (eq-eqb _ _ s.0) (right_next i n (a - (n + 1)) (drop (n + 1) w) l.0 s.1 (rw l.1 e))

wrong_next : (i count n a : ℕ) (w : List ℕ) → i < count → a ≡ i * (n + 1) → right_blocks i n w ≡ i → (check_of (take n (drop a w)) ≡ get_or (drop a w) n 0 → ⊥) → right_blocks count n w ≡ i
wrong_next i zero n a w g p h e = absurd (omega arith)
wrong_next zero (suc count) n a w g p h e =
    let z : a ≡ 0 = omega arith in let f = rw z at e in ap (λ (b : Bool). cond b (suc (right_blocks count n (drop (n + 1) w))) zero) (ne_eqb _ _ f)
wrong_next (suc i) (suc count) n a w g p h e =
    let l = later i (n + 1) a w p in
    let s = right_split i n w h in
    ap₂ (λ (b : Bool) (k : ℕ). cond b (suc k) zero) (eq-eqb _ _ s.0) (wrong_next i count n (a - (n + 1)) (drop (n + 1) w) (omega arith) l.0 s.1 (rw l.1 e))

-- the check sequence of the block at hand, and the byte behind it
module _ (frame : List ℕ) (i n check : ℕ) (h : right_blocks i n frame ≡ i) (c : check ≡ check_of (take (i * (n + 1) + n - i * (n + 1)) (drop (i * (n + 1)) frame))) where
  abbrev at : ℕ
  at = i * (n + 1)

  behind : get_or (drop at frame) n 0 ≡ get_or frame (at + n) 0
  behind = get_or-drop at frame n 0

  same : check ≡ check_of (take n (drop at frame))
  same = c ∙ ap (λ (k : ℕ). check_of (take k (drop at frame))) (let e : at + n - at ≡ n = omega arith in e)

  pub right_here : check ≡ get_or frame (at + n) 0 → right_blocks (i + 1) n frame ≡ i + 1
  right_here e =
      ap (λ (k : ℕ). right_blocks k n frame) (sym (next i)) ∙ right_next i n at frame refl h (sym same ∙ e ∙ sym behind) ∙ next i

  pub wrong_here : (count : ℕ) → i < count → (check ≡ get_or frame (at + n) 0 → ⊥) → false ≡ all_right count n frame
  wrong_here count g e =
      let r : right_blocks count n frame ≡ i = wrong_next i count n at frame g refl h (λ z. e (same ∙ z ∙ behind)) in
      sym (ne_eqb (right_blocks count n frame) count (λ z. omega arith))

pub right_all : (frame : List ℕ) (i count n : ℕ) → i ≤ count → count ≤ i → right_blocks i n frame ≡ i → true ≡ all_right count n frame
right_all frame i count n g h r = let e : i ≡ count = omega arith in sym (eq-eqb _ _ (ap (λ (k : ℕ). right_blocks k n frame) (sym e) ∙ r ∙ e))

-- ---- what is made of the blocks

data_snoc : (i n a : ℕ) (w : List ℕ) → a ≡ i * (n + 1) → data_in (suc i) n w ≡ data_in i n w ++ take n (drop a w)
data_snoc zero n a w p = let z : a ≡ 0 = omega arith in append-nil (take n w) ∙ ap (λ (k : ℕ). take n (drop k w)) (sym z)
data_snoc (suc i) n a w p =
    let l = later i (n + 1) a w p in
    ap (λ (x : List ℕ). take n w ++ x) (data_snoc i n (a - (n + 1)) (drop (n + 1) w) l.0 ∙ ap (λ (x : List ℕ). data_in i n (drop (n + 1) w) ++ take n x) l.1)
    ∙ sym (append_assoc (take n w) (data_in i n (drop (n + 1) w)) (take n (drop a w)))

-- a block and its check sequence
abbrev with_check : List ℕ → List ℕ
with_check block = block ++ (check_of block ∷ [])

framed_snoc : (i n a : ℕ) (d : List ℕ) → a ≡ i * n → framed (suc i) n d ≡ framed i n d ++ with_check (take n (drop a d))
framed_snoc zero n a d p = let z : a ≡ 0 = omega arith in ap (λ (k : ℕ). with_check (take n (drop k d))) (sym z)
framed_snoc (suc i) n a d p =
    let l = later i n a d p in
    ap (λ (x : List ℕ). take n d ++ check_of (take n d) ∷ x) (framed_snoc i n (a - n) (drop n d) l.0 ∙ ap (λ (x : List ℕ). framed i n (drop n d) ++ with_check (take n x)) l.1)
    ∙ sym (append_assoc (take n d) (check_of (take n d) ∷ framed i n (drop n d)) (with_check (take n (drop a d))))

pub data_length : (i n : ℕ) (w : List ℕ) → i * (n + 1) ≤ length w → length (data_in i n w) ≡ i * n
data_length zero n w h = omega arith
data_length (suc i) n w h =
    let m : suc i * (n + 1) ≡ i * (n + 1) + (n + 1) = suc-mul i (n + 1) in
    let ih : length (data_in i n (drop (n + 1) w)) ≡ i * n = data_length i n (drop (n + 1) w) (omega (arith, length-drop (n + 1) w)) in
    omega (arith, length-append (take n w) (data_in i n (drop (n + 1) w)), length-take-le n w (omega arith), suc-mul i n)

pub framed_length : (i n : ℕ) (d : List ℕ) → i * n ≤ length d → length (framed i n d) ≡ i * (n + 1)
framed_length zero n d h = omega arith
framed_length (suc i) n d h =
    let m : suc i * n ≡ i * n + n = suc-mul i n in
    let ih : length (framed i n (drop n d)) ≡ i * (n + 1) = framed_length i n (drop n d) (omega (arith, length-drop n d)) in
    omega (arith, length-append (take n d) (check_of (take n d) ∷ framed i n (drop n d)), length-take-le n d (omega arith), suc-mul i (n + 1))

-- ---- a piece behind what was made so far

module _ (out init done piece : List ℕ) (a n : ℕ) (e : out ≡ done ++ drop a init) (l : length done ≡ a) (h : a + n ≤ length init) (k : length piece ≡ n) where
  out_long : a + n ≤ length out
  out_long = omega (arith, ap length e, length-append done (drop a init), length-drop a init)

  pub laid : (v : List ℕ) → v ≡ piece → put_mid a (a + n - a) out v ≡ (done ++ piece) ++ drop (a + n) init
  laid v f =
      sym (take-append-drop (a + n) (put_mid a (a + n - a) out v))
      ∙ ap₂ ◌++◌
      (take-put_mid a (a + n - a) out v (a + n) (omega (arith, ap length f)) (omega (arith, out_long)) ∙ ap₂ ◌++◌ (ap (take a) e ∙ take_at done (drop a init) a l) f)
      (drop-put_mid a (a + n - a) out v (a + n) (omega arith) (omega (arith, out_long)) (omega (arith, ap length f))
      ∙ sym (drop-drop n a out) ∙ ap (λ (x : List ℕ). drop n (drop a x)) e ∙ ap (drop n) (drop_at done (drop a init) a l) ∙ drop-drop n a init)

-- one byte more behind it
set_behind : (done t : List ℕ) (c : ℕ) → 0 < length t → set (done ++ t) (length done) c ≡ done ++ (c ∷ drop 1 t)
set_behind [] [] c h = absurd (omega arith)
set_behind [] (x ∷ t) c h = refl
set_behind (d ∷ done) t c h = ap (λ (l : List ℕ). d ∷ l) (set_behind done t c h)

laid_check : (out init done : List ℕ) (a c : ℕ) → out ≡ done ++ drop a init → length done ≡ a → a < length init → set out a c ≡ (done ++ (c ∷ [])) ++ drop (a + 1) init
laid_check out init done a c e l h =
    ap₂ (λ (o : List ℕ) (k : ℕ). set o k c) e (sym l)
    ∙ set_behind done (drop a init) c (omega (arith, length-drop a init))
    ∙ ap (λ (t : List ℕ). done ++ (c ∷ t)) (drop-drop 1 a init)
    ∙ sym (append_assoc done (c ∷ []) (drop (a + 1) init))

-- ---- a turn of each loop

-- the part of the source at hand, and the part of the output that was lent for it
module _ (from out v : List ℕ) (at to n : ℕ) (h : at + n ≤ length from) (g : to + n ≤ length out)
    (e : v ≡ take (at + n - at) (drop at from)) where
  lent : v ≡ take n (drop at from)
  lent = e ∙ ap (λ (k : ℕ). take k (drop at from)) (let s : at + n - at ≡ n = omega arith in s)

pub copy_next : (frame out init v : List ℕ) (count i n : ℕ) → i < count → count * (n + 1) ≤ length frame → count * n ≤ length init
    → out ≡ data_in i n frame ++ drop (i * n) init
    → v ≡ take (i * (n + 1) + n - i * (n + 1)) (drop (i * (n + 1)) frame)
    → put_mid (i * n) (i * n + n - i * n) out v ≡ data_in (i + 1) n frame ++ drop ((i + 1) * n) init
copy_next frame out init v count i n some hf ho e f =
    let at : ℕ = i * (n + 1) in
    let to : ℕ = i * n in
    let inf : at + (n + 1) ≤ length frame = within i count (n + 1) (length frame) some hf in
    let ino : to + n ≤ length init = within i count n (length init) some ho in
    let piece : List ℕ = take n (drop at frame) in
    let k : length piece ≡ n = length-take-le n (drop at frame) (omega (arith, length-drop at frame)) in
    let l : length (data_in i n frame) ≡ to = data_length i n frame (omega arith) in
    laid out init (data_in i n frame) piece to n e l ino k v (lent frame out v at to n (omega arith) (out_long out init (data_in i n frame) piece to n e l ino k) f)
    ∙ ap₂ ◌++◌ (sym (data_snoc i n at frame refl) ∙ ap (λ (j : ℕ). data_in j n frame) (next i))
    (ap (λ (j : ℕ). drop j init) (let s : to + n ≡ (i + 1) * n = omega (arith, suc-mul i n, ap (λ (j : ℕ). j * n) (next i)) in s))

pub write_next : (d out init v : List ℕ) (count i n c : ℕ) → i < count → count * n ≤ length d → count * (n + 1) ≤ length init
    → out ≡ framed i n d ++ drop (i * (n + 1)) init
    → v ≡ take (i * n + n - i * n) (drop (i * n) d)
    → c ≡ check_of (take (i * n + n - i * n) (drop (i * n) d))
    → set (put_mid (i * (n + 1)) (i * (n + 1) + n - i * (n + 1)) out v) (i * (n + 1) + n) c ≡ framed (i + 1) n d ++ drop ((i + 1) * (n + 1)) init
write_next d out init v count i n c some hd ho e f g =
    let at : ℕ = i * n in
    let to : ℕ = i * (n + 1) in
    let ind : at + n ≤ length d = within i count n (length d) some hd in
    let ino : to + (n + 1) ≤ length init = within i count (n + 1) (length init) some ho in
    let done : List ℕ = framed i n d in
    let piece : List ℕ = take n (drop at d) in
    let k : length piece ≡ n = length-take-le n (drop at d) (omega (arith, length-drop at d)) in
    let l : length done ≡ to = framed_length i n d (omega arith) in
    let h : to + n ≤ length init = omega arith in
    let check : c ≡ check_of piece = g ∙ ap (λ (j : ℕ). check_of (take j (drop at d))) (let s : at + n - at ≡ n = omega arith in s) in
    laid_check (put_mid to (to + n - to) out v) init (done ++ piece) (to + n) c
    (laid out init done piece to n e l h k v (lent d out v at to n ind (out_long out init done piece to n e l h k) f))
    (length-append done piece ∙ ap₂ ◌+◌ l k) (omega arith)
    ∙ ap₂ ◌++◌
    (ap (λ (j : ℕ). (done ++ piece) ++ (j ∷ [])) check ∙ append_assoc done piece (check_of piece ∷ []) ∙ sym (framed_snoc i n at d refl) ∙ ap (λ (j : ℕ). framed j n d) (next i))
    (ap (λ (j : ℕ). drop j init) (let s : to + n + 1 ≡ (i + 1) * (n + 1) = omega (arith, suc-mul i (n + 1), ap (λ (j : ℕ). j * (n + 1)) (next i)) in s))
