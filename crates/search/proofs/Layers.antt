-- The marks of one M from those of M - 1, byte by byte, down to the whole.
-- Assumes nothing.
use mathlib.Core.Path.{◌≡◌, refl, sym, ap, ap₂, ◌∙◌, subst}
use mathlib.Core.Bool.{Bool, true, false, cond, ◌&&◌, ◌||◌}
use mathlib.Core.List.{List, [], ◌∷◌}
use Prim.Native.Nat.{ℕ, zero, suc, ◌+◌, ◌-◌, ◌*◌, ◌/◌, ◌%◌, ◌^◌, ◌≤◌, ◌<◌}
use native.Mathlib.Omega.{arith}
use native.Mathlib.Decide.{dec_le}
use lib.Bits.{bit_or, bit_and}
use lib.Dec.{leb, lit≤}
use lib.ListN.{length, length-append, length-drop, length-set, length-replicate, get_or, get_or-eq_default, drop, set, replicate}
use lib.Pow.{pow_mono, pow-add}
use lib.Seq.{get_or-drop, get_or-set_same, get_or-set_other, drop-set-lt, ext_get_or}
use Rattle.groups.specs.Groups.{is_group}
use Rattle.groups.specs.Sets.{devices}
use Rattle.groups.proofs.Follow.{Group, is_group_lem, group_is, in_lower, in_upper}
use Rattle.groups.proofs.Powers.{at_most, cut}
use Rattle.groups.proofs.Costs.{halved}
use Rattle.search.specs.Searches.{in_set}
use Rattle.search.specs.Inside.{bit_of, mark_of, One, Two, Marked, Packed}
use Rattle.search.proofs.Bits.{or_bit, and_bit, bit_at, one_of, two_of, fold_one, fold_two, no_bit}

-- ---- how many devices the halves have
module _ (S : ℕ → Bool) where
  -- as many as both together
  pub half_sum : (m c : ℕ) → length (devices S (suc m) c) ≡ length (devices S m c) + length (devices S m (c + 2 ^ (12 - suc m)))
  half_sum m c = ap length (halved S m c) ∙ length-append (devices S m c) (devices S m (c + 2 ^ (12 - suc m)))

  -- one device: one where it has an event
  pub single-one : (c : ℕ) → leb 1 (length (devices S 0 c)) ≡ S c
  unfolding devices
  single-one c = go (S c)
    where
      go : (b : Bool) → leb 1 (length (cond b (c ∷ []) [])) ≡ b
      go true = refl
      go false = refl

  -- and never two
  pub single_two : (c : ℕ) → leb 2 (length (devices S 0 c)) ≡ false
  unfolding devices
  single_two c = go (S c)
    where
      go : (b : Bool) → leb 2 (length (cond b (c ∷ []) [])) ≡ false
      go true = refl
      go false = refl

-- ---- one M more
-- two runs of marks agree from a mark on
abbrev Same : List ℕ → List ℕ → ℕ → Type 0
Same l k from = (i : ℕ) → from ≤ i → in_set l i ≡ in_set k i

module _ (bytes : List ℕ) (n : ℕ) (h : suc n ≤ 12) where
  abbrev wide : ℕ
  wide = 2 ^ (12 - suc n)

  -- the marks of the groups up to M = n lie from 2^(12-n) on
  behind_all : (m c : ℕ) → m ≤ n → 2 ^ (12 - n) ≤ mark_of m c
  behind_all m c l = let p : 2 ^ (12 - n) ≤ 2 ^ (12 - m) = pow_mono (omega arith) in omega arith

  -- the groups up to M = n, and those of n + 1
  one_more_level : (P : ℕ → ℕ → Type 0) → ((m c : ℕ) → is_group m c ≡ true → m ≤ n → P m c) → ((c : ℕ) → Group (suc n) c → P (suc n) c) →
      (m c : ℕ) → is_group m c ≡ true → m ≤ suc n → P m c
  one_more_level P old new m c g l =
      elim (dec_le m n) [
        | yes k ↦ old m c g k
        | no k ↦ let e : m ≡ suc n = omega arith in
            subst (λ (i : ℕ). P i c) (sym e) (new c (subst (λ (i : ℕ). Group i c) e (group_is m c g)))
      ]

  module _ (any₀ any : List ℕ) (o : One bytes any₀ n) where
    -- each mark of M = n + 1 is set as either half's is
    pub next_one : Same any any₀ (2 ^ (12 - n)) → ((c : ℕ) → Group (suc n) c → in_set any (mark_of (suc n) c) ≡ in_set any₀ (mark_of n c) || in_set any₀ (mark_of n (c + wide))) →
        One bytes any (suc n)
    next_one s b =
        one_more_level (λ (m c : ℕ). in_set any (mark_of m c) ≡ leb 1 (length (devices (in_set bytes) m c))) (λ m c g l. s (mark_of m c) (behind_all m c l) ∙ o m c g l)
        (λ c g. b c g ∙ ap₂ ◌||◌ (o n c (is_group_lem n c (in_lower n c g)) (omega arith)) (o n (c + wide) (is_group_lem n _ (in_upper n c g)) (omega arith))
        ∙ sym (ap (leb 1) (half_sum (in_set bytes) n c) ∙ one_of (length (devices (in_set bytes) n c)) (length (devices (in_set bytes) n (c + wide)))))

    -- and where it is set as either half's is, or where both halves have one
    pub next_two : (two₀ two : List ℕ) → Two bytes two₀ n → Same two two₀ (2 ^ (12 - n)) →
        ((c : ℕ) → Group (suc n) c → in_set two (mark_of (suc n) c) ≡ (in_set two₀ (mark_of n c) || in_set two₀ (mark_of n (c + wide))) || (in_set any₀ (mark_of n c) && in_set any₀ (mark_of n (c + wide)))) →
        Two bytes two (suc n)
    next_two two₀ two t s b =
        one_more_level (λ (m c : ℕ). in_set two (mark_of m c) ≡ leb 2 (length (devices (in_set bytes) m c))) (λ m c g l. s (mark_of m c) (behind_all m c l) ∙ t m c g l)
        (λ c g.
        let lo = is_group_lem n c (in_lower n c g) in
        let hi = is_group_lem n _ (in_upper n c g) in
        b c g
        ∙ ap₂ ◌||◌ (ap₂ ◌||◌ (t n c lo (omega arith)) (t n (c + wide) hi (omega arith))) (ap₂ ◌&&◌ (o n c lo (omega arith)) (o n (c + wide) hi (omega arith)))
        ∙ sym (ap (leb 2) (half_sum (in_set bytes) n c) ∙ two_of (length (devices (in_set bytes) n c)) (length (devices (in_set bytes) n (c + wide)))))

-- ---- byte by byte
-- so many bytes of one M are done, each from those of its halves; the bytes behind them are as they were
pub record Layered (any₀ two₀ any two : List ℕ) (w i : ℕ) : Type 0 where
  pub any_length : length any ≡ 1024
  pub two_length : length two ≡ 1024
  pub any_kept : (s : ℕ) → 2 * w ≤ s → get_or any s 0 ≡ get_or any₀ s 0
  pub two_kept : (s : ℕ) → 2 * w ≤ s → get_or two s 0 ≡ get_or two₀ s 0
  pub any_done : (j : ℕ) → j < i → get_or any (w + j) 0 ≡ bit_or (get_or any₀ (2 * w + j) 0) (get_or any₀ (3 * w + j) 0)
  pub two_done : (j : ℕ) → j < i → get_or two (w + j) 0 ≡ bit_or (bit_or (get_or two₀ (2 * w + j) 0) (get_or two₀ (3 * w + j) 0)) (bit_and (get_or any₀ (2 * w + j) 0) (get_or any₀ (3 * w + j) 0))

-- no byte is done yet
pub none_done : (any two : List ℕ) (w : ℕ) → length any ≡ 1024 → length two ≡ 1024 → Layered any two any two w 0
none_done any two w a t = record {
  any_length = a;
  two_length = t;
  any_kept = λ s h. refl;
  two_kept = λ s h. refl;
  any_done = λ j h. absurd (omega arith);
  two_done = λ j h. absurd (omega arith);
}

-- a byte that is written is before those of the halves
behind : (l l₀ : List ℕ) (w i x : ℕ) → i < w → ((s : ℕ) → 2 * w ≤ s → get_or l s 0 ≡ get_or l₀ s 0) → (s : ℕ) → 2 * w ≤ s → get_or (set l (w + i) x) s 0 ≡ get_or l₀ s 0
behind l l₀ w i x h k s g = get_or-set_other l (w + i) s x 0 (λ (e : s ≡ w + i). omega arith) ∙ k s g

-- a byte more of a run
pub longer : (l : List ℕ) (w i x : ℕ) (f : ℕ → ℕ) → w + i < length l → x ≡ f i → ((j : ℕ) → j < i → get_or l (w + j) 0 ≡ f j) → (j : ℕ) → j < i + 1 → get_or (set l (w + i) x) (w + j) 0 ≡ f j
longer l w i x f h e d j g =
    elim (dec_le i j) [
      | yes k ↦ let q : j ≡ i = omega arith in rw q (get_or-set_same l (w + i) x 0 h ∙ e)
      | no k ↦ get_or-set_other l (w + i) (w + j) x 0 (λ (q : w + j ≡ w + i). omega arith) ∙ d j (omega arith)
    ]

module _ (any₀ two₀ any two : List ℕ) (w i : ℕ) (l : Layered any₀ two₀ any two w i) where
  -- a byte more of one M
  pub byte_done : i < w → w ≤ 256 → (x y : ℕ) → x ≡ bit_or (get_or any (2 * w + i) 0) (get_or any (3 * w + i) 0) →
      y ≡ bit_or (bit_or (get_or two (2 * w + i) 0) (get_or two (3 * w + i) 0)) (bit_and (get_or any (2 * w + i) 0) (get_or any (3 * w + i) 0)) →
      Layered any₀ two₀ (set any (w + i) x) (set two (w + i) y) w (i + 1)
  byte_done h k x y ex ey =
      let a₂ = l.any_kept (2 * w + i) (omega arith) in
      let a₃ = l.any_kept (3 * w + i) (omega arith) in
      let t₂ = l.two_kept (2 * w + i) (omega arith) in
      let t₃ = l.two_kept (3 * w + i) (omega arith) in
      let al = l.any_length in
      let tl = l.two_length in
      record {
        any_length = length-set any (w + i) x ∙ al;
        two_length = length-set two (w + i) y ∙ tl;
        any_kept = behind any any₀ w i x h l.any_kept;
        two_kept = behind two two₀ w i y h l.two_kept;
        any_done = longer any w i x (λ (j : ℕ). bit_or (get_or any₀ (2 * w + j) 0) (get_or any₀ (3 * w + j) 0)) (omega arith) (ex ∙ ap₂ bit_or a₂ a₃) l.any_done;
        two_done = longer two w i y (λ (j : ℕ). bit_or (bit_or (get_or two₀ (2 * w + j) 0) (get_or two₀ (3 * w + j) 0)) (bit_and (get_or any₀ (2 * w + j) 0) (get_or any₀ (3 * w + j) 0)))
            (omega arith) (ey ∙ ap₂ bit_or (ap₂ bit_or t₂ t₃) (ap₂ bit_and a₂ a₃)) l.two_done;
      }

-- the last bytes of a run, byte by byte
same_rest : (l l₀ : List ℕ) → length l ≡ 1024 → length l₀ ≡ 1024 → ((s : ℕ) → 512 ≤ s → get_or l s 0 ≡ get_or l₀ s 0) → drop 512 l ≡ drop 512 l₀
same_rest l l₀ e e₀ k =
    ext_get_or 0 (drop 512 l) (drop 512 l₀) (length-drop 512 l ∙ ap (λ (n : ℕ). n - 512) (e ∙ sym e₀) ∙ sym (length-drop 512 l₀))
    (λ i h. get_or-drop 512 l i 0 ∙ k (512 + i) (omega arith) ∙ sym (get_or-drop 512 l₀ i 0))

-- all of the set is copied
pub all_copied : (bytes any : List ℕ) → length bytes ≡ 512 → length any ≡ 1024 → ((j : ℕ) → j < 512 → get_or any (512 + j) 0 ≡ get_or bytes j 0) → drop 512 any ≡ bytes
all_copied bytes any b a d =
    let n : length (drop 512 any) ≡ 512 = length-drop 512 any ∙ ap (λ (n : ℕ). n - 512) a in
    ext_get_or 0 (drop 512 any) bytes (n ∙ sym b) (λ i h. get_or-drop 512 any i 0 ∙ d i (omega arith))

module _ (bytes any₀ two₀ any two : List ℕ) (w m : ℕ) (h : 1 ≤ m) (k : m ≤ 9) (p : w ≡ 2 ^ (9 - m)) (q : Marked bytes any₀ two₀ (m - 1)) (l : Layered any₀ two₀ any two w w) where
  -- w bytes are 8 * w marks: those of M = n₀ + 1
  abbrev n₀ : ℕ
  n₀ = m - 1

  wide_w : 2 ^ (12 - suc n₀) ≡ 8 * w
  wide_w = ap (λ (i : ℕ). 2 ^ i) (let s : 12 - suc n₀ ≡ 3 + (9 - m) = omega arith in s) ∙ pow-add 2 3 (9 - m) ∙ ap (λ (i : ℕ). 8 * i) (sym p)

  wide_2w : 2 ^ (12 - n₀) ≡ 16 * w
  wide_2w = ap (λ (i : ℕ). 2 ^ i) (let s : 12 - n₀ ≡ 4 + (9 - m) = omega arith in s) ∙ pow-add 2 4 (9 - m) ∙ ap (λ (i : ℕ). 16 * i) (sym p)

  -- bytes that were kept are marks that were kept
  same_marks : (r r₀ : List ℕ) → ((s : ℕ) → 2 * w ≤ s → get_or r s 0 ≡ get_or r₀ s 0) → Same r r₀ (2 ^ (12 - n₀))
  same_marks r r₀ s i h = ap (λ (x : ℕ). bit_of x (i % 8)) (s (i / 8) (omega (arith, wide_2w)))

  module _ (c : ℕ) (g : Group (suc n₀) c) where
    inside : c / 8 < w
    inside = let b = g.1 in omega (arith, wide_w)

    -- where the mark of {M, C} lies, and those of its halves
    here : (r : List ℕ) → in_set r (mark_of (suc n₀) c) ≡ bit_of (get_or r (w + c / 8) 0) (c % 8)
    here r = ap (in_set r) (let s : mark_of (suc n₀) c ≡ 8 * w + c = omega (arith, wide_w) in s) ∙ bit_at r w c

    lower : (r : List ℕ) → in_set r (mark_of n₀ c) ≡ bit_of (get_or r (2 * w + c / 8) 0) (c % 8)
    lower r = ap (in_set r) (let s : mark_of n₀ c ≡ 8 * (2 * w) + c = omega (arith, wide_2w) in s) ∙ bit_at r (2 * w) c

    upper : (r : List ℕ) → in_set r (mark_of n₀ (c + 2 ^ (12 - suc n₀))) ≡ bit_of (get_or r (3 * w + c / 8) 0) (c % 8)
    upper r = ap (in_set r) (let s : mark_of n₀ (c + 2 ^ (12 - suc n₀)) ≡ 8 * (3 * w) + c = omega (arith, wide_w, wide_2w) in s) ∙ bit_at r (3 * w) c

    -- what was done to the bytes, for one mark
    halves_one : in_set any (mark_of (suc n₀) c) ≡ in_set any₀ (mark_of n₀ c) || in_set any₀ (mark_of n₀ (c + 2 ^ (12 - suc n₀)))
    halves_one =
        here any ∙ ap (λ (x : ℕ). bit_of x (c % 8)) (l.any_done (c / 8) inside) ∙ or_bit (get_or any₀ (2 * w + c / 8) 0) (get_or any₀ (3 * w + c / 8) 0) (c % 8)
        ∙ ap₂ ◌||◌ (sym (lower any₀)) (sym (upper any₀))

    halves_two : in_set two (mark_of (suc n₀) c) ≡ (in_set two₀ (mark_of n₀ c) || in_set two₀ (mark_of n₀ (c + 2 ^ (12 - suc n₀)))) || (in_set any₀ (mark_of n₀ c) && in_set any₀ (mark_of n₀ (c + 2 ^ (12 - suc n₀))))
    halves_two =
        let t₂ = get_or two₀ (2 * w + c / 8) 0 in
        let t₃ = get_or two₀ (3 * w + c / 8) 0 in
        let a₂ = get_or any₀ (2 * w + c / 8) 0 in
        let a₃ = get_or any₀ (3 * w + c / 8) 0 in
        here two ∙ ap (λ (x : ℕ). bit_of x (c % 8)) (l.two_done (c / 8) inside) ∙ or_bit (bit_or t₂ t₃) (bit_and a₂ a₃) (c % 8)
        ∙ ap₂ ◌||◌ (or_bit t₂ t₃ (c % 8) ∙ ap₂ ◌||◌ (sym (lower two₀)) (sym (upper two₀))) (and_bit a₂ a₃ (c % 8) ∙ ap₂ ◌&&◌ (sym (lower any₀)) (sym (upper any₀)))

  -- all bytes of one M are done
  pub layer_done : Marked bytes any two m
  layer_done =
      let n : suc n₀ ≤ 12 = omega arith in
      let s : suc n₀ ≡ m = omega arith in
      let f : w ≤ 256 = let t : 2 ^ (9 - m) ≤ 2 ^ 8 = pow_mono {j = 8} (omega arith) in omega arith in
      record {
        any_length = l.any_length;
        two_length = l.two_length;
        whole = same_rest any any₀ l.any_length q.any_length (λ s h. l.any_kept s (omega arith)) ∙ q.whole;
        ones = subst (λ (x : ℕ). One bytes any x) s (next_one bytes n₀ n any₀ any q.ones (same_marks any any₀ l.any_kept) halves_one);
        twos = subst (λ (x : ℕ). Two bytes two x) s (next_two bytes n₀ n any₀ any q.ones two₀ two q.twos (same_marks two two₀ l.two_kept) halves_two);
      }

-- ---- M = 0: the set itself
get_or-zeros : (n i : ℕ) → ◌≡◌ {A = ℕ} (get_or (replicate n 0) i 0) 0
get_or-zeros zero i = refl
get_or-zeros (suc n) zero = refl
get_or-zeros (suc n) (suc i) = get_or-zeros n i

-- no mark is set behind 512 bytes
pub beyond : (l : List ℕ) (i : ℕ) → length l ≡ 512 → 4096 ≤ i → in_set l i ≡ false
beyond l i e h = no_bit _ (i % 8) (get_or-eq_default l 0 {n = i / 8} (omega arith))

-- the set as it was copied
pub set_marked : (any : List ℕ) → length any ≡ 1024 → Marked (drop 512 any) any (replicate 1024 0) 0
set_marked any a = record {
  any_length = a;
  two_length = length-replicate {A = ℕ} 1024 0;
  whole = refl;
  ones = λ m c g h. let z : 0 ≡ m = omega arith in subst (λ (i : ℕ). in_set any (mark_of i c) ≡ leb 1 (length (devices (in_set (drop 512 any)) i c))) z (one c);
  twos = λ m c g h. let z : 0 ≡ m = omega arith in subst (λ (i : ℕ). in_set (replicate 1024 0) (mark_of i c) ≡ leb 2 (length (devices (in_set (drop 512 any)) i c))) z (none c);
}
  where
    one : (c : ℕ) → in_set any (4096 + c) ≡ leb 1 (length (devices (in_set (drop 512 any)) 0 c))
    one c = bit_at any 512 c ∙ ap (λ (x : ℕ). bit_of x (c % 8)) (sym (get_or-drop 512 any (c / 8) 0)) ∙ sym (single-one (in_set (drop 512 any)) c)

    none : (c : ℕ) → in_set (replicate 1024 0) (4096 + c) ≡ leb 2 (length (devices (in_set (drop 512 any)) 0 c))
    none c = no_bit _ ((4096 + c) % 8) (get_or-zeros 1024 ((4096 + c) / 8)) ∙ sym (single_two (in_set (drop 512 any)) c)

-- ---- M = 10 to 12, in the first byte
-- the marks from 1 to 15, byte by byte of one M
pub record Top (l : List ℕ) (eight four two one : ℕ) : Type 0 where
  pub eights : (c : ℕ) → c < 8 → in_set l (8 + c) ≡ bit_of eight c
  pub fours : (c : ℕ) → c < 4 → in_set l (4 + c) ≡ bit_of four c
  pub twos : (c : ℕ) → c < 2 → in_set l (2 + c) ≡ bit_of two c
  pub ones : in_set l 1 ≡ bit_of one 0

-- a bit of the first byte
first_bit : (l : List ℕ) (byte i : ℕ) → get_or l 0 0 ≡ byte → i < 8 → in_set l i ≡ bit_of byte i
first_bit l byte i e h =
    let q : i / 8 ≡ 0 = omega arith in
    let r : i % 8 ≡ i = omega arith in
    rw (q, r, e) refl

-- the first byte, packed
topped : (l : List ℕ) (four two one byte : ℕ) → 2 ≤ length l → Packed four two one byte → Top (set l 0 byte) (get_or l 1 0) four two one
topped l four two one byte g p =
    let e : get_or (set l 0 byte) 0 0 ≡ byte = get_or-set_same l 0 byte 0 (omega arith) in
    let e₁ : get_or (set l 0 byte) 1 0 ≡ get_or l 1 0 = get_or-set_other l 0 1 byte 0 (λ (z : 1 ≡ 0). omega arith) in
    record {
      eights = λ c h.
          let q : (8 + c) / 8 ≡ 1 = omega arith in
          let r : (8 + c) % 8 ≡ c = omega arith in
          rw (q, r, e₁) refl;
      fours = λ c h. first_bit (set l 0 byte) byte (4 + c) e (omega arith) ∙ p.fours c h;
      twos = λ c h. first_bit (set l 0 byte) byte (2 + c) e (omega arith) ∙ p.twos c h;
      ones = first_bit (set l 0 byte) byte 1 e (lit≤ tt) ∙ p.ones;
    }

-- the marks of one M from the one byte of both halves, whose upper bits are shifted to the lower
module _ (w : ℕ) (any two : List ℕ) (x y : ℕ) (u : (c : ℕ) → c < w + w → in_set any (w + w + c) ≡ bit_of x c) (v : (c : ℕ) → c < w + w → in_set two (w + w + c) ≡ bit_of y c) (c : ℕ) (h : c < w) where
  either : in_set any (w + c) ≡ bit_of (bit_or x (x / 2 ^ w)) c → in_set any (w + c) ≡ in_set any (w + w + c) || in_set any (w + w + (c + w))
  either e = let s : w + c ≡ c + w = omega arith in e ∙ fold_one x w c ∙ ap₂ ◌||◌ (sym (u c (omega arith))) (ap (bit_of x) s ∙ sym (u (c + w) (omega arith)))

  crossed : in_set two (w + c) ≡ bit_of (bit_or (bit_or y (y / 2 ^ w)) (bit_and x (x / 2 ^ w))) c →
      in_set two (w + c) ≡ (in_set two (w + w + c) || in_set two (w + w + (c + w))) || (in_set any (w + w + c) && in_set any (w + w + (c + w)))
  crossed e =
      let s : w + c ≡ c + w = omega arith in
      let u₁ = sym (u c (omega arith)) in
      let u₂ = ap (bit_of x) s ∙ sym (u (c + w) (omega arith)) in
      let v₁ = sym (v c (omega arith)) in
      let v₂ = ap (bit_of y) s ∙ sym (v (c + w) (omega arith)) in
      e ∙ fold_two x y w c ∙ ap₂ ◌||◌ (ap₂ ◌||◌ v₁ v₂) (ap₂ ◌&&◌ u₁ u₂)

-- the one mark of M = 12
last : (l : List ℕ) (z : ℕ) → in_set l 1 ≡ bit_of z 0 → (c : ℕ) → c < 1 → in_set l (1 + c) ≡ bit_of z c
last l z e zero h = e
last l z e (suc c) h = absurd (omega arith)

-- a byte and its upper bits: either; and two in y, or one in both of x
abbrev fold₁ : ℕ → ℕ → ℕ
fold₁ x w = bit_or x (x / 2 ^ w)

abbrev fold₂ : ℕ → ℕ → ℕ → ℕ
fold₂ x y w = bit_or (bit_or y (y / 2 ^ w)) (bit_and x (x / 2 ^ w))

module _ (bytes any two : List ℕ) (x y : ℕ) (a : Top any x (fold₁ x 4) (fold₁ (fold₁ x 4) 2) (fold₁ (fold₁ (fold₁ x 4) 2) 1))
    (b : Top two y (fold₂ x y 4) (fold₂ (fold₁ x 4) (fold₂ x y 4) 2) (fold₂ (fold₁ (fold₁ x 4) 2) (fold₂ (fold₁ x 4) (fold₂ x y 4) 2) 1))
    (o : One bytes any 9) (t : Two bytes two 9) where
  -- M = 10, 11 and 12
  top_ones : (One bytes any 10) × (One bytes any 11) × (One bytes any 12)
  top_ones =
      let o₄ : One bytes any 10 = next_one bytes 9 (lit≤ tt) any any o (λ i h. refl) (λ c g. either 4 any two x y a.eights b.eights c g.1 (a.fours c g.1)) in
      let o₂ : One bytes any 11 = next_one bytes 10 (lit≤ tt) any any o₄ (λ i h. refl) (λ c g. either 2 any two _ _ a.fours b.fours c g.1 (a.twos c g.1)) in
      let o₁ : One bytes any 12 = next_one bytes 11 (lit≤ tt) any any o₂ (λ i h. refl) (λ c g. either 1 any two _ _ a.twos b.twos c g.1 (last any _ a.ones c g.1)) in
      (o₄, o₂, o₁)

  top_twos : Two bytes two 12
  top_twos =
      let t₄ : Two bytes two 10 = next_two bytes 9 (lit≤ tt) any any o two two t (λ i h. refl) (λ c g. crossed 4 any two x y a.eights b.eights c g.1 (b.fours c g.1)) in
      let t₂ : Two bytes two 11 = next_two bytes 10 (lit≤ tt) any any top_ones.0 two two t₄ (λ i h. refl) (λ c g. crossed 2 any two _ _ a.fours b.fours c g.1 (b.twos c g.1)) in
      next_two bytes 11 (lit≤ tt) any any top_ones.1 two two t₂ (λ i h. refl) (λ c g. crossed 1 any two _ _ a.twos b.twos c g.1 (last two _ b.ones c g.1))

-- the first byte has the marks below 8
same_but_first : (l : List ℕ) (x : ℕ) → Same (set l 0 x) l 8
same_but_first l x i h = ap (λ (y : ℕ). bit_of y (i % 8)) (get_or-set_other l 0 (i / 8) x 0 (λ (e : i / 8 ≡ 0). omega arith))

-- the marks up to M = 9 lie from 8 on
from_8 : (m c : ℕ) → m ≤ 9 → 8 ≤ mark_of m c
from_8 m c h = let p : 2 ^ 3 ≤ 2 ^ (12 - m) = pow_mono {i = 3} (omega arith) in omega arith

module _ (any two : List ℕ) (p r : ℕ) (q : Marked (drop 512 any) any two 9) where
  abbrev x₀ : ℕ
  x₀ = get_or any 1 0

  abbrev y₀ : ℕ
  y₀ = get_or two 1 0

  -- all marks
  pub top_marked : Packed (fold₁ x₀ 4) (fold₁ (fold₁ x₀ 4) 2) (fold₁ (fold₁ (fold₁ x₀ 4) 2) 1) p →
      Packed (fold₂ x₀ y₀ 4) (fold₂ (fold₁ x₀ 4) (fold₂ x₀ y₀ 4) 2) (fold₂ (fold₁ (fold₁ x₀ 4) 2) (fold₂ (fold₁ x₀ 4) (fold₂ x₀ y₀ 4) 2) 1) r →
      Marked (drop 512 any) (set any 0 p) (set two 0 r) 12
  top_marked pa pt =
      let a = topped any _ _ _ p (let k = q.any_length in omega arith) pa in
      let b = topped two _ _ _ r (let k = q.two_length in omega arith) pt in
      let o : One (drop 512 any) (set any 0 p) 9 = λ m c g h. same_but_first any p (mark_of m c) (from_8 m c h) ∙ q.ones m c g h in
      let t : Two (drop 512 any) (set two 0 r) 9 = λ m c g h. same_but_first two r (mark_of m c) (from_8 m c h) ∙ q.twos m c g h in
      record {
        any_length = length-set any 0 p ∙ q.any_length;
        two_length = length-set two 0 r ∙ q.two_length;
        whole = drop-set-lt 512 any 0 p (lit≤ tt);
        ones = (top_ones (drop 512 any) (set any 0 p) (set two 0 r) x₀ y₀ a b o t).2;
        twos = top_twos (drop 512 any) (set any 0 p) (set two 0 r) x₀ y₀ a b o t;
      }

-- where the marks end
pub marks_end : (m c : ℕ) → is_group m c ≡ true → mark_of m c < 8192
marks_end m c g = let n = (group_is m c g).1 in omega (arith, at_most (12 - m) (omega arith))

-- how many bytes the marks of one M take
pub layer_width : (m : ℕ) → 1 ≤ m → m ≤ 9 → 512 / 2 ^ m ≤ 256
layer_width m h k = let p : 2 ^ (9 - m) ≤ 2 ^ 8 = pow_mono {j = 8} (omega arith) in omega (arith, cut 9 m k)

-- marks of a set are those of their own last bytes
pub own : (bytes any two : List ℕ) (top : ℕ) → Marked bytes any two top → Marked (drop 512 any) any two top
own bytes any two top q = subst (λ (l : List ℕ). Marked l any two top) (sym q.whole) q
