-- Marks of listed words: a bit set for each, and two words clash exactly where their marks are one.
-- Assumes nothing.
use Prim.Native.Nat.{ℕ, zero, suc, ◌+◌, ◌*◌, ◌^◌, ◌/◌, ◌%◌, ◌≤◌, ◌<◌}
use mathlib.Core.Path.{◌≡◌, refl, ap, sym, ◌∙◌, subst}
use mathlib.Core.List.{List, [], ◌∷◌, ◌++◌}
use mathlib.Core.Bool.{Bool, true, false, not, ◌&&◌, ◌||◌}
use native.Mathlib.Nat.{zero-div}
use native.Mathlib.Omega.{arith}
use borrow.Author.Tests.{lt-ltb, le-ltb, ltb-true, eqb-true, eqb-false, eq-eqb, ne_eqb}
use lib.Dec.{eqb, eqb-zero-suc, eqb-suc-zero, eqb-suc-suc}
use lib.ListN.{length, get_or, set, length-set, length-replicate, replicate, get_or-replicate}
use lib.Pow.{shr-shr, shl_exact}
use lib.Seq.{get_or-set_same, get_or-set_other}
use Rattle.frames.specs.Words.{f_code_of, address}
use Rattle.lists.specs.Rules.{process_data, listable, clash, clashes}
use Rattle.lists.specs.Marks.{mark_by, mark_of, marked, bit, flag, AllListable, SeenIs}

-- ---- a bit of a number
half : (x j : ℕ) → x / 2 ^ suc j ≡ x / 2 / 2 ^ j
half x j = let e : suc j ≡ 1 + j = omega arith in ap (λ (k : ℕ). x / 2 ^ k) e ∙ sym (shr-shr x 1 j)

double : (k : ℕ) → 2 ^ suc k ≡ 2 * 2 ^ k
double k = omega arith

abbrev or_one : Bool → ℕ → ℕ
or_one true b = 1
or_one false b = b

set_bit : (k j x : ℕ) → bit k x ≡ 0 → bit j (x + 2 ^ k) ≡ or_one (eqb k j) (bit j x)
set_bit zero zero x h = omega arith
set_bit zero (suc j) x h =
    let e : (x + 1) / 2 ≡ x / 2 = omega arith in
    rw (half (x + 1) j, half x j, e, eqb-zero-suc j)
set_bit (suc k) zero x h = rw (eqb-suc-zero k) (omega (arith, double k))
set_bit (suc k) (suc j) x h =
    let e : (x + 2 ^ suc k) / 2 ≡ x / 2 + 2 ^ k = omega (arith, double k) in
    let i : bit k (x / 2) ≡ 0 = sym (ap (λ (y : ℕ). y % 2) (half x k)) ∙ h in
    rw (half (x + 2 ^ suc k) j, half x j, e, eqb-suc-suc k j) (set_bit k j (x / 2) i)

pub bit_fits : (k w x : ℕ) → k < w → x < 2 ^ w → bit k x ≡ 0 → x + 2 ^ k < 2 ^ w
bit_fits k zero x l h e = absurd (omega arith)
bit_fits zero (suc w) x l h e = omega (arith, double w)
bit_fits (suc k) (suc w) x l h e =
    let i : bit k (x / 2) ≡ 0 = sym (ap (λ (y : ℕ). y % 2) (half x k)) ∙ e in
    let r : x / 2 + 2 ^ k < 2 ^ w = bit_fits k w (x / 2) (omega arith) (omega (arith, double w)) i in
    omega (arith, double w, double k)

pub one_bit : (k : ℕ) → k < 32 → 1 * 2 ^ k % 4294967296 ≡ 2 ^ k
one_bit k h = shl_exact 1 k 32 (omega arith) (omega arith) ∙ omega arith

-- ---- marks
pub no_marks : SeenIs (replicate 256 0) []
no_marks =
    record {
      long = length-replicate {A = ℕ} 256 0;
      all = tt;
      at = λ m h. let q : m / 32 < 256 = omega arith in ap (bit (m % 32)) (get_or-replicate {A = ℕ} 256 (m / 32) 0 0 q) ∙ ap (λ (x : ℕ). x % 2) (zero-div (2 ^ (m % 32)));
    }

pub mark_process : (w : ℕ) → w < 20480 → (w % 4096 ≡ mark_of w) × (w % 4096 < 8192)
unfolding mark_of
mark_process w h = (simp (lt-ltb (w / 4096) 5 (omega arith)), omega arith)

pub mark_status : (w : ℕ) → 20480 ≤ w → (4096 + w % 4096 ≡ mark_of w) × (4096 + w % 4096 < 8192)
unfolding mark_of
mark_status w h = (simp (le-ltb (w / 4096) 5 (omega arith)), omega arith)

same_test : (a b c d : ℕ) → (a ≡ b → c ≡ d) → (c ≡ d → a ≡ b) → eqb a b ≡ eqb c d
same_test a b c d f g = go (eqb a b) refl
  where
    go : (t : Bool) → eqb a b ≡ t → eqb a b ≡ eqb c d
    go true e = e ∙ sym (eq-eqb c d (f (eqb-true a b e)))
    go false e = e ∙ sym (ne_eqb c d (λ q. eqb-false a b e (g q)))

or-false : (a : Bool) → (a || false) ≡ a
or-false true = refl
or-false false = refl

or_assoc : (a b c : Bool) → ((a || b) || c) ≡ (a || (b || c))
or_assoc true b c = refl
or_assoc false b c = refl

or-true : (a : Bool) → (a || true) ≡ true
or-true true = refl
or-true false = refl

status : (w : ℕ) → listable w ≡ true → process_data w ≡ false → f_code_of w ≡ 15
status w l p = eqb-true (w / 4096) 15 (sym (ap (λ (b : Bool). b || eqb (w / 4096) 15) p) ∙ l)

clash_mark : (v w : ℕ) → listable v ≡ true → listable w ≡ true → clash v w ≡ eqb (mark_of v) (mark_of w)
unfolding clash mark_of
clash_mark v w lv lw = go (process_data v) (process_data w) refl refl
  where
    go : (a b : Bool) → process_data v ≡ a → process_data w ≡ b
        → ((a && (b && eqb (address v) (address w))) || (eqb (f_code_of w) 15 && eqb v w)) ≡ eqb (mark_by a (v % 4096)) (mark_by b (w % 4096))
    go true true p q =
        let f : eqb (f_code_of w) 15 ≡ false = ne_eqb (f_code_of w) 15 (λ e. absurd (omega (arith, ltb-true (f_code_of w) 5 q))) in
        rw f (or-false (eqb (address v) (address w)))
    go true false p q =
        let f : f_code_of w ≡ 15 = status w lw q in
        let n : f_code_of v < 5 = ltb-true (f_code_of v) 5 p in
        let d : eqb v w ≡ false = ne_eqb v w (λ e. absurd (omega (arith, ap f_code_of e))) in
        let m : eqb (v % 4096) (4096 + w % 4096) ≡ false = ne_eqb (v % 4096) (4096 + w % 4096) (λ e. absurd (omega arith)) in
        rw (eq-eqb (f_code_of w) 15 f, d, m)
    go false true p q =
        let f : eqb (f_code_of w) 15 ≡ false = ne_eqb (f_code_of w) 15 (λ e. absurd (omega (arith, ltb-true (f_code_of w) 5 q))) in
        let m : eqb (4096 + v % 4096) (w % 4096) ≡ false = ne_eqb (4096 + v % 4096) (w % 4096) (λ e. absurd (omega arith)) in
        rw (f, m)
    go false false p q =
        let f : f_code_of v ≡ 15 = status v lv p in
        let g : f_code_of w ≡ 15 = status w lw q in
        rw (eq-eqb (f_code_of w) 15 g) (same_test v w (4096 + v % 4096) (4096 + w % 4096) (λ e. ap (λ (x : ℕ). 4096 + x % 4096) e) (λ e. omega arith))

pub clashes_marked : (w : ℕ) (ws : List ℕ) → listable w ≡ true → AllListable ws → clashes w ws ≡ marked (mark_of w) ws
clashes_marked w [] l a = refl
clashes_marked w (v ∷ ws) l a = rw (clash_mark v w a.0 l, clashes_marked w ws l a.1)

marked_snoc : (m : ℕ) (ws : List ℕ) (w : ℕ) → marked m (ws ++ w ∷ []) ≡ (marked m ws || eqb (mark_of w) m)
marked_snoc m [] w = or-false (eqb (mark_of w) m)
marked_snoc m (v ∷ ws) w =
    ap (λ (t : Bool). eqb (mark_of v) m || t) (marked_snoc m ws w) ∙ sym (or_assoc (eqb (mark_of v) m) (marked m ws) (eqb (mark_of w) m))

pub listable_snoc : (ws : List ℕ) (w : ℕ) → AllListable ws → listable w ≡ true → AllListable (ws ++ w ∷ [])
listable_snoc [] w a l = (l, tt)
listable_snoc (v ∷ ws) w a l = (a.0, listable_snoc ws w a.1 l)

flag_one : (t : Bool) → flag t ≡ 1 → t ≡ true
flag_one true h = refl
flag_one false h = absurd (omega arith)

flag_zero : (t : Bool) → flag t ≡ 0 → t ≡ false
flag_zero true h = absurd (omega arith)
flag_zero false h = refl

module _ (seen ws : List ℕ) (w m : ℕ) (l : listable w ≡ true) (k : SeenIs seen ws) (e : m ≡ mark_of w) (b : m < 8192) where
  pub clashing : bit (m % 32) (get_or seen (m / 32) 0) ≡ 1 → clashes w ws ≡ true
  clashing h = clashes_marked w ws l k.all ∙ ap (λ (x : ℕ). marked x ws) (sym e) ∙ flag_one (marked m ws) (sym (k.at m b) ∙ h)

  pub fresh : bit (m % 32) (get_or seen (m / 32) 0) ≡ 0 → clashes w ws ≡ false
  fresh h = clashes_marked w ws l k.all ∙ ap (λ (x : ℕ). marked x ws) (sym e) ∙ flag_zero (marked m ws) (sym (k.at m b) ∙ h)

  module _ (h : bit (m % 32) (get_or seen (m / 32) 0) ≡ 0) where
    v : ℕ
    v = get_or seen (m / 32) 0 + 2 ^ (m % 32)

    there : m / 32 < length seen
    there = omega (arith, k.long)

    -- the bit of a mark n, where its number is the one that was written and where it is not
    here : (n : ℕ) → n < 8192 → n / 32 ≡ m / 32 → (t : Bool) → eqb m n ≡ t → bit (n % 32) (get_or (set seen (m / 32) v) (n / 32) 0) ≡ flag (marked n ws || t)
    unfolding v
    here n q s true d =
        let i : m ≡ n = eqb-true m n d in
        subst (λ (x : ℕ). bit (x % 32) (get_or (set seen (m / 32) v) (x / 32) 0) ≡ flag (marked n ws || true)) i
        (ap (bit (m % 32)) (get_or-set_same seen (m / 32) v 0 there) ∙ set_bit (m % 32) (m % 32) (get_or seen (m / 32) 0) h
        ∙ ap (λ (y : Bool). or_one y (bit (m % 32) (get_or seen (m / 32) 0))) (eq-eqb (m % 32) (m % 32) refl) ∙ sym (ap flag (or-true (marked n ws))))
    here n q s false d =
        let i : (m % 32 ≡ n % 32 → ⊥) = λ z. eqb-false m n d (omega arith) in
        ap (λ (x : ℕ). bit (n % 32) (get_or (set seen (m / 32) v) x 0)) s
        ∙ ap (bit (n % 32)) (get_or-set_same seen (m / 32) v 0 there) ∙ set_bit (m % 32) (n % 32) (get_or seen (m / 32) 0) h
        ∙ ap (λ (y : Bool). or_one y (bit (n % 32) (get_or seen (m / 32) 0))) (ne_eqb (m % 32) (n % 32) i)
        ∙ ap (λ (x : ℕ). bit (n % 32) (get_or seen x 0)) (sym s) ∙ k.at n q ∙ sym (ap flag (or-false (marked n ws)))

    bits : (n : ℕ) → n < 8192 → bit (n % 32) (get_or (set seen (m / 32) v) (n / 32) 0) ≡ flag (marked n ws || eqb m n)
    bits n q = go (eqb (n / 32) (m / 32)) refl
      where
        go : (t : Bool) → eqb (n / 32) (m / 32) ≡ t → bit (n % 32) (get_or (set seen (m / 32) v) (n / 32) 0) ≡ flag (marked n ws || eqb m n)
        go true d = here n q (eqb-true (n / 32) (m / 32) d) (eqb m n) refl
        go false d =
            let i : (n / 32 ≡ m / 32 → ⊥) = eqb-false (n / 32) (m / 32) d in
            let o : eqb m n ≡ false = ne_eqb m n (λ z. i (ap (λ (x : ℕ). x / 32) (sym z))) in
            ap (bit (n % 32)) (get_or-set_other seen (m / 32) (n / 32) v 0 i) ∙ k.at n q ∙ sym (ap flag (ap (λ (t : Bool). marked n ws || t) o ∙ or-false (marked n ws)))

    pub noted : SeenIs (set seen (m / 32) (get_or seen (m / 32) 0 + 2 ^ (m % 32))) (ws ++ w ∷ [])
    unfolding v
    noted =
        record {
          long = length-set seen (m / 32) v ∙ k.long;
          all = listable_snoc ws w k.all l;
          at = λ n q. bits n q ∙ sym (ap flag (marked_snoc n ws w ∙ ap (λ (x : ℕ). marked n ws || eqb x n) (sym e)));
        }

-- the ways out of `note`
module _ (seen : List ℕ) (w m : ℕ) (l : listable w ≡ true) (e : m ≡ mark_of w) (b : m < 8192) where
  pub old : get_or seen (m / 32) 0 / 2 ^ (m % 32) % 2 ≡ 1 → (seen' ws : List ℕ) → SeenIs seen ws → (false ≡ not (clashes w ws)) × (false ≡ true → SeenIs seen' (ws ++ w ∷ []))
  old h seen' ws k = (sym (ap not (clashing seen ws w m l k e b h)), λ z. let y : ◌≡◌ {A = ℕ} 0 1 = cc in absurd (omega arith))

  module _ (h : get_or seen (m / 32) 0 / 2 ^ (m % 32) % 2 ≡ 1 → ⊥) where
    clear : bit (m % 32) (get_or seen (m / 32) 0) ≡ 0
    clear = go (get_or seen (m / 32) 0 / 2 ^ (m % 32)) h
      where
        go : (x : ℕ) → (x % 2 ≡ 1 → ⊥) → x % 2 ≡ 0
        go x q = omega arith

    pub new_fits : get_or seen (m / 32) 0 < 4294967296 → get_or seen (m / 32) 0 + 1 * 2 ^ (m % 32) % 4294967296 < 4294967296
    new_fits f =
        let s : m % 32 < 32 = omega arith in
        rw (one_bit (m % 32) s) (bit_fits (m % 32) 32 (get_or seen (m / 32) 0) s f clear)

    pub new : (ws : List ℕ) → SeenIs seen ws
        → (true ≡ not (clashes w ws)) × (true ≡ true → SeenIs (set seen (m / 32) (get_or seen (m / 32) 0 + 1 * 2 ^ (m % 32) % 4294967296)) (ws ++ w ∷ []))
    new ws k =
        let s : m % 32 < 32 = omega arith in
        (sym (ap not (fresh seen ws w m l k e b clear)), λ z. rw (one_bit (m % 32) s) (noted seen ws w m l k e b clear))
