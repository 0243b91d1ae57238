-- The words that may be listed one after the other are those that obey the rules: listable, and no two that clash.
-- Assumes nothing.
use Prim.Native.Nat.{ℕ, zero, suc, ◌/◌, ◌%◌, ◌<◌}
use mathlib.Core.Path.{◌≡◌, refl, ap, sym, ◌∙◌, subst}
use mathlib.Core.Logic.{◌⊎◌, inl, inr, ⊎_elim}
use mathlib.Core.List.{List, [], ◌∷◌, ◌++◌, append_assoc, append-nil}
use mathlib.Core.Bool.{Bool, true, false, ◌&&◌, ◌||◌, and-eq-true_iff}
use native.Mathlib.Omega.{arith}
use borrow.Author.Tests.{lt-ltb, ltb-true, eq-eqb, eqb-true}
use lib.Dec.{ltb, eqb}
use lib.ListN.{length, get_or, take, length-append, get_or-append}
use lib.Seq.{get_or-take, get_or_at, length-take-le}
use Rattle.frames.specs.Words.{f_code_of, address}
use Rattle.lists.specs.Rules.{process_data, listable, clash, clashes}
use Rattle.list_laws.specs.Written.{All, Listable, Clash}
use Rattle.list_laws.proofs.WasLaws.{Fresh}

or_cases : (a b : Bool) → (a || b) ≡ true → (a ≡ true) ⊎ (b ≡ true)
or_cases true b e = inl refl
or_cases false b e = inr e

or-false : (a b : Bool) → (a || b) ≡ false → (a ≡ false) × (b ≡ false)
or-false true b e = let z : ◌≡◌ {A = ℕ} 0 1 = cc in absurd (omega arith)
or-false false b e = (refl, e)

or-true : (a : Bool) → (a || true) ≡ true
or-true true = refl
or-true false = refl

false_or_true : (b : Bool) → (b ≡ true → ⊥) → b ≡ false
false_or_true true h = absurd (h refl)
false_or_true false h = refl

pub listable_prop : (w : ℕ) → listable w ≡ true → Listable w
listable_prop w e = ⊎_elim (λ h. inl (ltb-true (w / 4096) 5 h)) (λ h. inr (eqb-true (w / 4096) 15 h)) (or_cases (process_data w) (eqb (f_code_of w) 15) e)

pub prop_listable : (w : ℕ) → Listable w → listable w ≡ true
prop_listable w p = ⊎_elim (λ h. rw (lt-ltb (w / 4096) 5 h)) (λ h. rw (eq-eqb (w / 4096) 15 h) (or-true (ltb (w / 4096) 5))) p

clash_prop : (v w : ℕ) → clash v w ≡ true → Clash v w
unfolding clash
clash_prop v w e =
    ⊎_elim
    (λ h.
    let a = (and-eq-true_iff (process_data v) (process_data w && eqb (address v) (address w))).0 h in
    let b = (and-eq-true_iff (process_data w) (eqb (address v) (address w))).0 a.1 in
    inl (ltb-true (v / 4096) 5 a.0, ltb-true (w / 4096) 5 b.0, eqb-true (v % 4096) (w % 4096) b.1))
    (λ h.
    let a = (and-eq-true_iff (eqb (f_code_of w) 15) (eqb v w)).0 h in
    inr (eqb-true (w / 4096) 15 a.0, eqb-true v w a.1))
    (or_cases (process_data v && (process_data w && eqb (address v) (address w))) (eqb (f_code_of w) 15 && eqb v w) e)

prop_clash : (v w : ℕ) → Clash v w → clash v w ≡ true
unfolding clash
prop_clash v w p =
    ⊎_elim
    (λ h. rw (lt-ltb (v / 4096) 5 h.0, lt-ltb (w / 4096) 5 h.1, eq-eqb (v % 4096) (w % 4096) h.2))
    (λ h. rw (eq-eqb (w / 4096) 15 h.0, eq-eqb v w h.1) (or-true (process_data v && (process_data w && eqb (address v) (address w)))))
    p

-- ---- against the words before
none_clash : (x : ℕ) (l : List ℕ) → clashes x l ≡ false → (i : ℕ) → i < length l → clash (get_or l i 0) x ≡ false
none_clash x [] e i h = absurd (omega arith)
none_clash x (v ∷ l) e zero h = (or-false (clash v x) (clashes x l) e).0
none_clash x (v ∷ l) e (suc i) h = none_clash x l (or-false (clash v x) (clashes x l) e).1 i (omega arith)

clash_none : (x : ℕ) (l : List ℕ) → ((i : ℕ) → i < length l → clash (get_or l i 0) x ≡ false) → clashes x l ≡ false
clash_none x [] h = refl
clash_none x (v ∷ l) h =
    let a : clash v x ≡ false = h 0 (omega arith) in
    let b : clashes x l ≡ false = clash_none x l (λ i q. h (suc i) (omega arith)) in
    rw (a, b)

fresh_at : (before ws : List ℕ) → Fresh before ws → (j : ℕ) → j < length ws → clashes (get_or ws j 0) (before ++ take j ws) ≡ false
fresh_at before [] f j h = absurd (omega arith)
fresh_at before (w ∷ ws) f zero h = ap (clashes w) (append-nil before) ∙ f.1
fresh_at before (w ∷ ws) f (suc j) h = ap (clashes (get_or ws j 0)) (sym (append_assoc before (w ∷ []) (take j ws))) ∙ fresh_at (before ++ w ∷ []) ws f.2 j (omega arith)

pub fresh_once : (ws : List ℕ) → Fresh [] ws → (i j : ℕ) → i < j → j < length ws → Clash (get_or ws i 0) (get_or ws j 0) → ⊥
fresh_once ws f i j h l p =
    let a : clashes (get_or ws j 0) (take j ws) ≡ false = fresh_at [] ws f j l in
    let n : length (take j ws) ≡ j = length-take-le j ws (omega arith) in
    let b : clash (get_or (take j ws) i 0) (get_or ws j 0) ≡ false = none_clash (get_or ws j 0) (take j ws) a i (omega arith) in
    let c : clash (get_or ws i 0) (get_or ws j 0) ≡ false = ap (λ (x : ℕ). clash x (get_or ws j 0)) (sym (get_or-take j ws i 0 h)) ∙ b in
    let d : clash (get_or ws i 0) (get_or ws j 0) ≡ true = prop_clash (get_or ws i 0) (get_or ws j 0) p in
    let z : ◌≡◌ {A = ℕ} 0 1 = cc in
    omega arith

once_from : (before ws : List ℕ) → All Listable ws
    → ((i j : ℕ) → i < j → j < length (before ++ ws) → Clash (get_or (before ++ ws) i 0) (get_or (before ++ ws) j 0) → ⊥) → Fresh before ws
once_from before [] a h = tt
once_from before (w ∷ ws) a h = (
  prop_listable w a.0,
  clash_none w before (λ i q. false_or_true (clash (get_or before i 0) w) (λ e.
      h i (length before) q (omega (arith, length-append before (w ∷ ws)))
      (subst (λ (x : ℕ). Clash x (get_or (before ++ w ∷ ws) (length before) 0)) (sym (get_or-append before (w ∷ ws) 0 i q))
      (subst (λ (x : ℕ). Clash (get_or before i 0) x) (sym (get_or_at before w ws 0 (length before) refl)) (clash_prop (get_or before i 0) w e))))),
  once_from (before ++ w ∷ []) ws a.1
      (subst (λ (l : List ℕ). (i j : ℕ) → i < j → j < length l → Clash (get_or l i 0) (get_or l j 0) → ⊥) (sym (append_assoc before (w ∷ []) ws)) h),
)

pub once_fresh : (ws : List ℕ) → All Listable ws → ((i j : ℕ) → i < j → j < length ws → Clash (get_or ws i 0) (get_or ws j 0) → ⊥) → Fresh [] ws
once_fresh ws a h = once_from [] ws a h

pub fresh_listable : (before ws : List ℕ) → Fresh before ws → All Listable ws
fresh_listable before [] f = tt
fresh_listable before (w ∷ ws) f = (listable_prop w f.0, fresh_listable (before ++ w ∷ []) ws f.2)
