-- Tables: the bytes of their records, their goodness, and the places of their ports.
-- Assumes nothing.
use mathlib.Core.Path.{◌≡◌, refl, sym, ap, ap₂, ◌∙◌}
use mathlib.Core.Bool.{Bool, true, false, cond, and-eq-true_iff}
use mathlib.Core.List.{List, [], ◌∷◌, ◌++◌}
use Prim.Native.Nat.{ℕ, suc, ◌+◌, ◌*◌, ◌≤◌, ◌<◌}
use native.Mathlib.Nat.{add-zero, zero-add, add_assoc}
use native.Mathlib.Omega.{arith}
use borrow.Author.Tests.{leb-true}
use lib.Dec.{eqb, leb}
use lib.ListN.{length}
use Rattle.rows.specs.Rows.{data_bytes}
use Rattle.rows.proofs.Rows.{bits_most}
use Rattle.port_table.specs.declared.Port.{Port}
use Rattle.port_table.specs.Table.{rising, good, port_bytes, table_bytes, before, place_of}

-- ---- truth values

pub by_cases {ℓ} : (b : Bool) {X : Type ℓ} → (b ≡ true → X) → (b ≡ false → X) → X
by_cases true f g = f refl
by_cases false f g = g refl

pub not_both : {b : Bool} {X : Type 0} → b ≡ true → b ≡ false → X
not_both t f = absurd (mathlib.Core.Bool.false≢true (sym f ∙ t))

-- ---- sizes

pub size_most : (f : ℕ) → data_bytes f ≤ 32
unfolding data_bytes
size_most f = omega (arith, bits_most f)

pub bytes_most : (ps : List Port) → table_bytes ps ≤ 32 * length ps
unfolding table_bytes
bytes_most [] = omega arith
bytes_most (p ∷ ps) = omega (arith, size_most p.f_code, bytes_most ps)

pub bytes_append : (ps qs : List Port) → table_bytes (ps ++ qs) ≡ table_bytes ps + table_bytes qs
unfolding table_bytes
bytes_append [] qs = sym (zero-add (table_bytes qs))
bytes_append (p ∷ ps) qs = ap (λ (n : ℕ). port_bytes p + n) (bytes_append ps qs) ∙ sym (add_assoc (port_bytes p) (table_bytes ps) (table_bytes qs))

pub bytes_more : (ps : List Port) (p : Port) → table_bytes (ps ++ p ∷ []) ≡ table_bytes ps + port_bytes p
unfolding table_bytes
bytes_more ps p = bytes_append ps (p ∷ []) ∙ ap (λ (n : ℕ). table_bytes ps + n) (add-zero (port_bytes p))

-- ---- goodness

pub good_split : (ps : List Port) → good ps ≡ true → (length ps ≤ 256) × (rising 0 ps ≡ true)
unfolding good
good_split ps h = let s = (and-eq-true_iff (leb (length ps) 256) (rising 0 ps)).0 h in (leb-true (length ps) 256 s.0, s.1)

-- ---- the place of a port

pub place_most : (a : ℕ) (ps : List Port) → place_of a ps ≤ length ps
unfolding before
place_most a [] = omega arith
place_most a (p ∷ ps) = by_cases (eqb p.address a)
    (λ t. let z : length (cond (eqb p.address a) [] (p ∷ before a ps)) ≡ 0 = simp t in omega arith)
    (λ f. let z : length (cond (eqb p.address a) [] (p ∷ before a ps)) ≡ suc (place_of a ps) = simp f in omega (arith, place_most a ps))

-- a port that was found stays where it is, whatever records follow
pub before_found : (a : ℕ) (ps qs : List Port) → place_of a ps < length ps → before a (ps ++ qs) ≡ before a ps
unfolding before
before_found a [] qs h = absurd (omega arith)
before_found a (p ∷ ps) qs h = by_cases (eqb p.address a)
    (λ t. ap₂ (λ (b : Bool) (l : List Port). cond b [] (p ∷ l)) t refl ∙ sym (ap (λ (b : Bool). cond b [] (p ∷ before a ps)) t))
    (λ f. let z : length (cond (eqb p.address a) [] (p ∷ before a ps)) ≡ suc (place_of a ps) = simp f in
    ap (λ (l : List Port). cond (eqb p.address a) [] (p ∷ l)) (before_found a ps qs (omega arith)))

-- a port that was not found is looked for in what follows
pub before_missed : (a : ℕ) (ps qs : List Port) → length ps ≤ place_of a ps → before a (ps ++ qs) ≡ ps ++ before a qs
unfolding before
before_missed a [] qs h = refl
before_missed a (p ∷ ps) qs h = by_cases (eqb p.address a)
    (λ t. let z : length (cond (eqb p.address a) [] (p ∷ before a ps)) ≡ 0 = simp t in absurd (omega arith))
    (λ f. let z : length (cond (eqb p.address a) [] (p ∷ before a ps)) ≡ suc (place_of a ps) = simp f in
    ap (λ (b : Bool). cond b [] (p ∷ before a (ps ++ qs))) f ∙ ap (λ (l : List Port). p ∷ l) (before_missed a ps qs (omega arith)))
