-- Where ports lie: each within the store, packed in table order, no two on one byte.
-- Assumes nothing.
use mathlib.Core.Path.{◌≡◌, refl, sym, ap, ap₂, ◌∙◌}
use mathlib.Core.Bool.{Bool, true, false, cond}
use mathlib.Core.List.{List, [], ◌∷◌, ◌++◌}
use Prim.Native.Nat.{ℕ, suc, ◌+◌, ◌≤◌, ◌<◌}
use native.Mathlib.Numerals.{add-one}
use native.Mathlib.Omega.{arith}
use borrow.Author.Tests.{eqb-true}
use lib.Dec.{eqb}
use lib.ListN.{length, get_or, take, drop}
use lib.Seq.{split_at, take-take, get_or-take, take-suc, length-take-le}
use Rattle.port_table.specs.declared.Port.{Port}
use Rattle.port_table.specs.Table.{port_bytes, table_bytes, before, place_of, offset_of, port_of, no_port}
use Rattle.port_table.proofs.Tables.{bytes_append, bytes_more, place_most}

before_take : (a : ℕ) (ps : List Port) → before a ps ≡ take (place_of a ps) ps
unfolding before
before_take a [] = refl
before_take a (p ∷ ps) = go (eqb p.address a) (before_take a ps)
  where
    go : (b : Bool) → before a ps ≡ take (place_of a ps) ps → cond b [] (p ∷ before a ps) ≡ take (length (cond b [] (p ∷ before a ps))) (p ∷ ps)
    go true ih = refl
    go false ih = ap (λ (l : List Port). p ∷ l) ih

-- the record that was found has the address
pub port_address : (a : ℕ) (ps : List Port) → place_of a ps < length ps → (port_of a ps).address ≡ a
unfolding before
port_address a [] h = absurd (omega arith)
port_address a (p ∷ ps) h = go (eqb p.address a) refl (port_address a ps) h
  where
    go : (b : Bool) → eqb p.address a ≡ b → (place_of a ps < length ps → (port_of a ps).address ≡ a)
        → length (cond b [] (p ∷ before a ps)) < suc (length ps) → (get_or (p ∷ ps) (length (cond b [] (p ∷ before a ps))) no_port).address ≡ a
    go true e ih h = eqb-true p.address a e
    go false e ih h = ih (omega arith)

-- the bytes of the first records: those before one of them, its own, and those after it
bytes_at : (ps : List Port) (i j : ℕ) → i < j → j ≤ length ps → table_bytes (take i ps) + port_bytes (get_or ps i no_port) ≤ table_bytes (take j ps)
unfolding table_bytes
bytes_at ps i j h m =
    let l : length (take j ps) ≡ j = length-take-le j ps m in
    let s : table_bytes (take j ps) ≡ table_bytes (take i ps ++ get_or ps i no_port ∷ drop (suc i) (take j ps)) =
    ap table_bytes (split_at (take j ps) i no_port (omega arith) ∙ ap₂ (λ (l : List Port) (p : Port). l ++ p ∷ drop (suc i) (take j ps)) (take-take i j ps (omega arith)) (get_or-take j ps i no_port h)) in
    omega (arith, bytes_append (take i ps) (get_or ps i no_port ∷ drop (suc i) (take j ps)))

-- "packed": all ports together take the store's first bytes, and each lies within them
pub within : (a : ℕ) (ps : List Port) → place_of a ps < length ps → offset_of a ps + port_bytes (port_of a ps) ≤ table_bytes ps
within a ps h =
    let m = bytes_at ps (place_of a ps) (length ps) h (omega arith) in
    let t : table_bytes (take (length ps) ps) ≡ table_bytes ps = ap table_bytes (lib.Seq.take-length ps) in
    omega (arith, ap table_bytes (before_take a ps))

-- "in table order": a port ends before a later one begins
pub in_order : (a b : ℕ) (ps : List Port) → place_of a ps < place_of b ps → offset_of a ps + port_bytes (port_of a ps) ≤ offset_of b ps
in_order a b ps h =
    let m = bytes_at ps (place_of a ps) (place_of b ps) h (place_most b ps) in
    omega (arith, ap table_bytes (before_take a ps), ap table_bytes (before_take b ps))

-- and the next one begins where it ends
pub next_to : (a b : ℕ) (ps : List Port) → place_of b ps ≡ place_of a ps + 1 → offset_of b ps ≡ offset_of a ps + port_bytes (port_of a ps)
next_to a b ps e =
    ap table_bytes (before_take b ps ∙ ap (λ (n : ℕ). take n ps) (e ∙ add-one (place_of a ps)) ∙ take-suc ps (place_of a ps) no_port (omega (arith, place_most b ps)))
    ∙ bytes_more (take (place_of a ps) ps) (port_of a ps) ∙ ap (λ (n : ℕ). n + port_bytes (port_of a ps)) (ap table_bytes (sym (before_take a ps)))

-- one place, one address
pub place_apart : (a b : ℕ) (ps : List Port) → place_of a ps < length ps → place_of a ps ≡ place_of b ps → a ≡ b
place_apart a b ps h e =
    sym (port_address a ps h) ∙ ap (λ (n : ℕ). (get_or ps n no_port).address) e ∙ port_address b ps (omega arith)
