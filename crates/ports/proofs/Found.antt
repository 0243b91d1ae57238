-- What a walk of a good table found.
-- Assumes nothing.
use Rattle.std.proofs.Common.{ℕ, ◌+◌, ◌<◌, ◌≤◌, ◌≡◌, Bool, true, false, cond, refl, sym, ap, subst, ◌∙◌, arith, List, length, Some, None}
use Rattle.port_table.specs.declared.Port.{Port}
use Rattle.port_table.specs.declared.Place.{Place}
use Rattle.port_table.specs.declared.Seen.{Seen}
use Rattle.port_table.specs.Table.{port_bytes, place_of, offset_of, listed, port_of}
use Rattle.port_table.specs.Seen.{found_in, seen_of}
use Rattle.port_table.proofs.Walk.{shown_good}
use Rattle.port_table.proofs.Places.{within}
use Rattle.port_table.proofs.Tables.{size_most}
use borrow.Author.Tests.{ltb-true}

some_none : {A : Type 0} {x : A} → None ≡ Some x → ⊥
some_none e = let z : ◌≡◌ {A = ℕ} 0 1 = cc in omega arith

-- the place of the port with the address
abbrev pub there : ℕ → List Port → Place
there a ps = record { at = place_of a ps; offset = offset_of a ps; size = port_bytes (port_of a ps); port = port_of a ps }

found_none : (a : ℕ) (ps : List Port) → None ≡ found_in a ps → listed a ps ≡ false
found_none a ps = by (listed a ps)
  where
    by : (b : Bool) → None ≡ cond b (Some (there a ps)) None → b ≡ false
    by true e = absurd (some_none e)
    by false e = refl

found_some : (p : Place) (a : ℕ) (ps : List Port) → Some p ≡ found_in a ps → (listed a ps ≡ true) × (p ≡ there a ps)
found_some p a ps = by (listed a ps)
  where
    by : (b : Bool) → Some p ≡ cond b (Some (there a ps)) None → (b ≡ true) × (p ≡ there a ps)
    by true e = (refl, (let z : p ≡ there a ps = cc in z))
    by false e = absurd (some_none (sym e))

-- where no port was found
pub shown_none : (s : Seen) (a : ℕ) (ps : List Port) → Some s ≡ seen_of a ps → s.place ≡ None → listed a ps ≡ false
shown_none s a ps e n = found_none a ps (sym n ∙ ap (λ (t : Seen). t.place) (shown_good s a ps e).1)

-- and where one was
pub shown_at : (s : Seen) (p : Place) (a : ℕ) (ps : List Port) → Some s ≡ seen_of a ps → s.place ≡ Some p
    → (listed a ps ≡ true) × (p ≡ there a ps) × (p.at < s.count) × (p.offset + p.size ≤ s.bytes) × (p.size ≡ port_bytes p.port)
shown_at s p a ps e f =
    let g = (shown_good s a ps e).1 in
    let h = found_some p a ps (sym f ∙ ap (λ (t : Seen). t.place) g) in
    let l = ltb-true (place_of a ps) (length ps) h.0 in (
      h.0,
      h.1,
      subst (λ (q : Place). q.at < s.count) (sym h.1) (subst (λ (t : Seen). place_of a ps < t.count) (sym g) l),
      subst (λ (q : Place). q.offset + q.size ≤ s.bytes) (sym h.1) (subst (λ (t : Seen). offset_of a ps + port_bytes (port_of a ps) ≤ t.bytes) (sym g) (within a ps l)),
      subst (λ (q : Place). q.size ≡ port_bytes q.port) (sym h.1) refl,
    )

-- its size is its port's
pub sized : (s : Seen) (p : Place) (a : ℕ) (ps : List Port) → Some s ≡ seen_of a ps → s.place ≡ Some p → p.size ≡ port_bytes p.port
sized s p a ps e f = (shown_at s p a ps e f).4

-- at most 32 bytes
pub few_bytes : (s : Seen) (p : Place) (a : ℕ) (ps : List Port) → Some s ≡ seen_of a ps → s.place ≡ Some p → p.size < 65536
few_bytes s p a ps e f = omega (arith, sized s p a ps e f, size_most p.port.f_code)
