-- The walk: what it shows of the records that are left, and of all of them.
-- Assumes nothing.
use Rattle.std.proofs.Common.{ℕ, suc, ◌+◌, ◌<◌, ◌≤◌, ◌≡◌, refl, sym, ap, ap₂, ◌∙◌, arith, Bool, true, false, cond, ◌&&◌, List, [], ◌∷◌, length, get_or, eqb, ltb, leb, Option, Some, None}
use native.Mathlib.Nat.{zero-add}
use borrow.Author.Tests.{lt-ltb, le-ltb, le-leb, lt-leb, leb-true, ltb-true, ltb-false, eqb-true}
use Rattle.port_table.specs.declared.Port.{Port}
use Rattle.port_table.specs.declared.Place.{Place}
use Rattle.port_table.specs.declared.Seen.{Seen}
use Rattle.port_table.specs.Table.{rising, good, port_bytes, table_bytes, before, place_of, offset_of, port_of, no_port}
use Rattle.port_table.specs.Seen.{good_seen, seen_of}
use Rattle.port_table.proofs.Tables.{by_cases}

-- the place of a record that has the address, else what was found before
abbrev pub or_here : Place → Option Place → ℕ → Option Place
or_here p found a = cond (eqb p.port.address a) (Some p) found

-- of the records left: from so many records and bytes on, each address at least `low`, with what was found before
unfoldable pub walked : ℕ → ℕ → ℕ → ℕ → ℕ → Option Place → List Port → Option Seen
walked a n at low bytes place [] = cond (leb low 4096) (Some (record { count = n; bytes = bytes; place = place })) None
walked a n at low bytes place (p ∷ ps) =
    cond (leb low p.address && ltb p.f_code 5)
    (walked a n (at + 1) (p.address + 1) (bytes + port_bytes p) (or_here (record { at = at; offset = bytes; size = port_bytes p; port = p }) place a) ps) None

pub some_none : {A : Type 0} {x : A} → None ≡ Some x → ⊥
some_none e = let z : ◌≡◌ {A = ℕ} 0 1 = cc in omega arith

-- ---- what was found

-- a port that was found before has a lower address
abbrev Earlier : Option Place → ℕ → ℕ → Type 0
Earlier None a low = Unit
Earlier (Some p) a low = a < low

-- what was found before, else what is found now
abbrev or_else : Option Place → Option Place → Option Place
or_else None found = found
or_else (Some p) found = Some p

or_none : (place : Option Place) → or_else place None ≡ place
or_none None = refl
or_none (Some p) = refl

-- what is found among records that lie so many records and bytes behind the first
abbrev found_from : ℕ → ℕ → ℕ → List Port → Option Place
found_from at bytes a ps = cond (ltb (place_of a ps) (length ps)) (Some (record { at = at + place_of a ps; offset = bytes + offset_of a ps; size = port_bytes (port_of a ps); port = port_of a ps })) None

both_more : (m n : ℕ) → ltb (suc m) (suc n) ≡ ltb m n
both_more m n = by_cases (ltb m n) (λ t. lt-ltb (suc m) (suc n) (omega (arith, ltb-true m n t)) ∙ sym t) (λ f. le-ltb (suc m) (suc n) (omega (arith, ltb-false m n f)) ∙ sym f)

module _ (a at bytes low : ℕ) (place : Option Place) (p : Port) (ps : List Port) (h : Earlier place a low) (l : low ≤ p.address) where
  abbrev here : Place
  here = record { at = at; offset = bytes; size = port_bytes p; port = p }

  earlier_next : Earlier (or_here here place a) a (p.address + 1)
  earlier_next = by (eqb p.address a) refl
    where
      later : (q : Option Place) → Earlier q a low → Earlier q a (p.address + 1)
      later None h = h
      later (Some q) h = omega arith

      by : (b : Bool) → eqb p.address a ≡ b → Earlier (cond b (Some here) place) a (p.address + 1)
      by true e = omega (arith, eqb-true p.address a e)
      by false e = later place h

  found_next : or_else (or_here here place a) (found_from (at + 1) (bytes + port_bytes p) a ps) ≡ or_else place (found_from at bytes a (p ∷ ps))
  unfolding before table_bytes
  found_next = by (eqb p.address a) refl
    where
      from : Bool → Option Place
      from b =
          let bs : List Port = cond b [] (p ∷ before a ps) in
          cond (ltb (length bs) (length (p ∷ ps))) (Some (record { at = at + length bs; offset = bytes + table_bytes bs; size = port_bytes (get_or (p ∷ ps) (length bs) no_port); port = get_or (p ∷ ps) (length bs) no_port })) None

      first : (q : Option Place) → Earlier q a low → p.address ≡ a → Some here ≡ or_else q (from true)
      first None h e =
          ap₂ (λ (n o : ℕ). Some (record { at = n; offset = o; size = port_bytes p; port = p })) (let z : at ≡ at + 0 = omega arith in z) (let z : bytes ≡ bytes + 0 = omega arith in z)
          ∙ ap (λ (b : Bool). cond b (Some (record { at = at + 0; offset = bytes + 0; size = port_bytes p; port = p })) None) (sym (lt-ltb 0 (suc (length ps)) (omega arith)))
      first (Some q) h e = absurd (omega arith)

      by : (b : Bool) → eqb p.address a ≡ b → or_else (cond b (Some here) place) (found_from (at + 1) (bytes + port_bytes p) a ps) ≡ or_else place (from b)
      by true e = first place h (eqb-true p.address a e)
      by false e =
          ap₂ (λ (n o : ℕ). or_else place (cond (ltb (place_of a ps) (length ps)) (Some (record { at = n; offset = o; size = port_bytes (port_of a ps); port = port_of a ps })) None))
          (let z : at + 1 + place_of a ps ≡ at + suc (place_of a ps) = omega arith in z) (let z : bytes + port_bytes p + offset_of a ps ≡ bytes + (port_bytes p + offset_of a ps) = omega arith in z)
          ∙ ap (λ (b : Bool). or_else place (cond b (Some (record { at = at + suc (place_of a ps); offset = bytes + (port_bytes p + offset_of a ps); size = port_bytes (port_of a ps); port = port_of a ps })) None)) (sym (both_more (place_of a ps) (length ps)))

-- ---- the walk

apart : (a b c d : Bool) → (a && (b && (c && d))) ≡ ((a && c) && (b && d))
apart true true c d = refl
apart true false true d = refl
apart true false false d = refl
apart false b c d = refl

-- from an address above 4,095 on there is nothing to show
high : (a n at low bytes : ℕ) (place : Option Place) (ps : List Port) → 4096 < low → walked a n at low bytes place ps ≡ None
unfolding walked
high a n at low bytes place [] h = ap (λ (b : Bool). cond b (Some (record { count = n; bytes = bytes; place = place })) None) (lt-leb low 4096 h)
high a n at low bytes place (p ∷ ps) h =
    by (leb low p.address) refl (λ l. high a n (at + 1) (p.address + 1) (bytes + port_bytes p) (or_here (record { at = at; offset = bytes; size = port_bytes p; port = p }) place a) ps (omega arith))
  where
    next : Option Seen
    next = walked a n (at + 1) (p.address + 1) (bytes + port_bytes p) (or_here (record { at = at; offset = bytes; size = port_bytes p; port = p }) place a) ps

    by : (b : Bool) → leb low p.address ≡ b → (low ≤ p.address → next ≡ None) → cond (b && ltb p.f_code 5) next None ≡ None
    by true e ih = ap (λ (x : Option Seen). cond (ltb p.f_code 5) x None) (ih (leb-true low p.address e)) ∙ by_cases (ltb p.f_code 5) (λ t. ap (λ (b : Bool). cond b None None) t) (λ f. ap (λ (b : Bool). cond b None None) f)
    by false e ih = refl

rest : (a n at low bytes : ℕ) (place : Option Place) (ps : List Port) → low ≤ 4096 → Earlier place a low
    → walked a n at low bytes place ps ≡ cond (rising low ps) (Some (record { count = n; bytes = bytes + table_bytes ps; place = or_else place (found_from at bytes a ps) })) None
unfolding walked rising before table_bytes
rest a n at low bytes place [] l h =
    ap (λ (b : Bool). cond b (Some (record { count = n; bytes = bytes; place = place })) None) (le-leb low 4096 l)
    ∙ ap₂ (λ (b : ℕ) (q : Option Place). Some (record { count = n; bytes = b; place = q })) (let z : bytes ≡ bytes + 0 = omega arith in z) (sym (or_none place))
rest a n at low bytes place (p ∷ ps) l h =
    by fits (ltb p.address 4096) refl refl (λ e u. rest a n (at + 1) (p.address + 1) (bytes + port_bytes p) next ps (omega (arith, ltb-true p.address 4096 u)) (earlier_next a at bytes low place p ps h (above e)))
    ∙ ap (λ (b : Bool). cond b all None) (sym (apart (leb low p.address) (ltb p.address 4096) (ltb p.f_code 5) (rising (p.address + 1) ps)))
  where
    fits : Bool
    fits = leb low p.address && ltb p.f_code 5

    above : fits ≡ true → low ≤ p.address
    above e = leb-true low p.address (both _ e)
      where
        both : {b : Bool} (c : Bool) → (b && c) ≡ true → b ≡ true
        both {b = true} c h = refl
        both {b = false} c h = absurd (mathlib.Core.Bool.false≢true h)

    next : Option Place
    next = or_here (record { at = at; offset = bytes; size = port_bytes p; port = p }) place a

    all : Option Seen
    all = Some (record { count = n; bytes = bytes + table_bytes (p ∷ ps); place = or_else place (found_from at bytes a (p ∷ ps)) })

    walked_on : Option Seen
    walked_on = walked a n (at + 1) (p.address + 1) (bytes + port_bytes p) next ps

    by : (t u : Bool) → fits ≡ t → ltb p.address 4096 ≡ u
        → (fits ≡ true → ltb p.address 4096 ≡ true
        → walked_on ≡ cond (rising (p.address + 1) ps) (Some (record { count = n; bytes = bytes + port_bytes p + table_bytes ps; place = or_else next (found_from (at + 1) (bytes + port_bytes p) a ps) })) None)
        → cond t walked_on None ≡ cond (t && (u && rising (p.address + 1) ps)) all None
    by true true e u ih =
        ih e u
        ∙ ap₂ (λ (b : ℕ) (q : Option Place). cond (rising (p.address + 1) ps) (Some (record { count = n; bytes = b; place = q })) None)
        (let z : bytes + port_bytes p + table_bytes ps ≡ bytes + (port_bytes p + table_bytes ps) = omega arith in z) (found_next a at bytes low place p ps h (above e))
    by true false e u ih = high a n (at + 1) (p.address + 1) (bytes + port_bytes p) next ps (omega (arith, ltb-false p.address 4096 u))
    by false u e f ih = refl

pub walks : (a : ℕ) (ps : List Port) → length ps ≤ 256 → walked a (length ps) 0 0 0 None ps ≡ seen_of a ps
unfolding seen_of good
walks a ps h =
    rest a (length ps) 0 0 0 None ps (omega arith) tt
    ∙ ap (λ (b : ℕ). cond (rising 0 ps) (Some (record { count = length ps; bytes = b; place = found_from 0 0 a ps })) None) (zero-add (table_bytes ps))
    ∙ ap₂ (λ (n o : ℕ). cond (rising 0 ps) (Some (record { count = length ps; bytes = table_bytes ps; place = cond (ltb (place_of a ps) (length ps)) (Some (record { at = n; offset = o; size = port_bytes (port_of a ps); port = port_of a ps })) None })) None) (zero-add (place_of a ps)) (zero-add (offset_of a ps))
    ∙ ap (λ (b : Bool). cond (b && rising 0 ps) (Some (good_seen a ps)) None) (sym (le-leb (length ps) 256 h))

pub too_many : (a : ℕ) (ps : List Port) → 256 < length ps → None ≡ seen_of a ps
unfolding seen_of good
too_many a ps h = ap (λ (b : Bool). cond (b && rising 0 ps) (Some (good_seen a ps)) None) (sym (lt-leb (length ps) 256 h))

-- ---- what a walk showed

-- nothing of a table that is not good
pub shown_bad : (a : ℕ) (ps : List Port) → None ≡ seen_of a ps → good ps ≡ false
unfolding seen_of
shown_bad a ps = by (good ps)
  where
    by : (b : Bool) → None ≡ cond b (Some (good_seen a ps)) None → b ≡ false
    by true e = absurd (some_none e)
    by false e = refl

-- and all of a good one
pub shown_good : (s : Seen) (a : ℕ) (ps : List Port) → Some s ≡ seen_of a ps → (good ps ≡ true) × (s ≡ good_seen a ps)
unfolding seen_of
shown_good s a ps = by (good ps)
  where
    by : (b : Bool) → Some s ≡ cond b (Some (good_seen a ps)) None → (b ≡ true) × (s ≡ good_seen a ps)
    by true e = (refl, (let z : s ≡ good_seen a ps = cc in z))
    by false e = absurd (some_none (sym e))
