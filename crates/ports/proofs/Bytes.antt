-- Bytes put into the store and taken from it, as the code's parts of slices have them.
-- Assumes nothing.
use mathlib.Core.Path.{◌≡◌, refl, sym, ap, ap₂, ◌∙◌}
use mathlib.Core.List.{List, ◌++◌, append-nil}
use Prim.Native.Nat.{ℕ, ◌+◌, ◌-◌, ◌≤◌, ◌<◌}
use native.Mathlib.Omega.{arith}
use borrow.Rule.Slice.PartMut.{put_mid, put_same}
use lib.ListN.{length, length-append, get_or, take, drop, length-drop, drop_of_length-le, get_or-append}
use lib.Seq.{take_all, take-length, take_at, drop_at, drop-drop, length-take-le, get_or-take, get_or-drop, get_or-append-add}
use Rattle.std.specs.Prelude.{Some}
use Rattle.rows.specs.Rows.{data_bytes}
use Rattle.port_table.specs.declared.Port.{Port}
use Rattle.port_table.specs.declared.Place.{Place}
use Rattle.port_table.specs.declared.Seen.{Seen}
use Rattle.port_table.specs.Table.{table_bytes}
use Rattle.port_table.specs.Seen.{seen_of}
use Rattle.port_table.proofs.Tables.{bytes_most, good_split}
use Rattle.port_table.proofs.Walk.{shown_good}
use Rattle.ports.specs.Lent.{replaced}
use Rattle.ports.proofs.Found.{shown_at}

-- what a copy to the front of an output leaves
abbrev pub front : List ℕ → List ℕ → List ℕ
front src out = take (length src) src ++ drop (length src) out

pub front_is : (k n : ℕ) (l out : List ℕ) → length (take k l) ≡ n → k ≡ n → front (take k l) out ≡ take n l ++ drop n out
front_is k n l out e h = ap₂ ◌++◌ (take-length (take k l) ∙ ap (λ (i : ℕ). take i l) h) (ap (λ (i : ℕ). drop i out) e)

-- and the same, where so many bytes are all of the source
pub front_whole : (src : List ℕ) (n : ℕ) (out : List ℕ) → length src ≡ n → src ++ drop n out ≡ front src out
front_whole src n out e = ap₂ ◌++◌ (sym (take-length src)) (ap (λ (i : ℕ). drop i out) (sym e))

-- what a copy of a source leaves, for which there is room
pub front_fits : (src out : List ℕ) → length src ≤ length out → take (length out) src ++ drop (length src) out ≡ front src out
front_fits src out h = ap (λ (l : List ℕ). l ++ drop (length src) out) (take_all (length out) src h ∙ sym (take-length src))

-- the part of the store from a place on, and the store with another in its place
abbrev pub from : ℕ → List ℕ → List ℕ
from o store = take (length store - o) (drop o store)

abbrev pub put_from : ℕ → List ℕ → List ℕ → List ℕ
put_from o store v = put_mid o (length store - o) store v

pub from_room : (o n : ℕ) (store : List ℕ) → o + n ≤ length store → n ≤ length (from o store)
from_room o n store h =
    let d : length (drop o store) ≡ length store - o = length-drop o store in
    omega (arith, length-take-le (length store - o) (drop o store) (omega arith))

pub put_kept : (o : ℕ) (store v : List ℕ) → v ≡ from o store → put_from o store v ≡ store
put_kept o store v e = ap (put_from o store) e ∙ put_same o (length store - o) store

-- what a copy to that part leaves, with `v` the part afterwards
pub put_is : (store new v : List ℕ) (o : ℕ) → o + length new ≤ length store → v ≡ front new (from o store) → put_from o store v ≡ replaced o new store
unfolding replaced
put_is store new v o h e =
    ap (λ (z : List ℕ). take o store ++ z)
    (ap₂ ◌++◌
    (e ∙ ap₂ ◌++◌ (take-length new)
    (ap (drop (length new)) (take_all (length store - o) (drop o store) (let d : length (drop o store) ≡ length store - o = length-drop o store in omega arith))
    ∙ drop-drop (length new) o store))
    (drop-drop (length store - o) o store ∙ drop_of_length-le store {i = o + (length store - o)} (omega arith))
    ∙ append-nil (new ++ drop (o + length new) store))

pub part_length : (at size : ℕ) (l : List ℕ) → at + size ≤ length l → length (take (at + size - at) (drop at l)) ≡ size
part_length at size l h = let d : length (drop at l) ≡ length l - at = length-drop at l in length-take-le (at + size - at) (drop at l) (omega arith) ∙ (let z : at + size - at ≡ size = omega arith in z)

-- a port that a walk of a good table found lies within 8,192 bytes
pub place_small : (s : Seen) (p : Place) (a : ℕ) (ps : List Port) → Some s ≡ seen_of a ps → s.place ≡ Some p → (n : ℕ) → n ≡ data_bytes p.port.f_code → p.offset + n ≤ 8192
place_small s p a ps e f n k =
    let g = shown_good s a ps e in
    let h = shown_at s p a ps e f in
    let b : s.bytes ≡ table_bytes ps = ap (λ (t : Seen). t.bytes) g.1 in
    omega (arith, h.3, h.4, bytes_most ps, (good_split ps g.0).0)

-- ---- bytes replaced

module _ (o : ℕ) (new store : List ℕ) (h : o + length new ≤ length store) where
  front_length : length (take o store) ≡ o
  front_length = length-take-le o store (omega arith)

  pub replaced_length : length (replaced o new store) ≡ length store
  unfolding replaced
  replaced_length = omega (arith, length-append (take o store) (new ++ drop (o + length new) store), length-append new (drop (o + length new) store), length-drop (o + length new) store, front_length)

  pub replaced_own : take (length new) (drop o (replaced o new store)) ≡ new
  unfolding replaced
  replaced_own = ap (take (length new)) (drop_at (take o store) (new ++ drop (o + length new) store) o front_length) ∙ take_at new (drop (o + length new) store) (length new) refl

  pub replaced_before : (i : ℕ) → i < o → get_or (replaced o new store) i 0 ≡ get_or store i 0
  unfolding replaced
  replaced_before i k = get_or-append (take o store) (new ++ drop (o + length new) store) 0 i (omega (arith, front_length)) ∙ get_or-take o store i 0 k

  pub replaced_after : (i : ℕ) → o + length new ≤ i → get_or (replaced o new store) i 0 ≡ get_or store i 0
  unfolding replaced
  replaced_after i k =
      ap (λ (j : ℕ). get_or (take o store ++ (new ++ drop (o + length new) store)) j 0) (let e : i ≡ length (take o store) + (length new + (i - (o + length new))) = omega (arith, front_length) in e)
      ∙ get_or-append-add (take o store) (new ++ drop (o + length new) store) (length new + (i - (o + length new))) 0
      ∙ get_or-append-add new (drop (o + length new) store) (i - (o + length new)) 0
      ∙ get_or-drop (o + length new) store (i - (o + length new)) 0
      ∙ ap (λ (j : ℕ). get_or store j 0) (let e : o + length new + (i - (o + length new)) ≡ i = omega arith in e)
