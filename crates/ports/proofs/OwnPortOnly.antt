-- "A Process Data frame touches its own port only" (demand 2): the bytes outside the port its word names and all other
-- ages are as before; of an accepted one the port holds the data, and its age is 0.
-- Assumes nothing.
use mathlib.Core.Path.{◌≡◌, refl, sym, ap, ap₂, ◌∙◌}
use mathlib.Core.List.{List, [], ◌∷◌}
use mathlib.Core.Logic.{◌⊎◌, inl, inr}
use Prim.Native.Nat.{ℕ, ◌+◌, ◌-◌, ◌≤◌, ◌<◌}
use native.Mathlib.Decide.{dec_le}
use native.Mathlib.Omega.{arith}
use lib.ListN.{length, get_or, take, drop, length-set, length-drop}
use lib.Seq.{get_or-set_same, get_or-set_other, ext_get_or, get_or-take, get_or-drop, length-take-le}
use Rattle.refusals.specs.Told.{gives}
use Rattle.frames.specs.Words.{f_code_of, address}
use Rattle.rows.specs.Rows.{data_bytes}
use Rattle.frames.specs.Slave.{slave_data}
use Rattle.port_table.specs.declared.Port.{Port}
use Rattle.port_table.specs.Table.{port_bytes, table_bytes, place_of, offset_of, port_of}
use Rattle.port_table.proofs.Places.{within, in_order, place_apart}
use Rattle.ports.specs.Lent.{port_data}
use Rattle.ports.specs.Arriving.{arrive_refusal, arrive, arrive_store, arrive_ages}
use Rattle.ports.proofs.Frames.{slave_data_length}
use Rattle.ports.proofs.Outcomes.{accepted, either_way, without, Arrivable, arrivable}
use Rattle.ports.proofs.Bytes.{replaced_length, replaced_own, replaced_before, replaced_after}

-- parts of two lists that agree on them
same_part : (l m : List ℕ) (o n : ℕ) → length l ≡ length m → o + n ≤ length m → ((i : ℕ) → o ≤ i → i < o + n → get_or l i 0 ≡ get_or m i 0) → take n (drop o l) ≡ take n (drop o m)
same_part l m o n e h same =
    let dl : length (drop o l) ≡ length l - o = length-drop o l in
    let dm : length (drop o m) ≡ length m - o = length-drop o m in
    let tl : length (take n (drop o l)) ≡ n = length-take-le n (drop o l) (omega arith) in
    let tm : length (take n (drop o m)) ≡ n = length-take-le n (drop o m) (omega arith) in
    ext_get_or 0 _ _ (tl ∙ sym tm) (λ i k.
    let small : i < n = omega arith in
    get_or-take n (drop o l) i 0 small ∙ get_or-drop o l i 0 ∙ same (o + i) (omega arith) (omega arith) ∙ sym (get_or-take n (drop o m) i 0 small ∙ get_or-drop o m i 0))

module _ (ps : List Port) (store ages : List ℕ) (word : ℕ) (frame : List ℕ) where
  abbrev a : ℕ
  a = address word

  -- the frame's data has the port's bytes
  sized : (c : Arrivable ps store ages word frame) → length (slave_data (f_code_of word) frame) ≡ port_bytes (port_of a ps)
  sized c = slave_data_length (f_code_of word) frame c.long ∙ ap data_bytes (sym c.same_code)

  fitting : (c : Arrivable ps store ages word frame) → offset_of a ps + length (slave_data (f_code_of word) frame) ≤ length store
  fitting c = omega (arith, sized c, within a ps c.there, c.stored)

  pub store_length : length (arrive_store ps store ages word frame) ≡ length store
  unfolding arrive_store
  store_length = either_way (λ l. length l ≡ length store) (arrive_refusal ps store ages word frame) _ store (λ h. replaced_length (offset_of a ps) _ store (fitting (arrivable ps store ages word frame h))) refl

  pub ages_length : length (arrive_ages ps store ages word frame) ≡ length ages
  unfolding arrive_ages
  ages_length = either_way (λ l. length l ≡ length ages) (arrive_refusal ps store ages word frame) _ ages (λ h. length-set ages (place_of a ps) 0) refl

  -- every byte of the store outside that port
  pub other_bytes : (i : ℕ) → (i < offset_of a ps) ⊎ (offset_of a ps + port_bytes (port_of a ps) ≤ i) → get_or (arrive_store ps store ages word frame) i 0 ≡ get_or store i 0
  unfolding arrive_store
  other_bytes i out =
      either_way (λ l. get_or l i 0 ≡ get_or store i 0) (arrive_refusal ps store ages word frame) _ store
      (λ h. let c = arrivable ps store ages word frame h in elim out [
        | inl k ↦ replaced_before (offset_of a ps) _ store (fitting c) i k
        | inr k ↦ replaced_after (offset_of a ps) _ store (fitting c) i (omega (arith, sized c))
      ])
      refl

  -- and every other age
  pub other_ages : (i : ℕ) → (i ≡ place_of a ps → ⊥) → get_or (arrive_ages ps store ages word frame) i 0 ≡ get_or ages i 0
  unfolding arrive_ages
  other_ages i n = either_way (λ l. get_or l i 0 ≡ get_or ages i 0) (arrive_refusal ps store ages word frame) _ ages (λ h. get_or-set_other ages (place_of a ps) i 0 0 n) refl

  -- so every other port holds what it held, with its age
  pub other_ports : (b : ℕ) → (b ≡ a → ⊥) → place_of b ps < length ps → table_bytes ps ≤ length store
      → (port_data ps b (arrive_store ps store ages word frame) ≡ port_data ps b store) × (get_or (arrive_ages ps store ages word frame) (place_of b ps) 0 ≡ get_or ages (place_of b ps) 0)
  unfolding port_data
  other_ports b n there room = (
    same_part (arrive_store ps store ages word frame) store (offset_of b ps) (port_bytes (port_of b ps)) store_length (omega (arith, within b ps there)) (λ i low high. other_bytes i (outside i low high (dec_le (place_of a ps) (place_of b ps)))),
    other_ages (place_of b ps) apart,
  )
    where
      apart : place_of b ps ≡ place_of a ps → ⊥
      apart e = n (place_apart b a ps there e)

      outside : (i : ℕ) → offset_of b ps ≤ i → i < offset_of b ps + port_bytes (port_of b ps) → Dec (place_of a ps ≤ place_of b ps) → (i < offset_of a ps) ⊎ (offset_of a ps + port_bytes (port_of a ps) ≤ i)
      outside i low high (yes h) = inr (omega (arith, in_order a b ps (omega (arith, apart))))
      outside i low high (no h) = inl (omega (arith, in_order b a ps (omega arith)))

  module _ (ok : arrive ps store ages word frame ≡ gives (0 ∷ [])) where
    unrefused : arrive_refusal ps store ages word frame ≡ 0
    unfolding arrive
    unrefused = (accepted (arrive_refusal ps store ages word frame) (0 ∷ []) (0 ∷ []) ok).0

    -- an accepted frame's data is what the port holds
    pub own_data : port_data ps a (arrive_store ps store ages word frame) ≡ slave_data (f_code_of word) frame
    unfolding arrive_store port_data
    own_data =
        let c = arrivable ps store ages word frame unrefused in
        ap₂ (λ (n : ℕ) (l : List ℕ). take n (drop (offset_of a ps) l)) (sym (sized c)) (without (arrive_refusal ps store ages word frame) _ store unrefused)
        ∙ replaced_own (offset_of a ps) (slave_data (f_code_of word) frame) store (fitting c)

    -- with age 0
    pub own_age : get_or (arrive_ages ps store ages word frame) (place_of a ps) 0 ≡ 0
    unfolding arrive_ages
    own_age =
        let c = arrivable ps store ages word frame unrefused in
        ap (λ (l : List ℕ). get_or l (place_of a ps) 0) (without (arrive_refusal ps store ages word frame) _ ages unrefused)
        ∙ get_or-set_same ages (place_of a ps) 0 0 (omega (arith, c.there, c.all_ages))
