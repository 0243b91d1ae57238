-- After an arrival and n ticks a sink's age is n, at most 65,535; ticks change no data and no source's age.
-- Assumes nothing.
use mathlib.Core.Path.{◌≡◌, refl, ap, ◌∙◌}
use mathlib.Core.Bool.{Bool, true, false, cond}
use mathlib.Core.List.{List, [], ◌∷◌, ◌++◌}
use Prim.Native.Nat.{ℕ, zero, suc, ◌+◌, ◌≤◌, ◌<◌, min}
use native.Mathlib.Omega.{arith}
use borrow.Author.Tests.{le-ltb}
use lib.ListN.{length, get_or, drop}
use Rattle.refusals.specs.Told.{gives}
use Rattle.frames.specs.Words.{f_code_of, address}
use Rattle.frames.specs.Slave.{slave_data}
use Rattle.port_table.specs.declared.Port.{Port}
use Rattle.port_table.specs.Table.{good, no_port, port_bytes, place_of, port_of, is_sink}
use Rattle.ports.specs.Arriving.{arrive_refusal, arrive, arrive_store, arrive_ages}
use Rattle.ports.specs.Reading.{read_refusal, read, read_out, read_age}
use Rattle.ports.specs.Ticking.{older, aged, tick_refusal, tick_ages}
use Rattle.ports.proofs.Ageing.{aged_length}
use Rattle.ports.proofs.Outcomes.{accepted, either_way, without, readable, arrivable}
use Rattle.ports.proofs.OwnPortOnly.{store_length, ages_length, own_data, own_age}

-- the ages after so many ticks
abbrev pub after_ticks : ℕ → List Port → List ℕ → List ℕ
after_ticks zero ps ages = ages
after_ticks (suc n) ps ages = tick_ages ps (after_ticks n ps ages)

-- ---- one tick

aged_source : (ps : List Port) (ages : List ℕ) (i : ℕ) → is_sink (get_or ps i no_port) ≡ false → get_or (aged ps ages) i 0 ≡ get_or ages i 0
unfolding aged
aged_source [] ages i h = refl
aged_source (p ∷ ps) [] i h = refl
aged_source (p ∷ ps) (age ∷ ages) zero h = ap (λ (b : Bool). cond b (older age) age) h
aged_source (p ∷ ps) (age ∷ ages) (suc i) h = aged_source ps ages i h

aged_sink : (ps : List Port) (ages : List ℕ) (i : ℕ) → is_sink (get_or ps i no_port) ≡ true → i < length ps → i < length ages → get_or (aged ps ages) i 0 ≡ older (get_or ages i 0)
unfolding aged
aged_sink [] ages i s h k = absurd (omega arith)
aged_sink (p ∷ ps) [] i s h k = absurd (omega arith)
aged_sink (p ∷ ps) (age ∷ ages) zero s h k = ap (λ (b : Bool). cond b (older age) age) s
aged_sink (p ∷ ps) (age ∷ ages) (suc i) s h k = aged_sink ps ages i s (omega arith) (omega arith)

-- ---- ticks

pub ticks_length : (n : ℕ) (ps : List Port) (ages : List ℕ) → length (after_ticks n ps ages) ≡ length ages
unfolding tick_ages
ticks_length zero ps ages = refl
ticks_length (suc n) ps ages =
    either_way (λ l. length l ≡ length ages) (tick_refusal ps (after_ticks n ps ages)) _ (after_ticks n ps ages) (λ h. aged_length ps (after_ticks n ps ages) ∙ ticks_length n ps ages) (ticks_length n ps ages)

-- "and no source's"
pub ticks_source : (n : ℕ) (ps : List Port) (ages : List ℕ) (i : ℕ) → is_sink (get_or ps i no_port) ≡ false → get_or (after_ticks n ps ages) i 0 ≡ get_or ages i 0
unfolding tick_ages
ticks_source zero ps ages i h = refl
ticks_source (suc n) ps ages i h =
    either_way (λ l. get_or l i 0 ≡ get_or ages i 0) (tick_refusal ps (after_ticks n ps ages)) _ (after_ticks n ps ages)
    (λ k. aged_source ps (after_ticks n ps ages) i h ∙ ticks_source n ps ages i h) (ticks_source n ps ages i h)

ticking : (ps : List Port) (ages : List ℕ) → good ps ≡ true → length ps ≤ length ages → tick_refusal ps ages ≡ 0
unfolding tick_refusal
ticking ps ages g h = simp (g, le-ltb (length ages) (length ps) h)

-- "every sink's age by 1, staying at 65,535", n times
pub ticks_sink : (n : ℕ) (ps : List Port) (ages : List ℕ) (i : ℕ) → good ps ≡ true → length ps ≤ length ages → is_sink (get_or ps i no_port) ≡ true → i < length ps → get_or ages i 0 ≤ 65535
    → get_or (after_ticks n ps ages) i 0 ≡ min (get_or ages i 0 + n) 65535
unfolding tick_ages
ticks_sink zero ps ages i g h s k low = omega arith
ticks_sink (suc n) ps ages i g h s k low =
    let l = ticks_length n ps ages in
    ap (λ (z : List ℕ). get_or z i 0) (without (tick_refusal ps (after_ticks n ps ages)) _ (after_ticks n ps ages) (ticking ps (after_ticks n ps ages) g (omega arith)))
    ∙ aged_sink ps (after_ticks n ps ages) i s k (omega arith)
    ∙ ap older (ticks_sink n ps ages i g h s k low) ∙ (let e : older (min (get_or ages i 0 + n) 65535) ≡ min (get_or ages i 0 + suc n) 65535 = omega arith in e)

-- ---- an arrival, then ticks, then a read

module _ (ps : List Port) (store ages : List ℕ) (word : ℕ) (frame : List ℕ) (ok : arrive ps store ages word frame ≡ gives (0 ∷ [])) (n : ℕ) where
  pub age_after : get_or (after_ticks n ps (arrive_ages ps store ages word frame)) (place_of (address word) ps) 0 ≡ min n 65535
  unfolding arrive
  age_after =
      let c = arrivable ps store ages word frame (accepted (arrive_refusal ps store ages word frame) (0 ∷ []) (0 ∷ []) ok).0 in
      let zero-age = own_age ps store ages word frame ok in
      ticks_sink n ps (arrive_ages ps store ages word frame) (place_of (address word) ps) c.table_is_good (omega (arith, c.all_ages, ages_length ps store ages word frame)) c.port_is_sink c.there (omega arith)
      ∙ (let e : min (get_or (arrive_ages ps store ages word frame) (place_of (address word) ps) 0 + n) 65535 ≡ min n 65535 = omega arith in e)

  -- so reads the application: the frame's data, and that age
  pub read_after : (back : List ℕ) (age : ℕ) → port_bytes (port_of (address word) ps) ≤ length back
      → (read_out ps (arrive_store ps store ages word frame) (after_ticks n ps (arrive_ages ps store ages word frame)) (address word) back ≡ slave_data (f_code_of word) frame ++ drop (port_bytes (port_of (address word) ps)) back)
      × (read_age ps (arrive_store ps store ages word frame) (after_ticks n ps (arrive_ages ps store ages word frame)) (address word) back age ≡ min n 65535)
  unfolding arrive read_out read_age
  read_after back age room =
      let c = arrivable ps store ages word frame (accepted (arrive_refusal ps store ages word frame) (0 ∷ []) (0 ∷ []) ok).0 in
      let store₁ = arrive_store ps store ages word frame in
      let ages₁ = after_ticks n ps (arrive_ages ps store ages word frame) in
      let l = ticks_length n ps (arrive_ages ps store ages word frame) in
      let z = readable ps store₁ ages₁ (address word) back c.table_is_good (omega (arith, c.stored, store_length ps store ages word frame)) (omega (arith, c.all_ages, ages_length ps store ages word frame)) c.there c.port_is_sink room in (
        without (read_refusal ps store₁ ages₁ (address word) back) _ back z ∙ ap (λ (d : List ℕ). d ++ drop (port_bytes (port_of (address word) ps)) back) (own_data ps store ages word frame ok),
        without (read_refusal ps store₁ ages₁ (address word) back) _ age z ∙ age_after,
      )

-- ticks change no answer of a read and no data that it gives
pub ticks_keep_data : (n : ℕ) (ps : List Port) (store ages : List ℕ) (a : ℕ) (out : List ℕ)
    → (read ps store (after_ticks n ps ages) a out ≡ read ps store ages a out) × (read_out ps store (after_ticks n ps ages) a out ≡ read_out ps store ages a out)
unfolding read read_out read_refusal
ticks_keep_data n ps store ages a out = let l = ticks_length n ps ages in (simp l, simp l)
