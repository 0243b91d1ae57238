-- The ages of a tick, record after record from the first, by the records' bits.
-- Assumes nothing.
use mathlib.Core.Path.{◌≡◌, refl, sym, ap, ◌∙◌}
use mathlib.Core.Bool.{Bool, true, false, cond}
use mathlib.Core.List.{List, [], ◌∷◌}
use Prim.Native.Nat.{ℕ, zero, suc, ◌+◌, ◌-◌, ◌*◌, ◌/◌, ◌%◌, ◌^◌, ◌≤◌, ◌<◌}
use native.Mathlib.Decide.{dec_le}
use native.Mathlib.Nat.{div-one, pow-zero}
use native.Mathlib.Omega.{arith}
use lib.Bits.{bit_and, and_high}
use lib.Dec.{eqb}
use lib.ListN.{length, get_or, set, take, drop}
use lib.Pow.{pow_pos, pow-add, shr-shr, field, mod-mod-pow}
use lib.Seq.{take_all, drop-cons}
use borrow.Author.Tests.{ne_eqb, le-ltb}
use Rattle.std.proofs.Common.{Some}
use Rattle.refusals.specs.Told.{gives}
use Rattle.checks.specs.Bits.{one}
use Rattle.port_table.specs.declared.Port.{Port}
use Rattle.port_table.specs.declared.Tested.{Tested}
use Rattle.port_table.specs.Table.{no_port, is_sink}
use Rattle.port_table.specs.Tested.{sink_bits, sinks_part, tested_of}
use Rattle.port_table.proofs.Back.{one_most}
use Rattle.port_table.proofs.Told.{part_at, tested_good, tested_few}
use Rattle.ports.specs.Ticking.{older, aged, tick_refusal, tick, tick_ages}
use Rattle.ports.specs.Inside.{older_by, part_end, AgedRun}
use Rattle.ports.proofs.Order.{answered_yes, changed}

-- the first record's bit is the lowest
bits_first : (p : Port) (ps : List Port) → sink_bits (p ∷ ps) % 2 ≡ one (is_sink p)
unfolding sink_bits
bits_first p ps = let h = one_most (is_sink p) in omega arith

-- and above it are the others'
bits_rest : (p : Port) (ps : List Port) → sink_bits (p ∷ ps) / 2 ≡ sink_bits ps
unfolding sink_bits
bits_rest p ps = let h = one_most (is_sink p) in omega arith

pub aged_length : (ps : List Port) (ages : List ℕ) → length (aged ps ages) ≡ length ages
unfolding aged
aged_length [] ages = refl
aged_length (p ∷ ps) [] = refl
aged_length (p ∷ ps) (age ∷ ages) = ap suc (aged_length ps ages)

-- no record, no other age
pub aged_none : (ps : List Port) (ages : List ℕ) → ages ≡ aged (take 0 ps) ages
unfolding aged
aged_none ps ages = refl

-- one record more
aged_next : (ps : List Port) (ages : List ℕ) (i : ℕ) → i < length ps → i < length ages
    → set (aged (take i ps) ages) i (older_by (one (is_sink (get_or ps i no_port))) (get_or (aged (take i ps) ages) i 0)) ≡ aged (take (suc i) ps) ages
unfolding aged
aged_next [] ages i h k = absurd (omega arith)
aged_next (p ∷ ps) [] i h k = absurd (omega arith)
aged_next (p ∷ ps) (age ∷ ages) zero h k = ap (λ (a : ℕ). a ∷ ages) (by_bit (is_sink p))
  where
    by_bit : (b : Bool) → older_by (one b) age ≡ cond b (older age) age
    by_bit true = refl
    by_bit false = refl
aged_next (p ∷ ps) (age ∷ ages) (suc i) h k = ap (λ (l : List ℕ). cond (is_sink p) (older age) age ∷ l) (aged_next ps ages i (omega arith) (omega arith))

-- the bits of records from record i on, when i is one of them
module _ (ps : List Port) (i m left : ℕ) (h : i < length ps) (bits : left ≡ sink_bits (take (suc m) (drop i ps))) where
  here : left ≡ sink_bits (get_or ps i no_port ∷ take m (drop (suc i) ps))
  here = bits ∙ ap (λ (l : List Port). sink_bits (take (suc m) l)) (drop-cons ps i no_port h)

  -- the lowest of them ages record i
  pub age_next : (first ages : List ℕ) → ages ≡ aged (take i ps) first → i < length ages → (age : ℕ) → age ≡ older_by (left % 2) (get_or ages i 0) → set ages i age ≡ aged (take (suc i) ps) first
  age_next first ages e k age ea =
      ap (set ages i) (ea ∙ ap (λ (n : ℕ). older_by n (get_or ages i 0)) (ap (λ (n : ℕ). n % 2) here ∙ bits_first (get_or ps i no_port) (take m (drop (suc i) ps))))
      ∙ ap (λ (l : List ℕ). set l i (older_by (one (is_sink (get_or ps i no_port))) (get_or l i 0))) e
      ∙ aged_next ps first i h (let l : length ages ≡ length first = ap length e ∙ aged_length (take i ps) first in omega arith)

  -- the others are the next records'
  pub bits_next : left / 2 ≡ sink_bits (take m (drop (suc i) ps))
  bits_next = ap (λ (n : ℕ). n / 2) here ∙ bits_rest (get_or ps i no_port) (take m (drop (suc i) ps))

-- behind j of them
pub bits_after : (ps : List Port) (i m left j : ℕ) → left ≡ sink_bits (take m (drop i ps)) → j ≤ m → i + j ≤ length ps → left / 2 ^ j ≡ sink_bits (take (m - j) (drop (i + j) ps))
bits_after ps i m left zero e h k =
    ap (λ (n : ℕ). left / n) (pow-zero 2) ∙ div-one left ∙ e
    ∙ ap (λ (n : ℕ). sink_bits (take n (drop i ps))) (let z : m ≡ m - 0 = omega arith in z) ∙ ap (λ (n : ℕ). sink_bits (take (m - 0) (drop n ps))) (let z : i ≡ i + 0 = omega arith in z)
bits_after ps i m left (suc j) e h k =
    let before : left / 2 ^ j ≡ sink_bits (take (suc (m - suc j)) (drop (i + j) ps)) = bits_after ps i m left j e (omega arith) (omega arith) ∙ ap (λ (n : ℕ). sink_bits (take n (drop (i + j) ps))) (let z : m - j ≡ suc (m - suc j) = omega arith in z) in
    ap (λ (n : ℕ). left / 2 ^ n) (let z : suc j ≡ j + 1 = omega arith in z) ∙ sym (shr-shr left j 1) ∙ bits_next ps (i + j) (m - suc j) (left / 2 ^ j) (omega arith) before
    ∙ ap (λ (n : ℕ). sink_bits (take (m - suc j) (drop n ps))) (let z : suc (i + j) ≡ i + suc j = omega arith in z)

-- ---- from one record up to another

-- whatever the table: the ages before record i are done, and the bits from it on are left
abbrev pub Done : ℕ → ℕ → ℕ → List ℕ → List ℕ → ℕ → ℕ → Type 0
Done part from to ages₀ ages left i =
    (ps : List Port) (first : List ℕ) (m : ℕ) → part ≡ sink_bits (take m (drop from ps)) → to ≤ from + m → to ≤ length ps → ages₀ ≡ aged (take from ps) first
    → (ages ≡ aged (take i ps) first) × (left ≡ sink_bits (take (from + m - i) (drop i ps)))

pub starts : (part from to : ℕ) (ages₀ : List ℕ) → Done part from to ages₀ ages₀ part from
starts part from to ages₀ ps first m e far all done = (done, e ∙ ap (λ (n : ℕ). sink_bits (take n (drop from ps))) (let z : m ≡ from + m - from = omega arith in z))

-- ---- by a mask

-- a mask tells the bit at its place
pub by_mask : (part i age : ℕ) → i < 8 → older_by (bit_and (part % 256) (2 ^ i)) age ≡ older_by (part / 2 ^ i % 2) age
by_mask part i age h = ap (λ (b : Bool). cond b age (older age)) (ap (λ (n : ℕ). eqb n 0) (masked ∙ ap (λ (n : ℕ). n * 2 ^ i) cut) ∙ same (part / 2 ^ i % 2) (omega arith))
  where
    masked : bit_and (part % 256) (2 ^ i) ≡ (part % 256 / 2 ^ i % 2) * 2 ^ i
    masked = ap (bit_and (part % 256)) (let p : 2 ^ (1 + i) ≡ 2 * 2 ^ i = pow-add 2 1 i in let z : 2 ^ i ≡ 2 ^ (1 + i) - 2 ^ i = omega arith in z) ∙ and_high (part % 256) 1 i

    cut : part % 256 / 2 ^ i % 2 ≡ part / 2 ^ i % 2
    cut =
        ap (λ (n : ℕ). part % 2 ^ n / 2 ^ i % 2) (let z : 8 ≡ (7 - i + 1) + i = omega arith in z)
        ∙ ap (λ (n : ℕ). n % 2) (field part (7 - i + 1) i)
        ∙ mod-mod-pow (part / 2 ^ i) (7 - i) 1

    same : (n : ℕ) → n < 2 → eqb (n * 2 ^ i) 0 ≡ eqb n 0
    same zero l = ap (λ (n : ℕ). eqb n 0) (let z : 0 * 2 ^ i ≡ 0 = omega arith in z)
    same (suc zero) l = ne_eqb (1 * 2 ^ i) 0 (λ z. let p = pow_pos i in omega arith)
    same (suc (suc n)) l = absurd (omega arith)

-- ---- part after part

-- up to the end of a part: as far as there are records
pub part_taken : (ps : List Port) (from to next : ℕ) → to ≡ part_end from (length ps) → next ≡ from + 64 → take to ps ≡ take next ps
part_taken ps from to next e n = by (dec_le (from + 64) (length ps))
  where
    by : Dec (from + 64 ≤ length ps) → take to ps ≡ take next ps
    by (yes h) = let z : to ≡ next = omega (arith, h) in ap (λ (m : ℕ). take m ps) z
    by (no h) = take_all to ps (omega (arith, h)) ∙ sym (take_all next ps (omega (arith, h)))

module _ (t : Tested) (ps : List Port) (e : Some t ≡ tested_of ps) (first ages : List ℕ) (k : ℕ) (done : ages ≡ aged (take (64 * k) ps) first) where
  -- one part more
  pub part_more : k < 4 → (to : ℕ) → to ≡ part_end (64 * k) t.count → (ages' : List ℕ) → AgedRun (get_or t.sinks k 0) (64 * k) to ages ages' → ages' ≡ aged (take (64 * (k + 1)) ps) first
  unfolding sinks_part
  part_more h to et ages' run =
      let f = tested_few t ps e in
      let bits : get_or t.sinks k 0 ≡ sink_bits (take 64 (drop (64 * k) ps)) = ap (λ (s : Tested). get_or s.sinks k 0) (tested_good t ps e).1 ∙ part_at ps k h in
      run ps first 64 bits (omega arith) (omega (arith, f.0)) done
      ∙ ap (λ (l : List Port). aged l first) (part_taken ps (64 * k) to (64 * (k + 1)) (et ∙ ap (part_end (64 * k)) f.0) (omega arith))

  -- no part is left
  part_none : t.count ≤ 64 * k → ages ≡ aged ps first
  part_none h = let f = tested_few t ps e in done ∙ ap (λ (l : List Port). aged l first) (take_all (64 * k) ps (omega (arith, f.0)))

  -- and what a call answers and leaves then
  pub aged_all : t.count ≤ 64 * k → t.count ≤ length first → (gives (0 ∷ []) ≡ tick ps first) × (ages ≡ tick_ages ps first)
  unfolding tick tick_ages tick_refusal
  aged_all h l =
      let f = tested_few t ps e in
      let r : tick_refusal ps first ≡ 0 = simp ((tested_good t ps e).0, le-ltb (length first) (length ps) (omega (arith, f.0))) in (
        answered_yes r (0 ∷ []),
        part_none h ∙ changed r (aged ps first) first,
      )
