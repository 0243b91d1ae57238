-- A call is accepted, and then no check of its order failed, or it is refused, and then nothing changed.
-- Assumes nothing.
use mathlib.Core.Path.{◌≡◌, refl, ap}
use mathlib.Core.Bool.{Bool, true, false, not, cond}
use mathlib.Core.List.{List}
use Prim.Native.Nat.{ℕ, suc, ◌≤◌, ◌<◌}
use native.Mathlib.Omega.{arith}
use borrow.Author.Tests.{lt-ltb, le-ltb, eqb-true, ltb-true, ltb-false, not-false}
use lib.Dec.{eqb, ltb}
use lib.ListN.{length}
use Rattle.refusals.specs.Told.{gives, refused, refusal}
use Rattle.frames.specs.Words.{f_code_of, address}
use Rattle.rows.specs.Rows.{frame_bytes, blocks, block_bytes}
use Rattle.frames.specs.Blocks.{right_blocks, all_right}
use Rattle.port_table.specs.declared.Port.{Port}
use Rattle.port_table.specs.Table.{good, port_bytes, table_bytes, place_of, listed, port_of, is_sink}
use Rattle.ports.specs.Lent.{answered, unless_refused}
use Rattle.ports.specs.Arriving.{arrive_refusal}
use Rattle.ports.specs.Answering.{answer_refusal}
use Rattle.ports.specs.Reading.{read_refusal}
use Rattle.ports.specs.Filling.{fill_refusal}

-- values are given only without a refusal
pub accepted : (m : ℕ) (values v : List ℕ) → answered m values ≡ gives v → (m ≡ 0) × (values ≡ v)
accepted m values v h = by (eqb m 0) refl h
  where
    by : (b : Bool) → eqb m 0 ≡ b → cond b (gives values) (refusal m) ≡ gives v → (m ≡ 0) × (values ≡ v)
    by true e h = (eqb-true m 0 e, (let d : values ≡ v = cc in d))
    by false e h = let z : ◌≡◌ {A = ℕ} 0 1 = cc in absurd (omega arith)

-- and a refusal leaves what there was
pub refusal_keeps : {A : Type 0} (m n : ℕ) (values v : List ℕ) (new old : A) → answered m values ≡ refused n v → unless_refused m new old ≡ old
refusal_keeps m n values v new old h = by (eqb m 0) h
  where
    by : (b : Bool) → cond b (gives values) (refusal m) ≡ refused n v → cond b new old ≡ old
    by true h = let z : ◌≡◌ {A = ℕ} 0 1 = cc in absurd (omega arith)
    by false h = refl

-- whatever holds of the new value and of the old holds of what there is afterwards
pub either_way : {A : Type 0} (P : A → Type 0) (m : ℕ) (new old : A) → (m ≡ 0 → P new) → P old → P (unless_refused m new old)
either_way P m new old f g = by (eqb m 0) refl
  where
    by : (b : Bool) → eqb m 0 ≡ b → P (cond b new old)
    by true e = f (eqb-true m 0 e)
    by false e = g

-- without a refusal it is the new
pub without : {A : Type 0} (m : ℕ) (new old : A) → m ≡ 0 → unless_refused m new old ≡ new
without m new old e = ap (λ (k : ℕ). unless_refused k new old) e

-- ---- what an accepted call came past

past : (t : Bool) (k m : ℕ) → cond t (suc k) m ≡ 0 → (t ≡ false) × (m ≡ 0)
past true k m h = absurd (omega arith)
past false k m h = (refl, h)

-- what an accepted arrival, answer, read or fill found
pub record Arrivable (ps : List Port) (store ages : List ℕ) (word : ℕ) (frame : List ℕ) : Type 0 where
  pub table_is_good : good ps ≡ true
  pub stored : table_bytes ps ≤ length store
  pub all_ages : length ps ≤ length ages
  pub process : f_code_of word ≤ 4
  pub there : place_of (address word) ps < length ps
  pub same_code : (port_of (address word) ps).f_code ≡ f_code_of word
  pub port_is_sink : is_sink (port_of (address word) ps) ≡ true
  pub long : length frame ≡ frame_bytes (f_code_of word)
  pub right : right_blocks (blocks (f_code_of word)) (block_bytes (f_code_of word)) frame ≡ blocks (f_code_of word)

pub arrivable : (ps : List Port) (store ages : List ℕ) (word : ℕ) (frame : List ℕ) → arrive_refusal ps store ages word frame ≡ 0 → Arrivable ps store ages word frame
unfolding arrive_refusal
arrivable ps store ages word frame h =
    let p13 = past (not (good ps)) 12 _ h in
    let p4 = past (ltb (length store) (table_bytes ps)) 3 _ p13.1 in
    let q4 = past (ltb (length ages) (length ps)) 3 _ p4.1 in
    let p14 = past (ltb 4 (f_code_of word)) 13 _ q4.1 in
    let p15 = past (not (listed (address word) ps)) 14 _ p14.1 in
    let p16 = past (not (eqb (port_of (address word) ps).f_code (f_code_of word))) 15 _ p15.1 in
    let p17 = past (not (is_sink (port_of (address word) ps))) 16 _ p16.1 in
    let p1 = past (not (eqb (length frame) (frame_bytes (f_code_of word)))) 0 _ p17.1 in
    let p2 = past (not (all_right (blocks (f_code_of word)) (block_bytes (f_code_of word)) frame)) 1 _ p1.1 in
    record {
      table_is_good = not-false _ p13.0;
      stored = ltb-false (length store) (table_bytes ps) p4.0;
      all_ages = ltb-false (length ages) (length ps) q4.0;
      process = ltb-false 4 (f_code_of word) p14.0;
      there = ltb-true _ _ (not-false _ p15.0);
      same_code = eqb-true _ _ (not-false _ p16.0);
      port_is_sink = not-false _ p17.0;
      long = eqb-true _ _ (not-false _ p1.0);
      right = eqb-true _ _ (not-false _ p2.0);
    }

pub record Answerable (ps : List Port) (store : List ℕ) (word : ℕ) (out : List ℕ) : Type 0 where
  pub process : f_code_of word ≤ 4
  pub there : place_of (address word) ps < length ps
  pub same_code : (port_of (address word) ps).f_code ≡ f_code_of word
  pub room : frame_bytes (f_code_of word) ≤ length out

pub answerable : (ps : List Port) (store : List ℕ) (word : ℕ) (out : List ℕ) → answer_refusal ps store word out ≡ 0 → Answerable ps store word out
unfolding answer_refusal
answerable ps store word out h =
    let p13 = past (not (good ps)) 12 _ h in
    let p4 = past (ltb (length store) (table_bytes ps)) 3 _ p13.1 in
    let p14 = past (ltb 4 (f_code_of word)) 13 _ p4.1 in
    let p15 = past (not (listed (address word) ps)) 14 _ p14.1 in
    let p16 = past (not (eqb (port_of (address word) ps).f_code (f_code_of word))) 15 _ p15.1 in
    let p17 = past (is_sink (port_of (address word) ps)) 16 _ p16.1 in
    let q4 = past (ltb (length out) (frame_bytes (f_code_of word))) 3 _ p17.1 in
    record {
      process = ltb-false 4 (f_code_of word) p14.0;
      there = ltb-true _ _ (not-false _ p15.0);
      same_code = eqb-true _ _ (not-false _ p16.0);
      room = ltb-false (length out) (frame_bytes (f_code_of word)) q4.0;
    }

pub record Fillable (ps : List Port) (store : List ℕ) (a : ℕ) (d : List ℕ) : Type 0 where
  pub stored : table_bytes ps ≤ length store
  pub there : place_of a ps < length ps
  pub long : length d ≡ port_bytes (port_of a ps)

pub fillable : (ps : List Port) (store : List ℕ) (a : ℕ) (d : List ℕ) → fill_refusal ps store a d ≡ 0 → Fillable ps store a d
unfolding fill_refusal
fillable ps store a d h =
    let p13 = past (not (good ps)) 12 _ h in
    let p4 = past (ltb (length store) (table_bytes ps)) 3 _ p13.1 in
    let p15 = past (not (listed a ps)) 14 _ p4.1 in
    let p17 = past (is_sink (port_of a ps)) 16 _ p15.1 in
    let p1 = past (not (eqb (length d) (port_bytes (port_of a ps)))) 0 _ p17.1 in
    record {
      stored = ltb-false (length store) (table_bytes ps) p4.0;
      there = ltb-true _ _ (not-false _ p15.0);
      long = eqb-true _ _ (not-false _ p1.0);
    }

-- a read finds all that it wants
pub readable : (ps : List Port) (store ages : List ℕ) (a : ℕ) (out : List ℕ) → good ps ≡ true → table_bytes ps ≤ length store → length ps ≤ length ages → place_of a ps < length ps → is_sink (port_of a ps) ≡ true
    → port_bytes (port_of a ps) ≤ length out → read_refusal ps store ages a out ≡ 0
unfolding read_refusal
readable ps store ages a out g s n h k r =
    simp (g, le-ltb (length store) (table_bytes ps) s, le-ltb (length ages) (length ps) n, lt-ltb (place_of a ps) (length ps) h, k, le-ltb (length out) (port_bytes (port_of a ps)) r)
