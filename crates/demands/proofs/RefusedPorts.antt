-- What a refusal of a port call is, and that it leaves what was lent.
-- Assumes nothing.
use mathlib.Core.Path.{◌≡◌, refl}
use mathlib.Core.Bool.{not}
use mathlib.Core.List.{List, [], ◌∷◌}
use Prim.Native.Nat.{ℕ}
use lib.Dec.{eqb, ltb}
use lib.ListN.{length}
use Rattle.refusals.specs.Told.{Told, refused}
use Rattle.frames.specs.Words.{f_code_of, address}
use Rattle.rows.specs.Rows.{frame_bytes, blocks, block_bytes}
use Rattle.frames.specs.Blocks.{all_right}
use Rattle.port_table.specs.declared.Port.{Port}
use Rattle.port_table.specs.Table.{good, port_bytes, table_bytes, listed, port_of, is_sink}
use Rattle.ports.specs.Arriving.{arrive_refusal, arrive, arrive_store, arrive_ages}
use Rattle.ports.specs.Answering.{answer_refusal, answer, answer_out}
use Rattle.ports.specs.Reading.{read_refusal, read, read_out, read_age}
use Rattle.ports.specs.Filling.{fill_refusal, fill, fill_store}
use Rattle.ports.specs.Ticking.{tick_refusal, tick, tick_ages}
use Rattle.ports.proofs.Refused.{arrive_refused, answer_refused, read_refused, fill_refused, tick_refused}
use Rattle.demands.specs.Demand1.{Refusing}
use Rattle.demands.proofs.Chains.{number_of}

-- a telling whose refusals are numbers of the table, and what is known after each
with_kept : {ns : List ℕ} {P : Type 0} {t : Told} → Refusing ns t (Unit {0}) → ((n : ℕ) (v : List ℕ) → t ≡ refused n v → P) → Refusing ns t P
with_kept h f n v e = let k = h n v e in (k.0, k.1, k.2, k.3, f n v e)

module _ (ps : List Port) where
  pub mvb_arrive_lem : (store ages : List ℕ) (word : ℕ) (frame : List ℕ)
      → Refusing (13 ∷ 4 ∷ 14 ∷ 15 ∷ 16 ∷ 17 ∷ 1 ∷ 2 ∷ []) (arrive ps store ages word frame) ((arrive_store ps store ages word frame ≡ store) × (arrive_ages ps store ages word frame ≡ ages))
  unfolding arrive arrive_refusal
  mvb_arrive_lem store ages word frame =
      with_kept
      (number_of (13 ∷ 4 ∷ 14 ∷ 15 ∷ 16 ∷ 17 ∷ 1 ∷ 2 ∷ [])
      ((not (good ps), 13)
      ∷ (ltb (length store) (table_bytes ps), 4)
      ∷ (ltb (length ages) (length ps), 4)
      ∷ (ltb 4 (f_code_of word), 14)
      ∷ (not (listed (address word) ps), 15)
      ∷ (not (eqb (port_of (address word) ps).f_code (f_code_of word)), 16)
      ∷ (not (is_sink (port_of (address word) ps)), 17)
      ∷ (not (eqb (length frame) (frame_bytes (f_code_of word))), 1)
      ∷ (not (all_right (blocks (f_code_of word)) (block_bytes (f_code_of word)) frame), 2)
      ∷ [])
      _ refl)
      (λ n v e. arrive_refused ps n v store ages word frame e)

  pub mvb_answer_lem : (store : List ℕ) (word : ℕ) (out : List ℕ) → Refusing (13 ∷ 4 ∷ 14 ∷ 15 ∷ 16 ∷ 17 ∷ []) (answer ps store word out) (answer_out ps store word out ≡ out)
  unfolding answer answer_refusal
  mvb_answer_lem store word out =
      with_kept
      (number_of (13 ∷ 4 ∷ 14 ∷ 15 ∷ 16 ∷ 17 ∷ [])
      ((not (good ps), 13)
      ∷ (ltb (length store) (table_bytes ps), 4)
      ∷ (ltb 4 (f_code_of word), 14)
      ∷ (not (listed (address word) ps), 15)
      ∷ (not (eqb (port_of (address word) ps).f_code (f_code_of word)), 16)
      ∷ (is_sink (port_of (address word) ps), 17)
      ∷ (ltb (length out) (frame_bytes (f_code_of word)), 4)
      ∷ [])
      _ refl)
      (λ n v e. answer_refused ps n v store word out e)

  pub mvb_read_lem : (store ages : List ℕ) (a : ℕ) (out : List ℕ) (age : ℕ) → Refusing (13 ∷ 4 ∷ 15 ∷ 17 ∷ []) (read ps store ages a out) ((read_out ps store ages a out ≡ out) × (read_age ps store ages a out age ≡ age))
  unfolding read read_refusal
  mvb_read_lem store ages a out age =
      with_kept
      (number_of (13 ∷ 4 ∷ 15 ∷ 17 ∷ [])
      ((not (good ps), 13)
      ∷ (ltb (length store) (table_bytes ps), 4)
      ∷ (ltb (length ages) (length ps), 4)
      ∷ (not (listed a ps), 15)
      ∷ (not (is_sink (port_of a ps)), 17)
      ∷ (ltb (length out) (port_bytes (port_of a ps)), 4)
      ∷ [])
      _ refl)
      (λ n v e. read_refused ps n v store ages a out age e)

  pub mvb_fill_lem : (store : List ℕ) (a : ℕ) (d : List ℕ) → Refusing (13 ∷ 4 ∷ 15 ∷ 17 ∷ 1 ∷ []) (fill ps store a d) (fill_store ps store a d ≡ store)
  unfolding fill fill_refusal
  mvb_fill_lem store a d =
      with_kept
      (number_of (13 ∷ 4 ∷ 15 ∷ 17 ∷ 1 ∷ [])
      ((not (good ps), 13) ∷ (ltb (length store) (table_bytes ps), 4) ∷ (not (listed a ps), 15) ∷ (is_sink (port_of a ps), 17) ∷ (not (eqb (length d) (port_bytes (port_of a ps))), 1) ∷ [])
      _ refl)
      (λ n v e. fill_refused ps n v store a d e)

  pub mvb_tick_lem : (ages : List ℕ) → Refusing (13 ∷ 4 ∷ []) (tick ps ages) (tick_ages ps ages ≡ ages)
  unfolding tick tick_refusal
  mvb_tick_lem ages = with_kept (number_of (13 ∷ 4 ∷ []) ((not (good ps), 13) ∷ (ltb (length ages) (length ps), 4) ∷ []) _ refl) (λ n v e. tick_refused ps n v ages e)
