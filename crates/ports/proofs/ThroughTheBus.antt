-- What a source was filled with is what its answer carries, and what a sink's reader gets on the other side: fill, answer,
-- arrive and read give the same data, with age 0.
-- Assumes nothing.
use mathlib.Core.Path.{◌≡◌, refl, sym, ap, ap₂, ◌∙◌}
use mathlib.Core.List.{List, [], ◌∷◌, ◌++◌}
use Prim.Native.Nat.{ℕ, ◌≤◌}
use native.Mathlib.Omega.{arith}
use borrow.Author.Tests.{eq-eqb, lt-ltb, le-ltb}
use lib.ListN.{length, take, drop}
use lib.Seq.{take_at}
use Rattle.refusals.specs.Told.{gives, refusal}
use Rattle.frames.specs.Words.{f_code_of, address}
use Rattle.rows.specs.Rows.{data_bytes, frame_bytes, blocks, block_bytes}
use Rattle.frames.specs.Blocks.{right_blocks}
use Rattle.frames.specs.Slave.{slave_frame, slave_data, slave_read, slave_read_out, slave_write, slave_write_out}
use Rattle.frames.proofs.Order.{write_done}
use Rattle.frames.proofs.RoundTrip.{slave_accepted, slave_frame_length, slave_written_is_read}
use Rattle.port_table.specs.declared.Port.{Port}
use Rattle.port_table.specs.Table.{port_bytes, table_bytes, place_of, offset_of, port_of}
use Rattle.port_table.proofs.Places.{within}
use Rattle.ports.specs.Lent.{answered, port_data}
use Rattle.ports.specs.Arriving.{arrive_refusal, arrive, arrive_store, arrive_ages}
use Rattle.ports.specs.Answering.{answer_refusal, answer, answer_out}
use Rattle.ports.specs.Reading.{read_refusal, read, read_out, read_age}
use Rattle.ports.specs.Filling.{fill_refusal, fill, fill_store}
use Rattle.ports.specs.Sinks.{Sink}
use Rattle.ports.proofs.Frames.{process_data_lem, read_gives}
use Rattle.ports.proofs.Bytes.{replaced_own}
use Rattle.ports.proofs.Outcomes.{accepted, without, readable, Answerable, answerable, Fillable, fillable}
use Rattle.ports.proofs.OwnPortOnly.{own_data, own_age, store_length, ages_length}

-- a Slave Frame of the port's data is right, and carries these data (the frames' round trip)
module _ (f : ℕ) (d : List ℕ) (p : f ≤ 4) (l : length d ≡ data_bytes f) where
  written : (slave_write f d (length (slave_frame f d)) ≡ gives (frame_bytes f ∷ [])) × (take (frame_bytes f) (slave_write_out f d (slave_frame f d)) ≡ slave_frame f d)
  unfolding slave_write slave_write_out
  written =
      let w = slave_frame f d in
      let k : length w ≡ frame_bytes f = slave_frame_length f d l in (
        sym (write_done f d (length w) refusal (gives (frame_bytes f ∷ [])) (process_data_lem f p) l (omega arith)),
        ap (take (frame_bytes f)) (sym (write_done f d (length w) (λ n. w) (w ++ drop (frame_bytes f) w) (process_data_lem f p) l (omega arith))) ∙ take_at w (drop (frame_bytes f) w) (frame_bytes f) k,
      )

  carried : (right_blocks (blocks f) (block_bytes f) (slave_frame f d) ≡ blocks f) × (slave_data f (slave_frame f d) ≡ d)
  carried =
      let r = slave_written_is_read f (frame_bytes f) d (slave_frame f d) d written.0 (omega arith) in
      let told : slave_read f (slave_frame f d) (length d) ≡ gives (length d ∷ []) = ap (λ (w : List ℕ). slave_read f w (length d)) (sym written.1) ∙ r.0 in
      let back : slave_read_out f (slave_frame f d) d ≡ d ++ drop (length d) d = ap (λ (w : List ℕ). slave_read_out f w d) (sym written.1) ∙ r.1 in
      let g = read_gives f (slave_frame f d) (length d) d (sym told) in (
        (slave_accepted f (slave_frame f d) (length d) (length d) told).2,
        sym (take_at (slave_data f (slave_frame f d)) (drop (data_bytes f) d) (length d) (g.2 ∙ sym l)) ∙ ap (take (length d)) (sym g.1 ∙ back) ∙ take_at d (drop (length d) d) (length d) refl,
      )

-- ---- the source's side

-- a source that was filled holds the data
pub filled_data : (ps : List Port) (store : List ℕ) (a : ℕ) (d : List ℕ) → fill ps store a d ≡ gives (0 ∷ []) → port_data ps a (fill_store ps store a d) ≡ d
unfolding fill fill_store port_data
filled_data ps store a d ok =
    let z = (accepted (fill_refusal ps store a d) (0 ∷ []) (0 ∷ []) ok).0 in
    let c = fillable ps store a d z in
    ap₂ (λ (n : ℕ) (l : List ℕ). take n (drop (offset_of a ps) l)) (sym c.long) (without (fill_refusal ps store a d) _ store z)
    ∙ replaced_own (offset_of a ps) d store (omega (arith, within a ps c.there, c.stored, c.long))

-- its answer is the Slave Frame of what it holds
pub answered_frame_lem : (ps : List Port) (store : List ℕ) (word : ℕ) (out : List ℕ) (n : ℕ) → answer ps store word out ≡ gives (n ∷ [])
    → length (port_data ps (address word) store) ≡ data_bytes (f_code_of word) → take n (answer_out ps store word out) ≡ slave_frame (f_code_of word) (port_data ps (address word) store)
unfolding answer answer_out
answered_frame_lem ps store word out n ok l =
    let z = accepted (answer_refusal ps store word out) (frame_bytes (f_code_of word) ∷ []) (n ∷ []) ok in
    let e : frame_bytes (f_code_of word) ≡ n = (let k : frame_bytes (f_code_of word) ∷ [] ≡ n ∷ [] = z.1 in cc) in
    ap (take n) (without (answer_refusal ps store word out) _ out z.0) ∙ take_at _ (drop (frame_bytes (f_code_of word)) out) n (slave_frame_length (f_code_of word) _ l ∙ e)

-- ---- the sink's side, and all of it

module _ (ps : List Port) (store : List ℕ) (word : ℕ) (d out : List ℕ) (n : ℕ)
    (filled : fill ps store (address word) d ≡ gives (0 ∷ [])) (sent : answer ps (fill_store ps store (address word) d) word out ≡ gives (n ∷ []))
    (qs : List Port) (store' ages' : List ℕ) (sink : Sink qs store' ages' word) where
  -- the frame that the source answered
  abbrev frame : List ℕ
  frame = take n (answer_out ps (fill_store ps store (address word) d) word out)

  source : Fillable ps store (address word) d
  unfolding fill
  source = fillable ps store (address word) d (accepted (fill_refusal ps store (address word) d) (0 ∷ []) (0 ∷ []) filled).0

  asked : Answerable ps (fill_store ps store (address word) d) word out
  unfolding answer
  asked = answerable ps _ word out (accepted (answer_refusal ps (fill_store ps store (address word) d) word out) (frame_bytes (f_code_of word) ∷ []) (n ∷ []) sent).0

  long : length d ≡ data_bytes (f_code_of word)
  long = source.long ∙ ap data_bytes asked.same_code

  -- "what its answer carries"
  pub frame_is : frame ≡ slave_frame (f_code_of word) d
  frame_is =
      let h = filled_data ps store (address word) d filled in
      answered_frame_lem ps (fill_store ps store (address word) d) word out n sent (ap length h ∙ long) ∙ ap (slave_frame (f_code_of word)) h

  frame_long : length frame ≡ frame_bytes (f_code_of word)
  frame_long = ap length frame_is ∙ slave_frame_length (f_code_of word) d long

  frame_right : right_blocks (blocks (f_code_of word)) (block_bytes (f_code_of word)) frame ≡ blocks (f_code_of word)
  frame_right = ap (right_blocks (blocks (f_code_of word)) (block_bytes (f_code_of word))) frame_is ∙ (carried (f_code_of word) d asked.process long).0

  -- the other side takes it
  pub taken : arrive qs store' ages' word frame ≡ gives (0 ∷ [])
  unfolding arrive arrive_refusal
  taken =
      simp (
        sink.table_is_good,
        le-ltb (length store') (table_bytes qs) sink.stored,
        le-ltb (length ages') (length qs) sink.all_ages,
        le-ltb 4 (f_code_of word) asked.process,
        lt-ltb (place_of (address word) qs) (length qs) sink.there,
        eq-eqb (port_of (address word) qs).f_code (f_code_of word) sink.same_code,
        sink.port_is_sink,
        eq-eqb (length frame) (frame_bytes (f_code_of word)) frame_long,
        eq-eqb (right_blocks (blocks (f_code_of word)) (block_bytes (f_code_of word)) frame) (blocks (f_code_of word)) frame_right,
      )

  abbrev store₁ : List ℕ
  store₁ = arrive_store qs store' ages' word frame

  abbrev ages₁ : List ℕ
  ages₁ = arrive_ages qs store' ages' word frame

  -- and its reader gets the same data
  pub same_data : (back : List ℕ) (age : ℕ) → length d ≤ length back
      → (read qs store₁ ages₁ (address word) back ≡ gives (length d ∷ []))
      × (read_out qs store₁ ages₁ (address word) back ≡ d ++ drop (length d) back)
      × (read_age qs store₁ ages₁ (address word) back age ≡ 0)
  unfolding read read_out read_age
  same_data back age room =
      let z = readable qs store₁ ages₁ (address word) back sink.table_is_good (omega (arith, sink.stored, store_length qs store' ages' word frame)) (omega (arith, sink.all_ages, ages_length qs store' ages' word frame)) sink.there sink.port_is_sink (omega (arith, long, ap data_bytes sink.same_code)) in
      let size : port_bytes (port_of (address word) qs) ≡ length d = ap data_bytes sink.same_code ∙ sym long in
      let held : port_data qs (address word) store₁ ≡ d = own_data qs store' ages' word frame taken ∙ ap (slave_data (f_code_of word)) frame_is ∙ (carried (f_code_of word) d asked.process long).1 in (
        ap (λ (m : ℕ). answered m (port_bytes (port_of (address word) qs) ∷ [])) z ∙ ap (λ (k : ℕ). gives (k ∷ [])) size,
        without (read_refusal qs store₁ ages₁ (address word) back) _ back z ∙ ap₂ (λ (l : List ℕ) (k : ℕ). l ++ drop k back) held size,
        without (read_refusal qs store₁ ages₁ (address word) back) _ age z ∙ own_age qs store' ages' word frame taken,
      )
