-- Demand 2: "Frames are those of IEC 61375-3-1, written and read: what we write, our reader gives back, and what our reader accepts is what we
-- would have written. A list is accepted exactly when the rules of document 01 hold, and then each of its frames goes out in exactly one Basic
-- Period of any run as long as its cycle. A Process Data frame touches its own port only."
-- The definitions are those that the promises of the entry points name: `slave_read` is what a reader answers, `slave_read_out` the lent output
-- afterwards, and so on.
-- Assumes nothing.
use Rattle.std.specs.Prelude.{◌≡◌, true, false, ◌⊎◌, List, [], ◌∷◌, ◌++◌, ℕ, ◌+◌, ◌*◌, ◌^◌, ◌≤◌, ◌<◌, length, get_or, take, drop}
use Rattle.std.proofs.Math.Pow.{are_bytes}
use Rattle.refusals.specs.Told.{gives, refusal}
use Rattle.checks.specs.Bits.{bits_of}
use Rattle.checks.specs.Distance.{differing}
use Rattle.frames.specs.Words.{f_code_of, address}
use Rattle.rows.specs.Rows.{reserved, data_bytes, frame_bytes}
use Rattle.frames.specs.Master.{master_frame, master_read, master_write, master_write_out}
use Rattle.frames.specs.Slave.{slave_frame, slave_data, slave_read, slave_read_out, slave_write, slave_write_out}
use Rattle.frames.specs.Accepted.{Accepted, block_count, block_size, block_at}
use Rattle.numbers.specs.Written.{Bytes}
use Rattle.lists.specs.Values.{Cycle, PeriodicList, periods_of, words_of}
use Rattle.lists.specs.Reading.{denied}
use Rattle.lists.specs.Sends.{sends, takes}
use Rattle.lists.specs.Accepts.{accepted}
use Rattle.lists.specs.Answers.{told_read}
use Rattle.list_laws.specs.Written.{file, Obeys}
use Rattle.list_laws.specs.Order.{want, one, Refuses}
use Rattle.periods.specs.Period.{period_by}
use Rattle.periods.specs.Once.{times, OnceIn}
use Rattle.port_table.specs.declared.Port.{Port}
use Rattle.port_table.specs.Table.{port_bytes, table_bytes, place_of, offset_of, port_of}
use Rattle.ports.specs.Lent.{port_data}
use Rattle.ports.specs.Arriving.{arrive, arrive_store, arrive_ages}
use Rattle.ports.specs.Answering.{answer, answer_out}
use Rattle.ports.specs.Reading.{read, read_out, read_age}
use Rattle.ports.specs.Filling.{fill, fill_store}
use Rattle.ports.specs.Sinks.{Sink}

-- "Frames are those of IEC 61375-3-1, written and read"
pub record Frames : Type 0 where
  -- every word whose F_code is not reserved is written, as the Master Frame of the standard, where there is room
  pub master_written : (word : ℕ) (out : List ℕ) → reserved (f_code_of word) ≡ false → 3 ≤ length out
      → (master_write word (length out) ≡ gives (3 ∷ [])) × (master_write_out word out ≡ master_frame word ++ drop 3 out)
  -- and all data as long as the F_code says, as its Slave Frame
  pub slave_written : (f : ℕ) (d out : List ℕ) → reserved f ≡ false → length d ≡ data_bytes f → frame_bytes f ≤ length out
      → (slave_write f d (length out) ≡ gives (frame_bytes f ∷ [])) × (slave_write_out f d out ≡ slave_frame f d ++ drop (frame_bytes f) out)
  -- "what we write, our reader gives back"
  pub master_back : (word n : ℕ) (out : List ℕ) → master_write word (length out) ≡ gives (n ∷ []) → master_read (take n (master_write_out word out)) ≡ gives (word ∷ [])
  pub slave_back : (f n : ℕ) (d out back : List ℕ) → slave_write f d (length out) ≡ gives (n ∷ []) → length d ≤ length back
      → (slave_read f (take n (slave_write_out f d out)) (length back) ≡ gives (length d ∷ [])) × (slave_read_out f (take n (slave_write_out f d out)) back ≡ d ++ drop (length d) back)
  -- "and what our reader accepts is what we would have written"
  pub master_again : (word : ℕ) (w out : List ℕ) → are_bytes w ≡ true → master_read w ≡ gives (word ∷ []) → 3 ≤ length out
      → (master_write word (length out) ≡ gives (3 ∷ [])) × (master_write_out word out ≡ w ++ drop 3 out)
  pub slave_again : (f n : ℕ) (w out back : List ℕ) → slave_read f w (length out) ≡ gives (n ∷ []) → length w ≤ length back
      → (slave_write f (take n (slave_read_out f w out)) (length back) ≡ gives (length w ∷ [])) × (slave_write_out f (take n (slave_read_out f w out)) back ≡ w ++ drop (length w) back)
  -- document 01: "Two different frames of equal length, both accepted, differ in at least four bits of some block and its check sequence"
  pub apart : (v w : List ℕ) → are_bytes v ≡ true → are_bytes w ≡ true → (a : Accepted v) → Accepted w → length v ≡ length w → (v ≡ w → ⊥)
      → (i : ℕ) × (i < block_count a) × (4 ≤ differing (bits_of (block_at (block_size a) i v)) (bits_of (block_at (block_size a) i w)))

-- what an accepted list answers: ms, gap, reserve and the number of words
abbrev pub header : PeriodicList → List ℕ
header l = l.head.ms ∷ l.head.gap ∷ l.head.reserve ∷ length (words_of l.cycles) ∷ []

-- the cycle 2^n of a list
abbrev pub cycle_of : PeriodicList → ℕ → Cycle
cycle_of l n = get_or l.cycles n (record { words = []; splits = [] })

-- the bytes s are the file of the list l, and l obeys "the rules of document 01"
pub record IsFile (s : List ℕ) (l : PeriodicList) : Type 0 where
  pub bytes : Bytes s
  pub obeys : Obeys l
  pub written : file l ≡ s

-- "A list is accepted exactly when the rules of document 01 hold, and then .."
pub record Lists : Type 0 where
  -- "accepted .. when the rules of document 01 hold"
  pub accepted_if : (s : List ℕ) (l : PeriodicList) → IsFile s l → told_read (accepted s) ≡ gives (header l)
  -- "exactly" then, and these bytes are the file of no other list
  pub only_if : (s v : List ℕ) → Bytes s → told_read (accepted s) ≡ gives v → (l : PeriodicList) × IsFile s l × (v ≡ header l) × ((m : PeriodicList) → IsFile s m → m ≡ l)
  -- there is such a list
  pub some_file : (s : List ℕ) × (l : PeriodicList) × IsFile s l
  -- and a list that is not is refused with the first number that fails its check
  pub too_long : (s : List ℕ) → 16384 < length s → accepted s ≡ denied 1
  pub first_fault : (s : List ℕ) (m : ℕ) → length s ≤ 16384 → (accepted s ≡ denied m → Refuses (want one) s m) × (Refuses (want one) s m → accepted s ≡ denied m)
  -- "each of its frames goes out in exactly one Basic Period of any run as long as its cycle": the run begins anywhere, the Macro_Cycle repeats
  pub each_once : (s : List ℕ) (l : PeriodicList) → IsFile s l → (n : ℕ) → n < length l.cycles → (w : ℕ) → 0 < times w (cycle_of l n).words → (a : ℕ) → OnceIn l w a (2 ^ n)
  -- nothing else goes out
  pub nothing_else : (l : PeriodicList) (w : ℕ) → times w (words_of l.cycles) ≡ 0 → (j : ℕ) → times w (sends l j) ≡ 0
  -- what goes out in a Basic Period fits beside the reserve
  pub fits : (s : List ℕ) (l : PeriodicList) → IsFile s l → (j : ℕ) → j < periods_of l.head.ms → takes l.head.gap (sends l j) + l.head.reserve ≤ 1500 * l.head.ms
  -- and it is what asking for that Basic Period hands out: 64 places are always enough
  pub handed_out : (s : List ℕ) (l : PeriodicList) → IsFile s l → (j : ℕ) → j < periods_of l.head.ms → (out : List ℕ) → 64 ≤ length out
      → (period_by s j (length out) refusal (λ ws. gives (length ws ∷ [])) ≡ gives (length (sends l j) ∷ []))
      × (period_by s j (length out) (λ n. out) (λ ws. ws ++ drop (length ws) out) ≡ sends l j ++ drop (length (sends l j)) out)

-- a frame arrives with a word: what the store and the ages are afterwards
module _ (ps : List Port) (store ages : List ℕ) (word : ℕ) (frame : List ℕ) where
  -- "A Process Data frame touches its own port only"
  pub record OwnPortOnly : Type 0 where
    -- no byte of the store outside the port that its word names, whether it is accepted or not
    pub other_bytes : (i : ℕ) → (i < offset_of (address word) ps) ⊎ (offset_of (address word) ps + port_bytes (port_of (address word) ps) ≤ i)
        → get_or (arrive_store ps store ages word frame) i 0 ≡ get_or store i 0
    -- and no other age
    pub other_ages : (i : ℕ) → (i ≡ place_of (address word) ps → ⊥) → get_or (arrive_ages ps store ages word frame) i 0 ≡ get_or ages i 0
    -- so every other port has the data and the age that it had
    pub other_ports : (b : ℕ) → (b ≡ address word → ⊥) → place_of b ps < length ps → table_bytes ps ≤ length store
        → (port_data ps b (arrive_store ps store ages word frame) ≡ port_data ps b store) × (get_or (arrive_ages ps store ages word frame) (place_of b ps) 0 ≡ get_or ages (place_of b ps) 0)
    -- store and ages are as long as they were
    pub as_long : (length (arrive_store ps store ages word frame) ≡ length store) × (length (arrive_ages ps store ages word frame) ≡ length ages)
    -- its own port, where it is accepted, has its data, with age 0
    pub own_data : arrive ps store ages word frame ≡ gives (0 ∷ []) → port_data ps (address word) (arrive_store ps store ages word frame) ≡ slave_data (f_code_of word) frame
    pub own_age : arrive ps store ages word frame ≡ gives (0 ∷ []) → get_or (arrive_ages ps store ages word frame) (place_of (address word) ps) 0 ≡ 0

-- a source was filled with the data d and has answered; the other side has a sink for that word (`Sink`: its table is good and has a sink of
-- that address and F_code, and store and ages are long enough)
module _ (ps : List Port) (store : List ℕ) (word : ℕ) (d out : List ℕ) (n : ℕ) (qs : List Port) (store' ages' : List ℕ) where
  -- the frame that came of it
  abbrev pub answered_frame : List ℕ
  answered_frame = take n (answer_out ps (fill_store ps store (address word) d) word out)

  -- "a frame's data reaches its port" (document 01, versions to shut out): the other side takes the frame, and its application reads d, with age 0
  pub record Reaches : Type 0 where
    pub taken : arrive qs store' ages' word answered_frame ≡ gives (0 ∷ [])
    pub data_read : (back : List ℕ) (age : ℕ) → length d ≤ length back
        → (read qs (arrive_store qs store' ages' word answered_frame) (arrive_ages qs store' ages' word answered_frame) (address word) back ≡ gives (length d ∷ []))
        × (read_out qs (arrive_store qs store' ages' word answered_frame) (arrive_ages qs store' ages' word answered_frame) (address word) back ≡ d ++ drop (length d) back)
        × (read_age qs (arrive_store qs store' ages' word answered_frame) (arrive_ages qs store' ages' word answered_frame) (address word) back age ≡ 0)

-- all of demand 2
pub record Demand2 : Type 0 where
  pub frames : Frames
  pub lists : Lists
  pub ports : (ps : List Port) (store ages : List ℕ) (word : ℕ) (frame : List ℕ) → OwnPortOnly ps store ages word frame
  pub through_the_bus : (ps : List Port) (store : List ℕ) (word : ℕ) (d out : List ℕ) (n : ℕ) → fill ps store (address word) d ≡ gives (0 ∷ []) → answer ps (fill_store ps store (address word) d) word out ≡ gives (n ∷ [])
      → (qs : List Port) (store' ages' : List ℕ) → Sink qs store' ages' word → Reaches ps store word d out n qs store' ages'
