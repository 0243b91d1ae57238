-- Every public function of the library in one table, those that the C face exports among them: each export of `mvb_c` calls the function here
-- that has its name. A row names what the toolchain made of the function's source:
-- `ended`, its parameters and its answer; `routine`, the function as it runs, with all that it calls; `clauses`, its promise.
-- Assumes nothing.
use Rattle.std.specs.Prelude.{Bool, true, false, List, [], ◌∷◌, ℕ, Option, Some, None}
use seplogic.Ra.Ura.{Ura}
use base.Logic.{SProp}
use prog.Memory.{Memory}
use prog.Routine.{Routine}
use types.Logic.{Logic}
use contract.Lifetimes.{Lfts}
use contract.Monad.{Fun}
use denote.Triple.Entry.{Args, Res}
use denote.Triple.Clauses.{Ended, AtExit, Clauses}
use Rattle.refusals.specs.contracts as refusals
use Rattle.refusals.proofs as refusals-run
use Rattle.refusals.specs.Told.{Told, gives, told, single}
use Rattle.refusals.specs.Codes.{told_code}
use Rattle.checks.specs.contracts as checks
use Rattle.checks.proofs as checks-run
use Rattle.checks.specs.Bits.{one}
use Rattle.rows.specs.contracts as row-table
use Rattle.rows.proofs as row-table-run
use Rattle.runs.specs.contracts as runs
use Rattle.runs.proofs as runs-run
use Rattle.frames.specs.contracts as frames
use Rattle.frames.proofs as frames-run
use Rattle.frames.specs.Answers.{told_line}
use Rattle.timing.specs.contracts as timing
use Rattle.timing.proofs as timing-run
use Rattle.timing.specs.Answers.{yes}
use Rattle.groups.specs.contracts as groups
use Rattle.groups.proofs as groups-run
use Rattle.rounds.specs.contracts as rounds
use Rattle.rounds.proofs as rounds-run
use Rattle.rounds.specs.Told as Rounds
use Rattle.search.specs.contracts as search-of
use Rattle.search.proofs as search-of-run
use Rattle.search.specs.Told.{requests_and_reads}
use Rattle.numbers.specs.contracts as numbers
use Rattle.numbers.proofs as numbers-run
use Rattle.numbers.specs.Answers.{value_and_place}
use Rattle.lists.specs.contracts as lists
use Rattle.lists.proofs as lists-run
use Rattle.lists.specs.Answers.{header_and_words}
use Rattle.periods.specs.contracts as periods
use Rattle.periods.proofs as periods-run
use Rattle.list_text.specs.contracts as texts
use Rattle.list_text.proofs as texts-run
use Rattle.port_table.specs.contracts as port-table
use Rattle.port_table.proofs as port-table-run
use Rattle.port_table.specs.declared.Tested.{Tested}
use Rattle.ports.specs.contracts as ports
use Rattle.ports.proofs as ports-run
use Rattle.mvb.specs.contracts as mvb
use Rattle.mvb.proofs as mvb-run
use Rattle.demands.specs.Program.{program}

-- an entry point
pub record EntryPoint : Type 3 where
  pub ended : Ended
  pub routine : Routine
  pub promise : {M : Type 1} {𝓤 : Ura M} (𝓛 : Logic 𝓤) → (Memory → SProp 𝓤) → (Routine → Fun 𝓤) → Clauses 𝓤 ended
  -- the numbers of its refusals
  pub refuses : List ℕ
  -- what its answer tells: values, or a refusal's number
  pub told : (κs : Lfts ended.signature.lifetimes) → Res ended.signature κs → Told
  -- all that was passed, as it is at exit: every row says `λ κs e. e`
  pub passed_back : (κs : Lfts ended.signature.lifetimes) → AtExit ended κs → Args ended.signature κs

-- one value, and no refusal
abbrev pub value : ℕ → Told
value n = gives (n ∷ [])

-- yes or no, and no refusal
abbrev pub yes_no : Bool → Told
yes_no b = gives (one b ∷ [])

-- "1 for the file, then 5, 6, 7, 8; 9 after a cycle's last split number. After the last cycle 11, then 10, then 19"
abbrev pub list_refusals : List ℕ
list_refusals = 1 ∷ 5 ∷ 6 ∷ 7 ∷ 8 ∷ 9 ∷ 11 ∷ 10 ∷ 19 ∷ []

-- ---- refusals: the numbers of document 01, and how C sees them

-- a refusal by its number
abbrev pub refusal_number : EntryPoint
refusal_number = record { ended = refusals.Refusal.number.ended; routine = program refusals-run.Refusal.number.Symbol.name; promise = refusals.Refusal.number.clauses; refuses = []; told = λ κs r. value r; passed_back = λ κs e. e }

-- a refusal as C sees it
abbrev pub refusal_code : EntryPoint
refusal_code = record { ended = refusals.Refusal.code.ended; routine = program refusals-run.Refusal.code.Symbol.name; promise = refusals.Refusal.code.clauses; refuses = []; told = λ κs r. value r; passed_back = λ κs e. e }

-- ---- frames

-- the check sequence of any block
abbrev pub check_of : EntryPoint
check_of = record { ended = checks.check_of.ended; routine = program checks-run.check_of.Symbol.name; promise = checks.check_of.clauses; refuses = []; told = λ κs r. value r; passed_back = λ κs e. e }

-- the check sequence of any word
abbrev pub check_of_word : EntryPoint
check_of_word = record { ended = checks.check_of_word.ended; routine = program checks-run.check_of_word.Symbol.name; promise = checks.check_of_word.clauses; refuses = []; told = λ κs r. value r; passed_back = λ κs e. e }

-- the row of any F_code
abbrev pub row_of : EntryPoint
row_of = record { ended = row-table.row_of.ended; routine = program row-table-run.row_of.Symbol.name; promise = row-table.row_of.clauses; refuses = []; told = λ κs r. gives r; passed_back = λ κs e. e }

-- one run of bytes to the front of another
abbrev pub copy_front : EntryPoint
copy_front = record { ended = runs.copy_front.ended; routine = program runs-run.copy_front.Symbol.name; promise = runs.copy_front.clauses; refuses = []; told = λ κs r. gives []; passed_back = λ κs e. e }

-- "Master read: 1, 2, 3"
abbrev pub master_read : EntryPoint
master_read = record { ended = frames.master_read.ended; routine = program frames-run.master_read.Symbol.name; promise = frames.master_read.clauses; refuses = 1 ∷ 2 ∷ 3 ∷ []; told = λ κs r. told single r; passed_back = λ κs e. e }

-- "Master write, of a word: 3, 4"
abbrev pub master_write : EntryPoint
master_write = record { ended = frames.master_write.ended; routine = program frames-run.master_write.Symbol.name; promise = frames.master_write.clauses; refuses = 3 ∷ 4 ∷ []; told = λ κs r. told single r; passed_back = λ κs e. e }

-- "Slave read: 3 (of the expected F_code; above 15 also 3), 1, 2, 4"
abbrev pub slave_read : EntryPoint
slave_read = record { ended = frames.slave_read.ended; routine = program frames-run.slave_read.Symbol.name; promise = frames.slave_read.clauses; refuses = 3 ∷ 1 ∷ 2 ∷ 4 ∷ []; told = λ κs r. told single r; passed_back = λ κs e. e }

-- "Slave write: 3, 1, 4"
abbrev pub slave_write : EntryPoint
slave_write = record { ended = frames.slave_write.ended; routine = program frames-run.slave_write.Symbol.name; promise = frames.slave_write.clauses; refuses = 3 ∷ 1 ∷ 4 ∷ []; told = λ κs r. told single r; passed_back = λ κs e. e }

-- silence, a reply or a collision, of any bytes
abbrev pub line_answer : EntryPoint
line_answer = record { ended = frames.line_answer.ended; routine = program frames-run.line_answer.Symbol.name; promise = frames.line_answer.clauses; refuses = []; told = λ κs r. told_line r; passed_back = λ κs e. e }

-- the check sequence, as C calls it
abbrev pub mvb_check_of : EntryPoint
mvb_check_of = record { ended = mvb.frame_calls.mvb_check_of.ended; routine = program mvb-run.frame_calls.mvb_check_of.Symbol.name; promise = mvb.frame_calls.mvb_check_of.clauses; refuses = []; told = λ κs r. told_code r; passed_back = λ κs e. e }

-- the same as C calls it
abbrev pub mvb_master_read : EntryPoint
mvb_master_read = record { ended = mvb.frame_calls.mvb_master_read.ended; routine = program mvb-run.frame_calls.mvb_master_read.Symbol.name; promise = mvb.frame_calls.mvb_master_read.clauses; refuses = 1 ∷ 2 ∷ 3 ∷ []; told = λ κs r. told_code r; passed_back = λ κs e. e }

-- the same as C calls it
abbrev pub mvb_master_write : EntryPoint
mvb_master_write = record { ended = mvb.frame_calls.mvb_master_write.ended; routine = program mvb-run.frame_calls.mvb_master_write.Symbol.name; promise = mvb.frame_calls.mvb_master_write.clauses; refuses = 3 ∷ 4 ∷ []; told = λ κs r. told_code r; passed_back = λ κs e. e }

-- the same as C calls it
abbrev pub mvb_slave_read : EntryPoint
mvb_slave_read = record { ended = mvb.frame_calls.mvb_slave_read.ended; routine = program mvb-run.frame_calls.mvb_slave_read.Symbol.name; promise = mvb.frame_calls.mvb_slave_read.clauses; refuses = 3 ∷ 1 ∷ 2 ∷ 4 ∷ []; told = λ κs r. told_code r; passed_back = λ κs e. e }

-- the same as C calls it
abbrev pub mvb_slave_write : EntryPoint
mvb_slave_write = record { ended = mvb.frame_calls.mvb_slave_write.ended; routine = program mvb-run.frame_calls.mvb_slave_write.Symbol.name; promise = mvb.frame_calls.mvb_slave_write.clauses; refuses = 3 ∷ 1 ∷ 4 ∷ []; told = λ κs r. told_code r; passed_back = λ κs e. e }

-- ---- telegram times and the guard

-- "A telegram takes 33 + line bits of its Slave Frame + gap"
abbrev pub telegram_bits : EntryPoint
telegram_bits = record { ended = timing.telegram_bits.ended; routine = program timing-run.telegram_bits.Symbol.name; promise = timing.telegram_bits.clauses; refuses = 3 ∷ 6 ∷ []; told = λ κs r. told single r; passed_back = λ κs e. e }

-- "Guard ..: yes exactly if that telegram takes at most r"
abbrev pub guard : EntryPoint
guard = record { ended = timing.guard.ended; routine = program timing-run.guard.Symbol.name; promise = timing.guard.clauses; refuses = 3 ∷ 6 ∷ []; told = λ κs r. told yes r; passed_back = λ κs e. e }

-- the same as C calls it
abbrev pub mvb_telegram_bits : EntryPoint
mvb_telegram_bits = record { ended = mvb.timing_calls.mvb_telegram_bits.ended; routine = program mvb-run.timing_calls.mvb_telegram_bits.Symbol.name; promise = mvb.timing_calls.mvb_telegram_bits.clauses; refuses = 3 ∷ 6 ∷ []; told = λ κs r. told_code r; passed_back = λ κs e. e }

-- the same as C calls it
abbrev pub mvb_guard : EntryPoint
mvb_guard = record { ended = mvb.timing_calls.mvb_guard.ended; routine = program mvb-run.timing_calls.mvb_guard.Symbol.name; promise = mvb.timing_calls.mvb_guard.clauses; refuses = 3 ∷ 6 ∷ []; told = λ κs r. told_code r; passed_back = λ κs e. e }

-- ---- the list file, Basic Periods and the list program's text

-- "a place at or past the end gives 5"
abbrev pub number_at : EntryPoint
number_at = record { ended = numbers.number_at.ended; routine = program numbers-run.number_at.Symbol.name; promise = numbers.number_at.clauses; refuses = 5 ∷ []; told = λ κs r. told value_and_place r; passed_back = λ κs e. e }

-- "a reader that carries the list's bytes and its place"
abbrev pub reader_new : EntryPoint
reader_new = record { ended = numbers.Reader.new.ended; routine = program numbers-run.Reader.new.Symbol.name; promise = numbers.Reader.new.clauses; refuses = []; told = λ κs r. value r.at; passed_back = λ κs e. e }

-- its next number, and the place after it
abbrev pub reader_next : EntryPoint
reader_next = record { ended = numbers.Reader.next.ended; routine = program numbers-run.Reader.next.Symbol.name; promise = numbers.Reader.next.clauses; refuses = 5 ∷ []; told = λ κs r. told value_and_place r; passed_back = λ κs e. e }

-- a number read, after which the reader stands
abbrev pub reader_read : EntryPoint
reader_read = record { ended = numbers.Reader.read.ended; routine = program numbers-run.Reader.read.Symbol.name; promise = numbers.Reader.read.clauses; refuses = 5 ∷ []; told = λ κs r. told single r; passed_back = λ κs e. e }

-- a number through a reader
abbrev pub read_number : EntryPoint
read_number = record { ended = numbers.read_number.ended; routine = program numbers-run.read_number.Symbol.name; promise = numbers.read_number.clauses; refuses = 5 ∷ []; told = λ κs r. told value_and_place r; passed_back = λ κs e. e }

-- numbers one after another, as far as they go
abbrev pub read_numbers : EntryPoint
read_numbers = record { ended = numbers.read_numbers.ended; routine = program numbers-run.read_numbers.Symbol.name; promise = numbers.read_numbers.clauses; refuses = []; told = λ κs r. gives (r.count ∷ r.next ∷ []); passed_back = λ κs e. e }

-- so many numbers, as far as they go, added up
abbrev pub sum_numbers : EntryPoint
sum_numbers = record { ended = numbers.sum_numbers.ended; routine = program numbers-run.sum_numbers.Symbol.name; promise = numbers.sum_numbers.clauses; refuses = []; told = λ κs r. gives (r.total ∷ r.next ∷ []); passed_back = λ κs e. e }

-- "n from 0 to 10 (to 9 for 2 ms)"
abbrev pub cycles_of : EntryPoint
cycles_of = record { ended = lists.cycles_of.ended; routine = program lists-run.cycles_of.Symbol.name; promise = lists.cycles_of.clauses; refuses = []; told = λ κs r. value r; passed_back = λ κs e. e }

-- "1,024 Basic Periods for 1 ms, 512 for 2 ms"
abbrev pub periods_of : EntryPoint
periods_of = record { ended = lists.periods_of.ended; routine = program lists-run.periods_of.Symbol.name; promise = lists.periods_of.clauses; refuses = []; told = λ κs r. value r; passed_back = λ κs e. e }

-- whether a list is accepted
abbrev pub list_check : EntryPoint
list_check = record { ended = lists.list_check.ended; routine = program lists-run.list_check.Symbol.name; promise = lists.list_check.clauses; refuses = list_refusals; told = λ κs r. told header_and_words r; passed_back = λ κs e. e }

-- "all list refusals first, then 12, then 4"
abbrev pub basic_period : EntryPoint
basic_period = record { ended = periods.basic_period.ended; routine = program periods-run.basic_period.Symbol.name; promise = periods.basic_period.clauses; refuses = 12 ∷ 4 ∷ list_refusals; told = λ κs r. told single r; passed_back = λ κs e. e }

-- the list program's text
abbrev pub list_text : EntryPoint
list_text = record { ended = texts.list_text.ended; routine = program texts-run.list_text.Symbol.name; promise = texts.list_text.clauses; refuses = 4 ∷ []; told = λ κs r. told single r; passed_back = λ κs e. e }

-- whether a list is accepted, as C calls it
abbrev pub mvb_list_check : EntryPoint
mvb_list_check = record { ended = mvb.list_calls.mvb_list_check.ended; routine = program mvb-run.list_calls.mvb_list_check.Symbol.name; promise = mvb.list_calls.mvb_list_check.clauses; refuses = list_refusals; told = λ κs r. told_code r; passed_back = λ κs e. e }

-- a Basic Period as C calls it
abbrev pub mvb_basic_period : EntryPoint
mvb_basic_period = record { ended = mvb.list_calls.mvb_basic_period.ended; routine = program mvb-run.list_calls.mvb_basic_period.Symbol.name; promise = mvb.list_calls.mvb_basic_period.clauses; refuses = 12 ∷ 4 ∷ list_refusals; told = λ κs r. told_code r; passed_back = λ κs e. e }

-- the text as C calls it
abbrev pub mvb_list_text : EntryPoint
mvb_list_text = record { ended = mvb.list_calls.mvb_list_text.ended; routine = program mvb-run.list_calls.mvb_list_text.Symbol.name; promise = mvb.list_calls.mvb_list_text.clauses; refuses = 4 ∷ []; told = λ κs r. told_code r; passed_back = λ κs e. e }

-- ---- ports and ages; the calls themselves have the form that C calls

-- whether there is a value
abbrev is_some : {A : Type 0} → Option A → Bool
is_some None = false
is_some (Some x) = true

-- yes, the records and the sinks' bits; or no, and zeros
abbrev tested_values : Option Tested → List ℕ
tested_values None = 0 ∷ 0 ∷ 0 ∷ 0 ∷ 0 ∷ 0 ∷ []
tested_values (Some t) = 1 ∷ t.count ∷ t.sinks

-- goodness test and lookup, over any table
abbrev pub look : EntryPoint
look = record { ended = port-table.look.ended; routine = program port-table-run.look.Symbol.name; promise = port-table.look.clauses; refuses = []; told = λ κs r. yes_no (is_some r); passed_back = λ κs e. e }

-- the goodness test alone: yes or no, the records and the sinks' bits
abbrev pub test_table : EntryPoint
test_table = record { ended = port-table.test_table.ended; routine = program port-table-run.test_table.Symbol.name; promise = port-table.test_table.clauses; refuses = []; told = λ κs r. gives (tested_values r); passed_back = λ κs e. e }

-- "a frame arrives for a sink"
abbrev pub mvb_arrive : EntryPoint
mvb_arrive = record { ended = ports.mvb_arrive.ended; routine = program ports-run.mvb_arrive.Symbol.name; promise = ports.mvb_arrive.clauses; refuses = 13 ∷ 4 ∷ 14 ∷ 15 ∷ 16 ∷ 17 ∷ 1 ∷ 2 ∷ []; told = λ κs r. told_code r; passed_back = λ κs e. e }

-- "a source answers a request"
abbrev pub mvb_answer : EntryPoint
mvb_answer = record { ended = ports.mvb_answer.ended; routine = program ports-run.mvb_answer.Symbol.name; promise = ports.mvb_answer.clauses; refuses = 13 ∷ 4 ∷ 14 ∷ 15 ∷ 16 ∷ 17 ∷ []; told = λ κs r. told_code r; passed_back = λ κs e. e }

-- "the application reads a sink"
abbrev pub mvb_read : EntryPoint
mvb_read = record { ended = ports.mvb_read.ended; routine = program ports-run.mvb_read.Symbol.name; promise = ports.mvb_read.clauses; refuses = 13 ∷ 4 ∷ 15 ∷ 17 ∷ []; told = λ κs r. told_code r; passed_back = λ κs e. e }

-- "or fills a source"
abbrev pub mvb_fill : EntryPoint
mvb_fill = record { ended = ports.mvb_fill.ended; routine = program ports-run.mvb_fill.Symbol.name; promise = ports.mvb_fill.clauses; refuses = 13 ∷ 4 ∷ 15 ∷ 17 ∷ 1 ∷ []; told = λ κs r. told_code r; passed_back = λ κs e. e }

-- "The tick knows only 13 and 4"
abbrev pub mvb_tick : EntryPoint
mvb_tick = record { ended = ports.mvb_tick.ended; routine = program ports-run.mvb_tick.Symbol.name; promise = ports.mvb_tick.clauses; refuses = 13 ∷ 4 ∷ []; told = λ κs r. told_code r; passed_back = λ κs e. e }

-- ---- the event round and the search

-- 2^(12-M)
abbrev pub bound : EntryPoint
bound = record { ended = groups.bound.ended; routine = program groups-run.bound.Symbol.name; promise = groups.bound.clauses; refuses = []; told = λ κs r. value r; passed_back = λ κs e. e }

-- whether {M, C} is a group
abbrev pub is_group : EntryPoint
is_group = record { ended = groups.is_group.ended; routine = program groups-run.is_group.Symbol.name; promise = groups.is_group.clauses; refuses = []; told = λ κs r. yes_no r; passed_back = λ κs e. e }

-- whether an address is in it
abbrev pub in_group : EntryPoint
in_group = record { ended = groups.in_group.ended; routine = program groups-run.in_group.Symbol.name; promise = groups.in_group.clauses; refuses = []; told = λ κs r. yes_no r; passed_back = λ κs e. e }

-- the start
abbrev pub round_start : EntryPoint
round_start = record { ended = rounds.Round.start.ended; routine = program rounds-run.Round.start.Symbol.name; promise = rounds.Round.start.clauses; refuses = 6 ∷ []; told = λ κs r. told Rounds.step_values r; passed_back = λ κs e. e }

-- a step
abbrev pub round_answer : EntryPoint
round_answer = record { ended = rounds.Round.answer.ended; routine = program rounds-run.Round.answer.Symbol.name; promise = rounds.Round.answer.clauses; refuses = 18 ∷ []; told = λ κs r. told Rounds.step_values r; passed_back = λ κs e. e }

-- the search over a lent set
abbrev pub search_set : EntryPoint
search_set = record { ended = search-of.search_set.ended; routine = program search-of-run.search_set.Symbol.name; promise = search-of.search_set.clauses; refuses = 1 ∷ 4 ∷ []; told = λ κs r. told requests_and_reads r; passed_back = λ κs e. e }

-- the start as C calls it
abbrev pub mvb_round_start : EntryPoint
mvb_round_start = record { ended = mvb.round_calls.mvb_round_start.ended; routine = program mvb-run.round_calls.mvb_round_start.Symbol.name; promise = mvb.round_calls.mvb_round_start.clauses; refuses = 6 ∷ 4 ∷ []; told = λ κs r. told_code r; passed_back = λ κs e. e }

-- a step as C calls it
abbrev pub mvb_round_answer : EntryPoint
mvb_round_answer = record { ended = mvb.round_calls.mvb_round_answer.ended; routine = program mvb-run.round_calls.mvb_round_answer.Symbol.name; promise = mvb.round_calls.mvb_round_answer.clauses; refuses = 4 ∷ 18 ∷ []; told = λ κs r. told_code r; passed_back = λ κs e. e }

-- the search as C calls it
abbrev pub mvb_search : EntryPoint
mvb_search = record { ended = mvb.round_calls.mvb_search.ended; routine = program mvb-run.round_calls.mvb_search.Symbol.name; promise = mvb.round_calls.mvb_search.clauses; refuses = 1 ∷ 4 ∷ []; told = λ κs r. told_code r; passed_back = λ κs e. e }

-- all of them
abbrev pub entry_points : List EntryPoint
entry_points =
    refusal_number ∷ refusal_code ∷ check_of ∷ check_of_word ∷ row_of ∷ copy_front ∷ master_read ∷ master_write ∷ slave_read ∷ slave_write ∷ line_answer ∷ mvb_check_of ∷ mvb_master_read ∷ mvb_master_write ∷ mvb_slave_read ∷ mvb_slave_write ∷ telegram_bits ∷ guard ∷ mvb_telegram_bits ∷ mvb_guard ∷ number_at ∷ reader_new ∷ reader_next ∷ reader_read ∷ read_number ∷ read_numbers ∷ sum_numbers ∷ cycles_of ∷ periods_of ∷ list_check ∷ basic_period ∷ list_text ∷ mvb_list_check ∷ mvb_basic_period ∷ mvb_list_text ∷ look ∷ test_table ∷ mvb_arrive ∷ mvb_answer ∷ mvb_read ∷ mvb_fill ∷ mvb_tick ∷ bound ∷ is_group ∷ in_group ∷ round_start ∷ round_answer ∷ search_set ∷ mvb_round_start ∷ mvb_round_answer ∷ mvb_search ∷ []
