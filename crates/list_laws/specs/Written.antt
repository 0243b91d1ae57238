-- The second account of a good list file: a list as a value, the rules that it obeys, and the bytes that it is written as (document 01, "The list file").
-- Assumes nothing.
use Rattle.std.specs.Prelude.{ℕ, zero, suc, ◌+◌, ◌*◌, ◌^◌, ◌≤◌, ◌<◌, ◌≡◌, ◌⊎◌, List, [], ◌∷◌, ◌++◌, length, get_or}
use Rattle.numbers.specs.Written.{written}
use Rattle.frames.specs.Words.{f_code_of, address}
use Rattle.numbers.specs.Number.{sum}
use Rattle.lists.specs.Values.{Cycle, PeriodicList, cycles_of, periods_of, words_of}
use Rattle.lists.specs.Sends.{sends, takes}

-- "a count 0 to 256 and that many words", then split numbers where there are any
abbrev pub cycle_numbers : Cycle → List ℕ
cycle_numbers c = length c.words ∷ (c.words ++ c.splits)

-- the numbers of all cycles, one after another
abbrev pub cycles_numbers : List Cycle → List ℕ
cycles_numbers [] = []
cycles_numbers (c ∷ cs) = cycle_numbers c ++ cycles_numbers cs

-- "In order: the number 1; the Basic Period in ms; the gap per telegram; the sporadic reserve; then each cycle"
abbrev pub list_numbers : PeriodicList → List ℕ
list_numbers l = 1 ∷ l.head.ms ∷ l.head.gap ∷ l.head.reserve ∷ cycles_numbers l.cycles

-- the file of a list
abbrev pub file : PeriodicList → List ℕ
file l = written (list_numbers l)

-- every number of a list
abbrev pub All : (ℕ → Type 0) → List ℕ → Type 0
All P [] = Unit {0}
All P (x ∷ l) = P x × All P l

-- "A listed word has F_code 0 to 4 or 15."
abbrev pub Listable : ℕ → Type 0
Listable w = (f_code_of w < 5) ⊎ (f_code_of w ≡ 15)

-- Process Data words that share an address; or a word with F_code 15 again
abbrev pub Clash : ℕ → ℕ → Type 0
Clash v w = ((f_code_of v < 5) × (f_code_of w < 5) × (address v ≡ address w)) ⊎ ((f_code_of w ≡ 15) × (v ≡ w))

-- "A cycle with n at least 1 and a count above 0 is followed by 2^n split numbers, each 0 to 256": others have none
abbrev pub Split : ℕ → List ℕ → List ℕ → Type 0
Split zero ws zs = zs ≡ []
Split (suc n) [] zs = zs ≡ []
Split (suc n) (w ∷ ws) zs = (length zs ≡ 2 ^ suc n) × All (λ z. z ≤ 256) zs × (sum zs ≡ length (w ∷ ws))

-- the rules on a cycle 2^n by itself, its shape among them
pub record CycleObeys (n : ℕ) (c : Cycle) : Type 0 where
  pub count : length c.words ≤ 256
  pub words : All Listable c.words
  pub splits : Split n c.words c.splits

-- the cycles from 2^n on
abbrev pub CyclesObey : ℕ → List Cycle → Type 0
CyclesObey n [] = Unit {0}
CyclesObey n (c ∷ cs) = CycleObeys n c × CyclesObey (suc n) cs

-- the rules of document 01 on a list, its shape among them
pub record Obeys (l : PeriodicList) : Type 0 where
  pub size : length (file l) ≤ 16384
  pub ms : (1 ≤ l.head.ms) × (l.head.ms ≤ 2)
  pub gap : (4 ≤ l.head.gap) × (l.head.gap ≤ 128)
  pub reserve : (67 + l.head.gap ≤ l.head.reserve) × (l.head.reserve ≤ 1500 * l.head.ms)
  pub many : length l.cycles ≡ cycles_of l.head.ms
  pub cycles : CyclesObey 0 l.cycles
  pub once : (i j : ℕ) → i < j → j < length (words_of l.cycles) → Clash (get_or (words_of l.cycles) i 0) (get_or (words_of l.cycles) j 0) → ⊥
  pub fits : (j : ℕ) → j < periods_of l.head.ms → takes l.head.gap (sends l j) + l.head.reserve ≤ 1500 * l.head.ms
  pub frames : (j : ℕ) → j < periods_of l.head.ms → length (sends l j) ≤ 64
