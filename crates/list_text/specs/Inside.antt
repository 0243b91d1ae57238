-- What the functions inside this crate promise each other.
-- Assumes nothing.
use Rattle.std.specs.Prelude.{ℕ, ◌+◌, ◌*◌, ◌/◌, ◌%◌, ◌≤◌, ◌≡◌, List, [], ◌∷◌, ◌++◌, cond, leb, length, take, drop}
use Rattle.lists.specs.declared.Accepted.{Accepted}
use Rattle.numbers.specs.Written.{written, Most}
use Rattle.lists.specs.Values.{Cycle, PeriodicList, words_of}
use Rattle.lists.specs.Sends.{subcycles}
use Rattle.lists.specs.Reading.{took}
use Rattle.list_laws.specs.Written.{Obeys, file}
use Rattle.list_text.specs.Text.{digit, subcycle_lines, cycle_lines, text_of}
use Rattle.periods.specs.Inside.{CycleHere, SplitHere, IsList}

-- the digit of a number that counts units of this size; none where the number is smaller
unfoldable pub place : ℕ → ℕ → List ℕ
place n unit = cond (leb unit n) (digit (n / unit % 10) ∷ []) []

-- the lent bytes with some bytes written at a place
abbrev pub wrote_at : ℕ → List ℕ → List ℕ → List ℕ
wrote_at at bytes out = take at out ++ (bytes ++ drop (at + length bytes) out)

-- the place after some bytes, which were written at a place where there is room for them
pub record Wrote (at : ℕ) (bytes out out' : List ℕ) (r : ℕ) : Type 0 where
  pub next : r ≡ at + length bytes
  pub out_is : r ≤ length out → out' ≡ wrote_at at bytes out

-- so many lines more, of at most 15 bytes each, end below a place that no text reaches
abbrev pub Few : ℕ → ℕ → Type 0
Few at lines = at + 15 * lines ≤ 100000

-- so many words stand at a place, then other bytes
pub record WordsHere (s : List ℕ) (at many to : ℕ) : Type 0 where
  pub words : List ℕ
  pub rest : List ℕ
  pub long : length words ≡ many
  pub most : Most words
  pub bytes : drop at s ≡ written words ++ rest
  pub few : Few to many

-- so many words come next, then other bytes: at this place, where the text so far has room
pub record WordsNext (s : List ℕ) (at many to room : ℕ) : Type 0 where
  pub words : List ℕ
  pub rest : List ℕ
  pub long : length words ≡ many
  pub most : Most words
  pub bytes : to ≤ room → drop at s ≡ written words ++ rest
  pub few : Few to many

-- some lines were written, and where there was room for them the list was read as far as the bytes after them
abbrev pub WordsPut : List ℕ → ℕ → List ℕ → List ℕ → List ℕ → List ℕ → ℕ → ℕ → Type 0
WordsPut s to lines rest out out' r next = Wrote to lines out out' r × (r ≤ length out → drop next s ≡ rest)

-- some lines were written, and the list was read as far as the bytes after them
abbrev pub LinesPut : List ℕ → ℕ → List ℕ → List ℕ → List ℕ → List ℕ → ℕ → ℕ → Type 0
LinesPut s to lines rest out out' r next = Wrote to lines out out' r × (drop next s ≡ rest)

-- the lines of a cycle
abbrev pub lines_of : ℕ → Cycle → List ℕ
lines_of size c = subcycle_lines size 0 (subcycles c.words c.splits)

-- a cycle with split numbers stands at a place, after its count
pub record SplitFew (s : List ℕ) (at count size to : ℕ) : Type 0 where
  pub here : SplitHere s at count size
  pub few : Few to count

-- the same of any cycle
pub record CycleFew (s : List ℕ) (at size to : ℕ) : Type 0 where
  pub here : CycleHere s at size
  pub few : Few to (length here.c.words)

-- the bytes are the file of a list that obeys the rules
pub record CyclesHere (s : List ℕ) (ms at : ℕ) : Type 0 where
  pub known : IsList s ms
  pub few : Few at (length (words_of known.l.cycles))

-- the lines of all cycles of the list in these bytes were written
abbrev pub CyclesWrote : List ℕ → ℕ → List ℕ → List ℕ → ℕ → Type 0
CyclesWrote s at out out' r = (l : PeriodicList) → Obeys l → file l ≡ s → Wrote at (cycle_lines 0 l.cycles) out out' r

-- the bytes are the file of a list that obeys the rules, with this header and so many words
pub record ListHere (s : List ℕ) (a : Accepted) : Type 0 where
  pub known : IsList s a.header.ms
  pub gap : a.header.gap ≡ known.l.head.gap
  pub reserve : a.header.reserve ≡ known.l.head.reserve
  pub count : a.words ≡ length (words_of known.l.cycles)

-- the whole text of the list in these bytes was written
abbrev pub TextWrote : List ℕ → List ℕ → List ℕ → ℕ → Type 0
TextWrote s out out' r = (l : PeriodicList) → Obeys l → file l ≡ s → Wrote 0 (text_of (took l [])) out out' r
