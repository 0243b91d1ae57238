-- What the functions inside this crate promise each other of a reading.
-- Assumes nothing.
use Rattle.std.specs.Prelude.{◌≡◌, ℕ, ◌+◌, ◌*◌, ◌≤◌, List, Result, Ok, Err}
use Rattle.refusals.specs.declared.Refusal.{Refusal}
use Rattle.refusals.specs.Refusals.{number_of}
use Rattle.lists.specs.declared.Header.{Header}
use Rattle.lists.specs.Rules.{Rules}
use Rattle.lists.specs.Reading.{Read, denied, took, then, when, number_in}

-- a function's answer, seen by view, and the bytes that it left are what a reading gives
abbrev pub Gives : {X Y : Type 0} → (X → Y) → Result X Refusal → List ℕ → Read Y → Type 0
Gives view (Ok x) rest read = read ≡ took (view x) rest
Gives view (Err r) rest read = read ≡ denied (number_of r)

-- a function read some x, of which P holds, and left these bytes; or it gives the reading's refusal
abbrev pub Reads : {X Y : Type 0} → Result Y Refusal → List ℕ → Read X → (X → Type 0) → Type 0
Reads {X} (Ok y) rest read P = (x : X) × (read ≡ took x rest) × P x
Reads (Err r) rest read P = read ≡ denied (number_of r)

-- a word after the words before it: 5, then its rule
abbrev pub word_in : Rules → List ℕ → List ℕ → Read ℕ
word_in r before bytes = then (number_in bytes) (λ w rest. when (r.word before w) (took w rest))

-- a header as it is read
pub record GoodHead (h : Header) : Type 0 where
  pub ms_low : 1 ≤ h.ms
  pub ms_high : h.ms ≤ 2
  pub gap_low : 4 ≤ h.gap
  pub gap_high : h.gap ≤ 128
  pub reserve_low : 67 + h.gap ≤ h.reserve
  pub reserve_high : h.reserve ≤ 1500 * h.ms
