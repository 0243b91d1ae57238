-- Document 01, "Lines to check by hand": the starred lines, one table and one statement over the definitions.
-- The others are run: `hand_lines` asks the lists' lines of this library, `round_cases` has the line that always collides, and `list_cases` the
-- example of the list program.
-- Assumes nothing.
use Rattle.std.specs.Prelude.{◌≡◌, List, [], ◌∷◌, map, ℕ, ◌+◌, ◌*◌, ◌/◌, ◌≤◌}
use Rattle.refusals.specs.Told.{Told, gives, refusal}
use Rattle.checks.specs.Check.{check_of}
use Rattle.numbers.specs.Number.{number_at}
use Rattle.groups.specs.Search.{search_of}
use Rattle.rounds.specs.Lines.{Line, run}
use Rattle.rounds.specs.Demand.{Truthful, read_order}
use Rattle.demands.specs.Demand3.{among, requests_in}

-- what a line speaks of: a block; the bytes of a number; the devices that have an event; the bound for k
pub data Case : Type 0 where
  block : List ℕ → Case
  number : List ℕ → Case
  devices : List ℕ → Case
  bound : ℕ → Case

-- what the definitions say: the check sequence; the number and the place after it, or its refusal; the requests, then the reads in order
abbrev pub says : Case → Told
says (block bytes) = gives (check_of bytes ∷ [])
says (number bytes) = number_at bytes 0
says (devices set) = gives ((search_of (λ a. among a set) 12 0).requests ∷ (search_of (λ a. among a set) 12 0).order)
says (bound k) = gives ((1 + 24 * (k / 2)) ∷ [])

-- a line: what it speaks of, and what document 01 says of it
pub record Starred : Type 0 where
  pub of : Case
  pub is : Told

-- the table
abbrev pub starred : List Starred
starred =
    -- "Block 0000: FF."
    record { of = block (0x00 ∷ 0x00 ∷ []); is = gives (0xFF ∷ []) }
    -- "Block 0001: 34."
    ∷ record { of = block (0x00 ∷ 0x01 ∷ []); is = gives (0x34 ∷ []) }
    -- "Block 0002: A1."
    ∷ record { of = block (0x00 ∷ 0x02 ∷ []); is = gives (0xA1 ∷ []) }
    -- "Numbers: FF FF 03 is 65,535."
    ∷ record { of = number (0xFF ∷ 0xFF ∷ 0x03 ∷ []); is = gives (65535 ∷ 3 ∷ []) }
    -- "80 80 04: 5."
    ∷ record { of = number (0x80 ∷ 0x80 ∷ 0x04 ∷ []); is = refusal 5 }
    -- "80 00: 5."
    ∷ record { of = number (0x80 ∷ 0x00 ∷ []); is = refusal 5 }
    -- "No device: 1 request, 0 reads."
    ∷ record { of = devices []; is = gives (1 ∷ []) }
    -- "{005}: 1 request, 1 read."
    ∷ record { of = devices (0x005 ∷ []); is = gives (1 ∷ 0x005 ∷ []) }
    -- "{001, 002}: 3 requests; reads 002, 001."
    ∷ record { of = devices (0x001 ∷ 0x002 ∷ []); is = gives (3 ∷ 0x002 ∷ 0x001 ∷ []) }
    -- "{F05, 805, 505}: 21 requests; reads 805, 505, F05."
    ∷ record { of = devices (0xF05 ∷ 0x805 ∷ 0x505 ∷ []); is = gives (21 ∷ 0x805 ∷ 0x505 ∷ 0xF05 ∷ []) }
    -- "{000, 800}: 25 requests, the bound for k = 2."
    ∷ record { of = devices (0x000 ∷ 0x800 ∷ []); is = gives (25 ∷ 0x000 ∷ 0x800 ∷ []) }
    ∷ record { of = bound 2; is = gives (25 ∷ []) }
    ∷ []

-- the statement: of each line the definitions say what document 01 says
pub record StarredLines : Type 0 where
  pub lines : map (λ (l : Starred). says l.of) starred ≡ map (λ (l : Starred). l.is) starred
  -- and a round of such devices, on any truthful line, does what the definitions say of them
  pub rounds : (set : List ℕ) (params : ℕ) → params ≤ 4095 → (line : Line) → Truthful (λ a. among a set) params line → (n : ℕ) → 12287 ≤ n
      → gives (requests_in (run line params n) ∷ read_order (run line params n).sent) ≡ says (devices set)
