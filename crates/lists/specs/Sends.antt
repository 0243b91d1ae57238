-- What a Basic Period sends, and what it takes (document 01, "What a Basic Period sends").
-- Assumes nothing.
use Rattle.std.specs.Prelude.{ℕ, zero, suc, ◌+◌, ◌*◌, ◌^◌, ◌%◌, List, [], ◌∷◌, ◌++◌, Bool, false, ◌||◌, length, get_or, take, drop, ltb}
use Rattle.timing.specs.Timing.{telegram_bits}
use Rattle.lists.specs.Values.{Cycle, PeriodicList, periods_of}
use Rattle.frames.specs.Words.{f_code_of}

-- "The first words of a cycle, as many as split number 0 says, are in Subcycle 0, the next in Subcycle 1, and so on"
abbrev pub cut_by : List ℕ → List ℕ → List (List ℕ)
cut_by ws [] = []
cut_by ws (z ∷ zs) = take z ws ∷ cut_by (drop z ws) zs

-- "all of cycle 1 is in Subcycle 0"
abbrev pub subcycles : List ℕ → List ℕ → List (List ℕ)
subcycles ws [] = ws ∷ []
subcycles ws (z ∷ zs) = cut_by ws (z ∷ zs)

-- the words in Subcycle s of a cycle
unfoldable pub subcycle : Cycle → ℕ → List ℕ
subcycle c s = get_or (subcycles c.words c.splits) s []

-- "Basic Period j sends Subcycle j mod 2^n of each cycle, cycles rising, words in list order": of the cycles from 2^n on
abbrev pub sent_from : ℕ → ℕ → List Cycle → List ℕ
sent_from n j [] = []
sent_from n j (c ∷ cs) = subcycle c (j % 2 ^ n) ++ sent_from (suc n) j cs

-- "Basic Period j sends Subcycle j mod 2^n of each cycle, cycles rising, words in list order"
abbrev pub sends : PeriodicList → ℕ → List ℕ
sends l j = sent_from 0 j l.cycles

-- the bit times of the telegrams of some words
abbrev pub takes : ℕ → List ℕ → ℕ
takes gap [] = 0
takes gap (w ∷ ws) = telegram_bits (f_code_of w) gap + takes gap ws

-- does the test hold for a number below k
abbrev pub some : ℕ → (ℕ → Bool) → Bool
some zero test = false
some (suc k) test = test k || some k test

-- "The sum over a Basic Period plus the reserve is at most 1,500 x ms."
unfoldable pub overfull : PeriodicList → Bool
overfull l = some (periods_of l.head.ms) (λ (j : ℕ). ltb (1500 * l.head.ms) (takes l.head.gap (sends l j) + l.head.reserve))

-- "more than 64 frames in a Basic Period": of its listed words, one Master Frame each
unfoldable pub crowded : PeriodicList → Bool
crowded l = some (periods_of l.head.ms) (λ (j : ℕ). ltb 64 (length (sends l j)))
