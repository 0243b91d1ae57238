-- The list file, read number by number, "each check at its number as it is read" (document 01, "The list file").
-- Assumes nothing.
use Rattle.std.specs.Prelude.{ℕ, zero, suc, ◌+◌, ◌*◌, ◌^◌, List, [], ◌∷◌, ◌++◌, ◌&&◌, drop, leb}
use Rattle.numbers.specs.Number.{Taken, bad, taken, number}
use Rattle.lists.specs.declared.Header.{Header}
use Rattle.lists.specs.Values.{Cycle, PeriodicList, cycles_of, words_of}
use Rattle.lists.specs.Rules.{Check, right, wrong, unless, Rules}

-- refused with a number; or read, with the bytes after it
pub data Read (X : Type 0) : Type 0 where
  denied : ℕ → Read X
  took : X → List ℕ → Read X

-- one reading after another: the first refusal is the answer
abbrev pub then : {X Y : Type 0} → Read X → (X → List ℕ → Read Y) → Read Y
then (denied n) f = denied n
then (took x rest) f = f x rest

-- a reading that goes on where a check says nothing
abbrev pub when : {X : Type 0} → Check → Read X → Read X
when right r = r
when (wrong n) r = denied n

-- "5: number cut off, not shortest, or above 65,535"
abbrev pub or_five : List ℕ → Taken → Read ℕ
or_five bytes bad = denied 5
or_five bytes (taken v n) = took v (drop n bytes)

-- a number and the bytes after it, or 5
unfoldable pub number_in : List ℕ → Read ℕ
number_in bytes = or_five bytes (number bytes)

-- a number from lo to hi: 5, then "6: number outside its stated range"
unfoldable pub within : ℕ → ℕ → List ℕ → Read ℕ
within lo hi bytes = then (number_in bytes) (λ v rest. when (unless 6 (leb lo v && leb v hi)) (took v rest))

-- "the number 1; the Basic Period in ms, 1 or 2; the gap per telegram, 4 to 128; the sporadic reserve, from 67 + gap to 1,500 x ms"
unfoldable pub after_ms : ℕ → List ℕ → Read Header
after_ms ms bytes =
    then (within 4 128 bytes) (λ gap rest.
    then (within (67 + gap) (1500 * ms) rest) (λ reserve end. took (record { ms = ms; gap = gap; reserve = reserve }) end))

-- the header: "In order: the number 1; the Basic Period in ms, 1 or 2; the gap ..; the sporadic reserve"
unfoldable pub header_in : List ℕ → Read Header
header_in bytes = then (within 1 1 bytes) (λ one rest. then (within 1 2 rest) (λ ms end. after_ms ms end))

-- k words more of a cycle, after the words before it and its own so far
abbrev pub words_in : Rules → ℕ → List ℕ → List ℕ → List ℕ → Read (List ℕ)
words_in r zero before own bytes = took own bytes
words_in r (suc k) before own bytes = then (number_in bytes) (λ w rest. when (r.word (before ++ own) w) (words_in r k before (own ++ w ∷ []) rest))

-- k split numbers more, "each 0 to 256"
abbrev pub splits_in : ℕ → List ℕ → List ℕ → Read (List ℕ)
splits_in zero zs bytes = took zs bytes
splits_in (suc k) zs bytes = then (within 0 256 bytes) (λ z rest. splits_in k (zs ++ z ∷ []) rest)

-- k split numbers, and the rule "after a cycle's last split number"
unfoldable pub summed_in : Rules → ℕ → ℕ → List ℕ → Read (List ℕ)
summed_in r k count bytes = then (splits_in k [] bytes) (λ zs rest. when (r.splits count zs) (took zs rest))

-- "A cycle with n at least 1 and a count above 0 is followed by 2^n split numbers"
unfoldable pub split_in : Rules → ℕ → ℕ → List ℕ → Read (List ℕ)
split_in r zero count bytes = took [] bytes
split_in r (suc n) zero bytes = took [] bytes
split_in r (suc n) (suc c) bytes = summed_in r (2 ^ suc n) (suc c) bytes

-- a cycle 2^n with so many words, after its count
unfoldable pub body_in : Rules → ℕ → List ℕ → ℕ → List ℕ → Read Cycle
body_in r n before count bytes =
    then (words_in r count before [] bytes) (λ ws rest. then (split_in r n count rest) (λ zs end. took (record { words = ws; splits = zs }) end))

-- "a count 0 to 256 and that many words"
unfoldable pub cycle_in : Rules → ℕ → List ℕ → List ℕ → Read Cycle
cycle_in r n before bytes = then (within 0 256 bytes) (λ count rest. body_in r n before count rest)

-- k cycles more, from 2^n on, after the cycles before
abbrev pub cycles_in : Rules → ℕ → ℕ → List Cycle → List ℕ → Read (List Cycle)
cycles_in r zero n cs bytes = took cs bytes
cycles_in r (suc k) n cs bytes = then (cycle_in r n (words_of cs) bytes) (λ c rest. cycles_in r k (suc n) (cs ++ c ∷ []) rest)

-- the header, "then each cycle 2^n, n from 0 to 10 (to 9 for 2 ms)"
unfoldable pub list_in : Rules → List ℕ → Read PeriodicList
list_in r bytes =
    then (header_in bytes) (λ h rest. then (cycles_in r (cycles_of h.ms) 0 [] rest) (λ cs end. took (record { head = h; cycles = cs }) end))
