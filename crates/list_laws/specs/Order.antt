-- A list file number by number: what each number has to be, and the first that fails its check (document 01: "Checks, each at its number as it is read: 5, 6, 7, 8; 9 after a cycle's last split number. After the last cycle 11, then 10, then 19.").
-- Assumes nothing.
use Rattle.std.specs.Prelude.{ℕ, zero, suc, ◌+◌, ◌*◌, ◌^◌, ◌≡◌, List, [], ◌∷◌, ◌++◌, cond, ◌&&◌, length, drop, leb, eqb}
use Rattle.numbers.specs.Number.{bad, taken, number}
use Rattle.lists.specs.declared.Header.{Header}
use Rattle.lists.specs.Values.{Cycle, PeriodicList, cycles_of, words_of}
use Rattle.lists.specs.Rules.{Check, right, wrong, unless, also, word_rule, split_rule}
use Rattle.lists.specs.Accepts.{ending}

-- what the next number has to be
pub data Want : Type 0 where
  -- the number 1
  one : Want
  -- the Basic Period in ms
  ms : Want
  -- the gap, after the ms
  gap : ℕ → Want
  -- the reserve, after the ms and the gap
  reserve : ℕ → ℕ → Want
  -- the count of the cycle after these
  count : Header → List Cycle → Want
  -- a word of the cycle after these, with its words so far; so many more follow it
  word : Header → List Cycle → List ℕ → ℕ → Want
  -- a split number of the cycle after these, with its words and its split numbers so far; so many more follow it
  split : Header → List Cycle → List ℕ → List ℕ → ℕ → Want

-- a number, or nothing more
pub data Due : Type 0 where
  want : Want → Due
  over : PeriodicList → Due

-- after some cycles: the next, or the end
abbrev pub after_cycles : Header → List Cycle → Due
after_cycles h cs = cond (eqb (length cs) (cycles_of h.ms)) (over (record { head = h; cycles = cs })) (want (count h cs))

-- k split numbers more
abbrev pub splits_due : Header → List Cycle → List ℕ → List ℕ → ℕ → Due
splits_due h cs ws zs zero = after_cycles h (cs ++ record { words = ws; splits = zs } ∷ [])
splits_due h cs ws zs (suc k) = want (split h cs ws zs k)

-- after the last word of a cycle 2^n
abbrev pub after_words : ℕ → Header → List Cycle → List ℕ → Due
after_words zero h cs ws = after_cycles h (cs ++ record { words = ws; splits = [] } ∷ [])
after_words (suc n) h cs [] = after_cycles h (cs ++ record { words = []; splits = [] } ∷ [])
after_words (suc n) h cs (w ∷ ws) = splits_due h cs (w ∷ ws) [] (2 ^ suc n)

-- k words more
abbrev pub words_due : Header → List Cycle → List ℕ → ℕ → Due
words_due h cs ws zero = after_words (length cs) h cs ws
words_due h cs ws (suc k) = want (word h cs ws k)

-- "6: number outside its stated range"
abbrev pub range : ℕ → ℕ → ℕ → Check
range lo hi v = unless 6 (leb lo v && leb v hi)

-- the checks at a number, after 5
abbrev pub check : Want → ℕ → Check
check one v = range 1 1 v
check ms v = range 1 2 v
check (gap p) v = range 4 128 v
check (reserve p g) v = range (67 + g) (1500 * p) v
check (count h cs) v = range 0 256 v
check (word h cs ws k) v = word_rule (words_of cs ++ ws) v
check (split h cs ws zs zero) v = also (range 0 256 v) (split_rule (length ws) (zs ++ v ∷ []))
check (split h cs ws zs (suc k)) v = range 0 256 v

-- what is due after a number
abbrev pub next : Want → ℕ → Due
next one v = want ms
next ms v = want (gap v)
next (gap p) v = want (reserve p v)
next (reserve p g) v = after_cycles (record { ms = p; gap = g; reserve = v }) []
next (count h cs) v = words_due h cs [] v
next (word h cs ws k) v = words_due h cs (ws ++ v ∷ []) k
next (split h cs ws zs k) v = splits_due h cs ws (zs ++ v ∷ []) k

-- the first number of some bytes that fails its check, and with which refusal
pub data Refuses : Due → List ℕ → ℕ → Type 0 where
  -- it cannot be read
  unreadable : {w : Want} {bytes : List ℕ} → number bytes ≡ bad → Refuses (want w) bytes 5
  -- it fails its check
  fails : {w : Want} {bytes : List ℕ} {v n m : ℕ} → number bytes ≡ taken v n → check w v ≡ wrong m → Refuses (want w) bytes m
  -- it passes, and a later one fails
  later : {w : Want} {bytes : List ℕ} {v n m : ℕ} → number bytes ≡ taken v n → check w v ≡ right → Refuses (next w v) (drop n bytes) m → Refuses (want w) bytes m
  -- all numbers pass, and the end fails
  at-end : {l : PeriodicList} {bytes : List ℕ} {m : ℕ} → ending l bytes ≡ wrong m → Refuses (over l) bytes m
