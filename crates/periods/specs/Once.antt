-- How often a word goes out (demand 2: "each of its frames goes out in exactly one Basic Period of any run as long as its cycle").
-- Assumes nothing.
use Rattle.std.specs.Prelude.{ℕ, ◌+◌, ◌%◌, ◌<◌, ◌≡◌, List, [], ◌∷◌, eqb}
use Rattle.checks.specs.Bits.{one}
use Rattle.lists.specs.Values.{PeriodicList, periods_of}
use Rattle.lists.specs.Sends.{sends}

-- how often a word stands in a list
abbrev pub times : ℕ → List ℕ → ℕ
times w [] = 0
times w (v ∷ l) = one (eqb v w) + times w l

-- how often a word goes out in Basic Period j, the Macro_Cycle repeating
abbrev pub sent_in : PeriodicList → ℕ → ℕ → ℕ
sent_in l w j = times w (sends l (j % periods_of l.head.ms))

-- in one Basic Period of the run of k from a on, and there once; in no other of the run
pub record OnceIn (l : PeriodicList) (w a k : ℕ) : Type 0 where
  pub t : ℕ
  pub within : t < k
  pub there : sent_in l w (a + t) ≡ 1
  pub nowhere_else : (u : ℕ) → u < k → (u ≡ t → ⊥) → sent_in l w (a + u) ≡ 0
