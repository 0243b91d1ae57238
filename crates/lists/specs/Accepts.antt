-- The whole list file: accepted, or refused with which number (document 01, "The list file").
-- Assumes nothing.
use Rattle.std.specs.Prelude.{ℕ, List, [], ◌∷◌, Bool, true, false, not, length, leb}
use Rattle.lists.specs.Values.{PeriodicList}
use Rattle.lists.specs.Rules.{Check, unless, also, rules}
use Rattle.lists.specs.Reading.{Read, then, when, took, list_in}
use Rattle.lists.specs.Sends.{overfull, crowded}

-- "Nothing follows"
abbrev pub none : List ℕ → Bool
none [] = true
none (b ∷ rest) = false

-- "After the last cycle 11, then 10, then 19."
unfoldable pub ending : PeriodicList → List ℕ → Check
ending l rest = also (unless 11 (none rest)) (also (unless 10 (not (overfull l))) (unless 19 (not (crowded l))))

-- the list that was read, once it passes those checks
unfoldable pub ended : PeriodicList → List ℕ → Read PeriodicList
ended l rest = when (ending l rest) (took l rest)

-- "1 for the file", "at most 16,384 bytes"; then its numbers; then what follows the last cycle
unfoldable pub accepted : List ℕ → Read PeriodicList
accepted bytes = when (unless 1 (leb (length bytes) 16384)) (then (list_in rules bytes) ended)
