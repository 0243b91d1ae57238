-- Asking for a Basic Period: "all list refusals first, then 12, then 4" (document 01, "What a Basic Period sends").
-- Assumes nothing.
use Rattle.std.specs.Prelude.{ℕ, List, cond, ltb, leb, length}
use Rattle.lists.specs.Values.{PeriodicList, periods_of}
use Rattle.lists.specs.Reading.{Read, denied, took}
use Rattle.lists.specs.Accepts.{accepted}
use Rattle.lists.specs.Sends.{sends}

-- the order of checks for Basic Period j of what was read, with so many places for its words
abbrev pub asked_by {ℓ} : {A : Type ℓ} → Read PeriodicList → ℕ → ℕ → (ℕ → A) → (List ℕ → A) → A
asked_by (denied n) j room refused done = refused n
asked_by (took l rest) j room refused done = cond (ltb j (periods_of l.head.ms)) (cond (leb (length (sends l j)) room) (done (sends l j)) (refused 4)) (refused 12)

-- the order of checks of a Basic Period: "all list refusals first, then 12, then 4"
unfoldable pub period_by {ℓ} : {A : Type ℓ} → List ℕ → ℕ → ℕ → (ℕ → A) → (List ℕ → A) → A
period_by list j room refused done = asked_by (accepted list) j room refused done
