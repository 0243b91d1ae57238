-- The starred lines, by one computation.
-- Assumes nothing.
use mathlib.Core.Path.{refl, sym, ap₂, ◌∙◌}
use mathlib.Core.List.{List, ◌∷◌}
use Prim.Native.Nat.{ℕ}
use Rattle.refusals.specs.Told.{gives}
use Rattle.checks.specs.Bits.{bits}
use Rattle.checks.specs.Check.{remainder, plain, check_bits, check_of}
use Rattle.numbers.specs.Number.{number, number_at}
use Rattle.groups.specs.Sets.{devices}
use Rattle.groups.specs.Search.{search_of}
use Rattle.rounds.specs.Lines.{run}
use Rattle.rounds.proofs.Demand as rounds
use Rattle.demands.specs.Demand3.{among}
use Rattle.demands.specs.Starred.{StarredLines}
use Rattle.demands.proofs.Demand3.{reported_of}

pub starred_lines : StarredLines
unfolding bits remainder plain check_bits check_of number number_at search_of devices
starred_lines = record {
  lines = refl;
  rounds = λ set p h line t n l.
      let all = rounds.reads_all (λ a. among a set) p h line t n l in
      ap₂ (λ (k : ℕ) (order : List ℕ). gives (k ∷ order)) (sym (reported_of (run line p n) all (rounds.ends p h line n l)) ∙ all.requests_found) all.order_found;
}
