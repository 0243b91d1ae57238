-- What the goodness test showed of a table.
-- Assumes nothing.
use Rattle.std.proofs.Common.{ℕ, zero, suc, ◌<◌, ◌≤◌, ◌≡◌, Bool, true, false, cond, refl, sym, ap, arith, List, length, get_or, Some, None}
use Rattle.port_table.specs.declared.Port.{Port}
use Rattle.port_table.specs.declared.Tested.{Tested}
use Rattle.port_table.specs.Table.{good}
use Rattle.port_table.specs.Tested.{sinks_part, sinks_in, good_tested, tested_of}
use Rattle.port_table.proofs.Tables.{good_split}
use Rattle.port_table.proofs.Walk.{some_none}

-- nothing of a table that is not good
pub tested_bad : (ps : List Port) → None ≡ tested_of ps → good ps ≡ false
unfolding tested_of
tested_bad ps = by (good ps)
  where
    by : (b : Bool) → None ≡ cond b (Some (good_tested ps)) None → b ≡ false
    by true e = absurd (some_none e)
    by false e = refl

-- and all of a good one
pub tested_good : (t : Tested) (ps : List Port) → Some t ≡ tested_of ps → (good ps ≡ true) × (t ≡ good_tested ps)
unfolding tested_of
tested_good t ps = by (good ps)
  where
    by : (b : Bool) → Some t ≡ cond b (Some (good_tested ps)) None → (b ≡ true) × (t ≡ good_tested ps)
    by true e = (refl, (let z : t ≡ good_tested ps = cc in z))
    by false e = absurd (some_none (sym e))

-- which has at most 256 records
pub tested_few : (t : Tested) (ps : List Port) → Some t ≡ tested_of ps → (t.count ≡ length ps) × (length ps ≤ 256)
tested_few t ps e = let g = tested_good t ps e in (ap (λ (s : Tested). s.count) g.1, (good_split ps g.0).0)

-- the parts in their order
pub part_at : (ps : List Port) (k : ℕ) → k < 4 → get_or (sinks_in ps) k 0 ≡ sinks_part ps k
part_at ps zero h = refl
part_at ps (suc zero) h = refl
part_at ps (suc (suc zero)) h = refl
part_at ps (suc (suc (suc zero))) h = refl
part_at ps (suc (suc (suc (suc k)))) h = absurd (omega arith)
