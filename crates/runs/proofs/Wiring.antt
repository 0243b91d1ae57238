-- For a crate above that shows that an environment has the code of this crate's functions: the table of all of them, and that where a world
-- holds it, and has what they call of the crates below, the code of each function that is public is there whole.
-- Assumes nothing.
use mathlib.Core.Bool.{true}
use prog.Linked.{Tree, World, Holds, in_world}
use prog.LinkedThreads.{HasT}
use Rattle.runs.proofs as here
use Rattle.runs.proofs.TheLink as link

abbrev pub table : Tree
table = link.table

abbrev pub Below : World → Type 0
Below = link.Below

module _ (W : World) (there : Holds W "runs" table) (below : Below W) where
  pub copy_front : HasT (in_world W) true here.copy_front.Symbol.code
  copy_front = link.linked-runs::copy_front W there below
