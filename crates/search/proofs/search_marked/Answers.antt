-- `search::search_marked` meets its contract: the goals that the check leaves open.
-- Assumes nothing.
use Rattle.std.proofs.Common.{ℕ, List, ◌∙◌, refl, subst}
use Rattle.search.specs.Searches.{in_set}
use Rattle.search.specs.Inside.{Finds}
use Rattle.search.proofs.Layers.{set_marked}
use Rattle.search.proofs.Finding.{set_room}
use Rattle.search.proofs.search_marked.Goals as goal

pub mark_layers-requires : goal.mark_layers-requires
mark_layers-requires c = set_marked c.copy_set.new.any c.copy_set.ensures.1

pub search-requires : goal.search-requires
search-requires c = (refl, set_room c.args.set.now c.args.out.now c.requires.1 _ (c.mark_top.ensures.whole ∙ c.mark_layers.ensures.whole ∙ c.copy_set.ensures.0))

pub returns : goal.returns
returns c =
    subst (λ (bytes : List ℕ). Finds (in_set bytes) 12 0 c.args.out.now c.search.result c.search.new.out) (c.mark_top.ensures.whole ∙ c.mark_layers.ensures.whole ∙ c.copy_set.ensures.0) c.search.ensures
