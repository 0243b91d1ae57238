-- Each byte stands at its place.
-- Assumes nothing.
use Rattle.list_text.proofs.CopyLaws.{all_set}
use Rattle.list_text.proofs.line.copy_eight.Goals as goal

pub returns : goal.returns
returns c = all_set 8 c.args.from.now c.args.to.now c.requires.0 c.requires.1
