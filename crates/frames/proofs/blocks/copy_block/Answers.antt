-- Each byte stands at its place.
-- Assumes nothing.
use Rattle.std.proofs.Common.{arith}
use Rattle.frames.proofs.CopyStep.{all_set}
use Rattle.frames.proofs.blocks.copy_block.Goals as goal

pub returns-in-len2 : goal.returns-in-len2
returns-in-len2 c = all_set 2 c.args.from.now c.args.to.now (omega arith) c.requires

pub returns-in-len8 : goal.returns-in-len8
returns-in-len8 c = all_set 8 c.args.from.now c.args.to.now (omega arith) c.requires
