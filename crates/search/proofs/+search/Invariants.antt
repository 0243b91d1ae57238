-- M falls from a group that collided to its halves.
-- Assumes nothing.
use Rattle.std.proofs.Common.{◌+◌, ◌*◌}
use Rattle.search.proofs.+search.Given as goal

abbrev pub decreases-search : goal.decreases-search
decreases-search l = 2 * l.m + 1

abbrev pub decreases-both : goal.decreases-both
decreases-both l = 2 * l.m
