-- The least output that a pattern of the blocks so far tells apart.
use Rattle.std.proofs.Common.{◌*◌, take}
use Rattle.check_session.specs.Blocks.{IsFirstIn}
use Rattle.check_session.proofs.patterns.difference_behind.Given as goal

abbrev pub invariant-loop-block : goal.invariant-loop-block
invariant-loop-block l = IsFirstIn l.net (take (256 * l.block) l.pool.patterns) l.first
