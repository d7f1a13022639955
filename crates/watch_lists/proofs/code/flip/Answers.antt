use Rattle.std.proofs.Common.{arith}
use Rattle.watch_lists.proofs.FlipLemmas.{flip-even, flip-odd}
use Rattle.watch_lists.proofs.code.flip.Goals as goal

pub returns-then-code-eq0 : goal.returns-then-code-eq0
returns-then-code-eq0 c = flip-even c.args.code (omega arith)

pub returns-else-code-eq0 : goal.returns-else-code-eq0
returns-else-code-eq0 c = flip-odd c.args.code (omega arith)
