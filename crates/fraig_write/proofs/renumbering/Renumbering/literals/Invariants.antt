-- The first literals have become what they become.
use Rattle.std.proofs.Common.{◌≡◌, map, take}
use Rattle.fraig_write.specs.Reduced.{root_renumbered}
use Rattle.fraig_write.proofs.renumbering.Renumbering.literals.Given as goal

abbrev pub invariant-loop-literal : goal.invariant-loop-literal
invariant-loop-literal l =
    l.renumbered.items ≡ map (root_renumbered l.net.a l.book.entries l.self.staying) (take l.literal-index l.literals)
