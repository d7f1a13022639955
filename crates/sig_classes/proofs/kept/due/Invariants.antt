-- The tasks of the positions that were passed.
use Rattle.std.proofs.Common.{◌≡◌, ◌≤◌, Bool, List, length}
use Rattle.std.specs.List.{AllByRecursion}
use Rattle.sig_classes.specs.Kept.{AreClasses, HaveRoots, HaveSigns}
use Rattle.sig_classes.proofs.TaskLemmas.{AreTasksBefore}
use Rattle.sig_classes.proofs.kept.due.Given as goal

abbrev pub invariant-loop-position : goal.invariant-loop-position
invariant-loop-position l = (patterns : List (List Bool)) → AreClasses l.net patterns l.leaders → HaveRoots l.net l.book.entries l.leaders
    → HaveSigns l.net patterns l.sigs → 1 ≤ length patterns → AllByRecursion (λ bits. length bits ≡ length l.net.a.inputs) patterns
    → AreTasksBefore l.net l.book.entries patterns l.position l.tasks.items
