-- The first members of the classes and the tasks of the positions that were passed.
use Rattle.std.proofs.Common.{◌≡◌, Bool, List, length}
use Rattle.netlist.specs.Net.{nodes_of}
use Rattle.word_sim.specs.Rows.{AreSignatures}
use Rattle.sig_classes.specs.Chains.{AreBefore}
use Rattle.sig_classes.specs.Pass.{HasFirsts}
use Rattle.sig_classes.proofs.TaskLemmas.{AreTasksBefore}
use Rattle.sig_classes.proofs.classes.tasks.Given as goal

abbrev pub invariant-loop-position : goal.invariant-loop-position
invariant-loop-position l = record {
  room : length l.firsts.behind ≡ length (nodes_of l.net);
  order : AreBefore l.position l.firsts;
  firsts : HasFirsts l.net l.book.entries l.sigs l.position l.firsts;
  tasks : (patterns : List (List Bool)) → AreSignatures l.net patterns l.sigs → AreTasksBefore l.net l.book.entries patterns l.position l.tasks.items;
}
