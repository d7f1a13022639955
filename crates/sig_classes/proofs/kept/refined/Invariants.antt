-- The first members of the classes and the least positions of those that were passed.
use Rattle.std.proofs.Common.{◌≡◌, length}
use Rattle.netlist.specs.Net.{nodes_of}
use Rattle.sig_classes.specs.Chains.{AreBefore}
use Rattle.sig_classes.specs.Kept.{AreLeast, HasLeasts}
use Rattle.sig_classes.proofs.kept.refined.Given as goal

abbrev pub invariant-loop-position : goal.invariant-loop-position
invariant-loop-position l = record {
  room : length l.firsts.behind ≡ length (nodes_of l.net);
  order : AreBefore l.position l.firsts;
  firsts : HasLeasts l.classes l.sigs l.position l.firsts;
  least : AreLeast l.classes l.sigs l.position l.leaders.items;
}
