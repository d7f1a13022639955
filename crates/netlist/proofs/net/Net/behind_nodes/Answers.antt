use Rattle.std.proofs.Common.{◌≡◌, ◌∙◌, ◌+◌, length, subst}
use Rattle.netlist.specs.Net.{AigPair}
use Rattle.std.specs.Prelude.{slice_index}
use Rattle.netlist.specs.Miter.{defining_clauses}
use Rattle.netlist.proofs.StartLemmas.{count_of}
use Rattle.netlist.proofs.net.Net.behind_nodes.Goals as goal

pub returns-clause-number : goal.returns-clause-number
returns-clause-number c =
    c.first.ensures
    ∙ subst (λ (net : AigPair). slice_index c.self.inside.tables.starts.items c.variables.result ≡ length (defining_clauses net) + 1) c.self.view_is
    (count_of c.self.inside.pair c.self.inside.tables.starts.items c.self.invariant.starts c.variables.result c.variables.ensures.count)
