use Rattle.std.proofs.Common.{length, ap, arith}
use Rattle.netlist.specs.Net.{AigPair}
use Rattle.netlist.proofs.StartLemmas.{length-miter}
use Rattle.netlist.proofs.net.Net.clauses.Goals as goal

pub returns-clause-count : goal.returns-clause-count
returns-clause-count c =
    omega (
      arith,
      length-miter c.args.self.now,
      ap (λ (net : AigPair). length net.a.constraints) c.self.view_is,
      ap (λ (net : AigPair). length net.b.constraints) c.self.view_is,
    )
