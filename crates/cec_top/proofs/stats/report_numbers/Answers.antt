use Rattle.std.proofs.Common.{refl, subst}
use Rattle.netlist.specs.Net.{AigPair}
use Rattle.cec_top.specs.Stats.{AreSizesOf}
use Rattle.cec_top.proofs.WarnedLemmas.{reports-numbers}
use Rattle.cec_top.proofs.stats.report_numbers.Goals as goal

pub returns-in-Ok : goal.returns-in-Ok
returns-in-Ok g c =
    let s = c.args.session.now in
    reports-numbers s.net s.book.entries c.args.marks.proof_lines (g.D.Desk.state c.args.desk.now) (g.D.Desk.state c.warn_numbers.new.desk) _
    (record {
      sizes_are = subst (λ (net : AigPair). AreSizesOf net c.in-Ok.sizes) c.net.ensures c.in-Ok.ensures;
      counts_are = c.counts.ensures.entries_are;
      lines_are = refl;
    }) c.warn_numbers.ensures
