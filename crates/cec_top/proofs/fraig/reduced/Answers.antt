use Rattle.std.proofs.Common.{subst}
use Rattle.netlist.specs.Net.{IsNet}
use Rattle.check_session.specs.declared.options.Options.{Options}
use Rattle.check_session.specs.Reduction.{IsReduction}
use Rattle.command_line.specs.Answers.{fraig_texts}
use Rattle.cec_top.specs.Fraig.{fraig_how}
use Rattle.cec_top.proofs.CheckLemmas.{proofs-of}
use Rattle.cec_top.proofs.FraigLemmas.{is-right}
use Rattle.cec_top.proofs.fraig.reduced.Goals as goal

pub returns-clause-ok : goal.returns-clause-ok
returns-clause-ok g c =
    let s = c.in_ok-circuit.session in
    is-right (fraig_how (fraig_texts c.args.words)) c.args.a c.in_ok-circuit.circuit c.in_ok-circuit.book s
    (subst (λ (o : Options). IsReduction c.args.a o c.in_ok-circuit.circuit c.in_ok-circuit.book s) c.options_of.ensures.options
    c.in_ok-circuit.ensures)
    (subst IsNet c.net.ensures c.is_net.ensures)
    (proofs-of s.net c.net-2.result.now s.book c.book.result.now c.net-2.ensures c.book.ensures c.proves.ensures)
