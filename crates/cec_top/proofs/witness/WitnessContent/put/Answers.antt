use Rattle.std.proofs.lemmas.Result.{err_from_is_err_and}
use Rattle.desk_port.proofs.Facts.{stops-none}
use Rattle.cec_top.specs.Witness.{witness_text}
use Rattle.cec_top.proofs.witness.WitnessContent.put.Goals as goal

pub returns-in_err-text-clause-puts : goal.returns-in_err-text-clause-puts
returns-in_err-text-clause-puts g c =
    let p = err_from_is_err_and c.from_residual.result c.from_residual.ensures.1 in
    rw (p.1, p.2)
    (stops-none (witness_text c.args.self.now.circuit.now c.args.self.now.input.now) (g.D.Desk.state c.args.desk.now) (g.D.Desk.sizes c.args.desk.now))
