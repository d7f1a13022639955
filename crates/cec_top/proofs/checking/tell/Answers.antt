use Rattle.std.proofs.Common.{◌≡◌, Ok, Err, subst}
use Rattle.std.proofs.lemmas.Result.{err_from_is_err_and}
use Rattle.netlist.specs.Net.{AigPair}
use Rattle.cec_top.specs.Check.{witness_in}
use Rattle.cec_top.specs.Steps.{WritesOutputs, made_in, wanted_in}
use Rattle.cec_top.proofs.TellLemmas.{is-said, not-left, not-shown}
use Rattle.cec_top.proofs.checking.tell.Goals as goal

pub returns-in_err-text-clause-says : goal.returns-in_err-text-clause-says
returns-in_err-text-clause-says g c = λ due.
    let p = err_from_is_err_and c.from_residual.result c.from_residual.ensures.1 in
    let old = g.D.Desk.state c.args.desk.now in
    let new = g.D.Desk.state c.leave_files.new.desk in
    let m = made_in due c.args.session.now c.args.verdict.now in
    rw (p.1, p.2) (not-left (wanted_in c.args.wants) c.args.number m old old new _ (c.in_err-text.ensures.files due))

pub returns-in_err-leave_witness-clause-says : goal.returns-in_err-leave_witness-clause-says
returns-in_err-leave_witness-clause-says g c = λ due.
    let p = err_from_is_err_and c.from_residual-in_err-leave_witness.result c.from_residual-in_err-leave_witness.ensures.1 in
    let w = wanted_in c.args.wants in
    let old = g.D.Desk.state c.args.desk.now in
    let mid = g.D.Desk.state c.leave_files.new.desk in
    let new = g.D.Desk.state c.leave_witness.new.desk in
    let m = made_in due c.args.session.now c.args.verdict.now in
    let left = subst (λ (net : AigPair). WritesOutputs (witness_in w.witness net m.finding) mid new (Err c.in_err-leave_witness.field-0.0))
    c.net.ensures c.in_err-leave_witness.ensures in
    rw (p.1, p.2) (not-shown w c.args.number m old mid new c.in_ok-text.text (c.in_ok-text.ensures.files due) _ left)

pub returns-in_err-say-clause-says : goal.returns-in_err-say-clause-says
returns-in_err-say-clause-says g c = λ due.
    let p = err_from_is_err_and c.from_residual-in_err-say.result c.from_residual-in_err-say.ensures.1 in
    let w = wanted_in c.args.wants in
    let old = g.D.Desk.state c.args.desk.now in
    let mid = g.D.Desk.state c.leave_files.new.desk in
    let behind = g.D.Desk.state c.leave_witness.new.desk in
    let new = g.D.Desk.state c.say.new.desk in
    let m = made_in due c.args.session.now c.args.verdict.now in
    let left = subst (λ (net : AigPair). WritesOutputs (witness_in w.witness net m.finding) mid behind (Ok tt)) c.net.ensures
    c.in_ok-leave_witness.ensures in
    rw (p.1, p.2)
    (is-said w c.args.number m old mid new c.in_ok-text.text (c.in_ok-text.ensures.files due) behind left c.as_slice.result.now
    c.as_slice.ensures.value (Err c.in_err-say.field-0.0) c.in_err-say.ensures)

pub returns-clause-says : goal.returns-clause-says
returns-clause-says g c = λ due.
    let w = wanted_in c.args.wants in
    let old = g.D.Desk.state c.args.desk.now in
    let mid = g.D.Desk.state c.leave_files.new.desk in
    let behind = g.D.Desk.state c.leave_witness.new.desk in
    let new = g.D.Desk.state c.say.new.desk in
    let m = made_in due c.args.session.now c.args.verdict.now in
    let left = subst (λ (net : AigPair). WritesOutputs (witness_in w.witness net m.finding) mid behind (Ok tt)) c.net.ensures
    c.in_ok-leave_witness.ensures in (
      is-said w c.args.number m old mid new c.in_ok-text.text (c.in_ok-text.ensures.files due) behind left c.as_slice.result.now
          c.as_slice.ensures.value (Ok tt) c.in_ok-say.ensures,
      c.status_of.ensures,
    )
