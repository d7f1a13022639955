use Rattle.std.proofs.Common.{◌∙◌, refl, sym}
use Rattle.proof_stitch.specs.Steps.{addition}
use Rattle.proof_stitch.proofs.ProgressLemmas.{skip-goes, write-goes}
use Rattle.proof_stitch.proofs.entries.push_step.Goals as goal

pub returns-then-get-eq-UNUSED-clause-text : goal.returns-then-get-eq-UNUSED-clause-text
returns-then-get-eq-UNUSED-clause-text g c = λ asked all left has.
    skip-goes (addition c.args.net.now c.args.shown.now c.args.first c.args.id c.args.step.now) c.args.marks.now c.args.id
    (g.D.Desk.state c.args.desk.now) (g.D.Desk.sizes c.args.desk.now) has c.requires.is_step (sym c.get.ensures ∙ c.if-get-eq-UNUSED.true)

pub returns-clause-text : goal.returns-clause-text
returns-clause-text g c = λ asked all left has.
    write-goes c.args.marks.now.clauses asked all left c.args.names.now c.args.proof.now c.args.net.now c.args.shown.now c.args.marks.now c.args.first c.args.id c.args.step.now c.write_step.new.names
    c.write_step.new.proof (g.D.Desk.state c.args.desk.now) (g.D.Desk.state c.write_step.new.desk) (g.D.Desk.sizes c.args.desk.now)
    (g.D.Desk.sizes c.write_step.new.desk) c.write_step.result refl has c.requires.is_step c.requires.alike c.requires.small
    (λ e. c.if-get-eq-UNUSED.false (c.get.ensures ∙ e)) c.write_step.ensures.shape c.write_step.ensures.named c.write_step.ensures.takes
    c.write_step.ensures.last c.write_step.ensures.lines
