use Rattle.std.proofs.Common.{◌∙◌, ◌∷◌, sym, arith}
use Rattle.proof_stitch.specs.Steps.{addition}
use Rattle.proof_stitch.specs.Trimmed.{reached}
use Rattle.proof_stitch.proofs.MarkLemmas.{unmarked, marked-reached, marks-more, marks-kept}
use Rattle.proof_stitch.proofs.reach.reach_step.Goals as goal

pub returns-then-get-eq-UNUSED-clause-marks : goal.returns-then-get-eq-UNUSED-clause-marks
returns-then-get-eq-UNUSED-clause-marks c = λ asked behind has.
    let line = addition c.args.net.now c.args.shown.now c.args.first c.args.id c.args.step.now in
    marks-kept asked (reached asked behind) (reached asked (line ∷ behind)) c.args.marks.now
    (unmarked asked behind c.args.marks.now line has (c.requires.above, c.requires.room) (sym c.get.ensures ∙ c.if-get-eq-UNUSED.true)) has

pub returns-clause-marks : goal.returns-clause-marks
returns-clause-marks c = λ asked behind has.
    let line = addition c.args.net.now c.args.shown.now c.args.first c.args.id c.args.step.now in
    marks-kept asked (line ∷ reached asked behind) (reached asked (line ∷ behind)) c.mark_hints.new.marks
    (marked-reached asked behind c.args.marks.now line has (c.requires.above, c.requires.room) (λ e. c.if-get-eq-UNUSED.false (c.get.ensures ∙ e)))
    (marks-more asked (reached asked behind) c.args.marks.now c.mark_hints.new.marks line has c.mark_hints.ensures.shape c.mark_hints.ensures.marked
    (omega (arith, c.requires.above)))
