use Rattle.std.proofs.Common.{◌≡◌, ◌++◌, List, ℕ, ap, ◌∙◌, subst, arith}
use Rattle.std.proofs.lemmas.Result.{err_from_is_err_and}
use Rattle.desk_port.proofs.Facts.{taken-none, taken-more, taken-all, taken-stops}
use Rattle.dimacs_text.specs.CnfText.{literal_word}
use Rattle.dimacs_text.proofs.writing.CnfText.literals.Goals as goal

pub loop-literal-init : goal.loop-literal-init
loop-literal-init g c = taken-none c.args.self.now (g.D.Desk.state c.args.desk.now) (g.D.Desk.sizes c.args.desk.now)

pub loop-literal-preserved : goal.loop-literal-preserved
loop-literal-preserved g c =
    taken-more literal_word c.args.literals.now c.loop-literal.literal-index c.args.self.now c.loop-literal.self
    (g.D.Desk.state c.args.desk.now) (g.D.Desk.state c.loop-literal.desk) (g.D.Desk.sizes c.args.desk.now) (g.D.Desk.sizes c.loop-literal.desk)
    c.loop-literal.invariant
    c.literal-item.result c.literal.new.self (g.D.Desk.state c.literal.new.desk) (g.D.Desk.sizes c.literal.new.desk)
    c.loop-literal-test.true c.literal-item.is
    c.in_ok-literal.ensures.takes c.in_ok-literal.ensures.started

pub returns-in_err-literal-clause-takes : goal.returns-in_err-literal-clause-takes
returns-in_err-literal-clause-takes g c =
    let p = err_from_is_err_and c.from_residual.result c.from_residual.ensures.1 in
    rw (p.1, p.2)
    (taken-stops literal_word c.args.literals.now c.loop-literal.literal-index c.args.self.now c.loop-literal.self
    (g.D.Desk.state c.args.desk.now) (g.D.Desk.state c.loop-literal.desk) (g.D.Desk.sizes c.args.desk.now) (g.D.Desk.sizes c.loop-literal.desk)
    c.loop-literal.invariant
    c.literal-item.result c.literal.new.self (g.D.Desk.state c.literal.new.desk) (g.D.Desk.sizes c.literal.new.desk)
    c.loop-literal-test.true c.literal-item.is c.in_err-literal.field-0.0 c.in_err-literal.ensures.takes)

pub returns-clause-takes : goal.returns-clause-takes
returns-clause-takes g c =
    taken-all literal_word c.args.literals.now c.loop-literal.literal-index c.args.self.now c.loop-literal.self
    (g.D.Desk.state c.args.desk.now) (g.D.Desk.state c.loop-literal.desk) (g.D.Desk.sizes c.args.desk.now) (g.D.Desk.sizes c.loop-literal.desk)
    c.loop-literal.invariant
    c.loop-literal-test.false
