use Rattle.std.proofs.Common.{◌≡◌, ◌++◌, List, ℕ, ap, ◌∙◌, subst}
use Rattle.std.proofs.lemmas.Result.{err_from_is_err_and}
use Rattle.std.specs.Prelude.{codes}
use Rattle.std.specs.List.{flat_map}
use Rattle.desk_port.proofs.Facts.{stops-first, takes-then}
use Rattle.dimacs_text.specs.CnfText.{clause_text, literal_word}
use Rattle.dimacs_text.proofs.writing.CnfText.clause.Goals as goal

pub returns-in_err-literals-clause-takes : goal.returns-in_err-literals-clause-takes
unfolding clause_text
returns-in_err-literals-clause-takes g c =
    let p = err_from_is_err_and c.from_residual.result c.from_residual.ensures.1 in
    rw (p.1, p.2)
    (stops-first (flat_map literal_word c.args.literals.now) (codes "0\n") c.args.self.now c.in_err-literals.field-0.0
    (g.D.Desk.state c.args.desk.now) (g.D.Desk.state c.literals.new.desk) (g.D.Desk.sizes c.args.desk.now) (g.D.Desk.sizes c.literals.new.desk)
    c.in_err-literals.ensures.takes)

pub returns-clause-takes : goal.returns-clause-takes
unfolding clause_text
returns-clause-takes g c =
    takes-then (flat_map literal_word c.args.literals.now) (codes "0\n") c.args.self.now c.literals.new.self c.end_clause.new.self
    (g.D.Desk.state c.args.desk.now) (g.D.Desk.state c.literals.new.desk) (g.D.Desk.state c.end_clause.new.desk)
    (g.D.Desk.sizes c.args.desk.now) (g.D.Desk.sizes c.literals.new.desk) (g.D.Desk.sizes c.end_clause.new.desk)
    c.end_clause.result c.in_ok-literals.ensures.takes c.end_clause.ensures.takes
