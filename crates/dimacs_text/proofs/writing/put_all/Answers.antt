use Rattle.std.proofs.Common.{◌≡◌, ◌++◌, List, ℕ, length, ap, ◌∙◌, subst}
use Rattle.std.proofs.lemmas.Result.{err_from_is_err_and}
use Rattle.std.specs.List.{flat_map}
use Rattle.desk_port.proofs.Facts.{stops-first, takes-then}
use Rattle.dimacs_text.specs.CnfText.{cnf_text, clause_text, header_text}
use Rattle.dimacs_text.proofs.writing.put_all.Goals as goal

pub returns-in_err-header-clause-takes : goal.returns-in_err-header-clause-takes
unfolding cnf_text
returns-in_err-header-clause-takes g c =
    let p = err_from_is_err_and c.from_residual.result c.from_residual.ensures.1 in
    rw (p.1, p.2)
    (stops-first (header_text c.args.variables (length c.args.clauses.now)) (flat_map clause_text c.args.clauses.now) c.args.text.now
    c.in_err-header.field-0.0 (g.D.Desk.state c.args.desk.now) (g.D.Desk.state c.header.new.desk)
    (g.D.Desk.sizes c.args.desk.now) (g.D.Desk.sizes c.header.new.desk) c.in_err-header.ensures.takes)

pub returns-clause-takes : goal.returns-clause-takes
unfolding cnf_text
returns-clause-takes g c =
    takes-then (header_text c.args.variables (length c.args.clauses.now)) (flat_map clause_text c.args.clauses.now) c.args.text.now
    c.header.new.self c.put_clauses.new.text
    (g.D.Desk.state c.args.desk.now) (g.D.Desk.state c.header.new.desk) (g.D.Desk.state c.put_clauses.new.desk)
    (g.D.Desk.sizes c.args.desk.now) (g.D.Desk.sizes c.header.new.desk) (g.D.Desk.sizes c.put_clauses.new.desk)
    c.put_clauses.result c.in_ok-header.ensures.takes c.put_clauses.ensures.takes
