use Rattle.std.proofs.Common.{◌≡◌, ℕ, length, ◌∙◌, subst}
use Rattle.netlist.specs.Miter.{miter_of, variables_of}
use Rattle.desk_port.specs.Pieces.{Takes}
use Rattle.dimacs_text.specs.CnfText.{header_text}
use Rattle.check_session.proofs.miter_text.put_header.Goals as goal

pub returns-clause-takes : goal.returns-clause-takes
returns-clause-takes g c =
    let variables : c.variables.result ≡ length (variables_of c.args.net.now) = c.variables.ensures.count in
    let clauses : c.from.result ≡ length (miter_of c.args.net.now) = c.from.ensures ∙ c.clauses.ensures.count in
    subst (λ (k : ℕ). Takes (header_text (length (variables_of c.args.net.now)) k) c.args.text.now c.header.new.self
    (g.D.Desk.state c.args.desk.now) (g.D.Desk.state c.header.new.desk) (g.D.Desk.sizes c.args.desk.now) (g.D.Desk.sizes c.header.new.desk)
    c.header.result) clauses
    (subst (λ (k : ℕ). Takes (header_text k c.from.result) c.args.text.now c.header.new.self
    (g.D.Desk.state c.args.desk.now) (g.D.Desk.state c.header.new.desk) (g.D.Desk.sizes c.args.desk.now) (g.D.Desk.sizes c.header.new.desk)
    c.header.result) variables c.header.ensures.takes)
