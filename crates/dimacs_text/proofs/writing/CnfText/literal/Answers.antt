use Rattle.std.proofs.Common.{◌≡◌, ◌++◌, List, ℕ, ap, ◌∙◌, subst}
use Rattle.std.proofs.lemmas.Result.{err_from_is_err_and}
use Rattle.desk_port.specs.Pieces.{Takes}
use Rattle.desk_port.proofs.Facts.{stops-none}
use Rattle.dimacs_text.specs.CnfText.{literal_word}
use Rattle.dimacs_text.proofs.writing.CnfText.literal.Goals as goal

pub returns-in_err-set_literal-clause-takes : goal.returns-in_err-set_literal-clause-takes
returns-in_err-set_literal-clause-takes g c =
    let p = err_from_is_err_and c.from_residual.result c.from_residual.ensures.1 in
    rw (p.1, p.2)
    (stops-none (c.args.self.now ++ literal_word c.args.literal) (g.D.Desk.state c.args.desk.now) (g.D.Desk.sizes c.args.desk.now))

pub returns-clause-takes : goal.returns-clause-takes
returns-clause-takes g c =
    let old = g.D.Desk.state c.args.desk.now in
    let new = g.D.Desk.state c.put.new.desk in
    let sizes = g.D.Desk.sizes c.args.desk.now in
    let told = g.D.Desk.sizes c.put.new.desk in
    let word : c.as_slice.result.now ≡ literal_word c.args.literal =
    c.as_slice.ensures.value ∙ c.in_ok-set_literal.ensures in
    subst (λ (l : List ℕ). Takes l c.args.self.now c.put.new.self old new sizes told c.put.result) word
    (subst (λ (h : List ℕ). Takes c.as_slice.result.now h c.put.new.self old new sizes told c.put.result) c.self.view_is
    c.put.ensures.takes)
